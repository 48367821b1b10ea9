-- Registers of a function that is found by its path.
--     number_found      the number of some bytes, by the index at which it is found
use Rattle.std.{proofs.Common.{◌≡◌, ℕ, [], None, Some, Option, slice_get, refl, sym, arith}, specs.{Prelude.{find, option_and_then, option_map, unwrap_or}, Option.option_map_or}}
use Rattle.model_registers.{specs.{Registers.{config, number, all_bytes}}, proofs.Parts.read_none}
use Rattle.model_board.specs.{Paths.{Path, path_eq}, Ports.file_at, State.{BoardFunction, State}}

module _ (s t : State) (p : Path) (i : Option ℕ) (off w : ℕ) where
  abbrev held : Option BoardFunction → ℕ
  held o = unwrap_or (option_map (λ (f : BoardFunction). number f.file (config off) w) o) 0

  number_held : (o : Option BoardFunction) → held o ≡ number (option_map_or (λ (f : BoardFunction). f.file) o []) (config off) w
  number_held None = sym (read_none (all_bytes w) (config off))
  number_held (Some f) = refl

  pub number_found : option_and_then (slice_get s.functions) i ≡ find (λ (f : BoardFunction). path_eq f.path p) s.functions → s ≡ t
      → held (option_and_then (slice_get s.functions) i) ≡ number (file_at t.functions p) (config off) w
  number_found found same = grind (arith, number_held)
