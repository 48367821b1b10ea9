-- The place that a raise names, by the regions that are kept at the indices of their registers.
use Rattle.std.{proofs.{Common.{◌≡◌, ℕ, zero, suc, ◌+◌, ◌<◌, ◌&&◌, ◌||◌, Bool, true, false, cond, eqb, List, [], ◌∷◌, Some, None, Option, refl, sym, ap, ◌∙◌, arith}, lemmas.Bool.Decides.nat_tests}, specs.{Prelude.{map, is_some, nat_lt, slice_get}, List.list_any, Option.option_map_or}}
use Rattle.model_registers.specs.{Registers.{Place, block, File, raise}, Declarations.Region, EndpointTable.BaseAddress, OwnCopies.is_own, Decoding.{Function, base_address}}
use Rattle.model_board.specs.{Paths.Path, State.{BoardFunction, with_file, State}, Ports.file_at}
use Rattle.model_guests.specs.{Accesses.in_region, Slots.raise_place}
use Rattle.bars.specs.{Slots.{bases_from, slot_at}, declared.region.BarWithBase.BarWithBase}
use Rattle.bridge_forward.proofs.Changes.{same_files}
use Rattle.host_bridge.specs.ByIndex.{with_file_nth}
use Rattle.monitor.specs.{declared.guest.AssignedFunction.AssignedFunction, Keeping.IsHeld, Raises.raised_beside_copies}

-- ---- a region in the six registers

-- a base address register at an index, with an offset below its size
abbrev reaches : ℕ → ℕ → BaseAddress → Bool
reaches n off x = eqb x.index n && nat_lt off x.size

abbrev kept_size : ℕ → Option BarWithBase → Bool
kept_size off o = option_map_or (λ (r : BarWithBase). nat_lt off r.decl.size) o false

none_below : (n k off : ℕ) (slots : List (Option BarWithBase)) → n < k → list_any (reaches n off) (bases_from k slots) ≡ false
none_below n k off [] h = refl
none_below n k off (None ∷ slots) h = none_below n (k + 1) off slots (omega arith)
none_below n k off (Some r ∷ slots) h = grind (arith, nat_tests, none_below n (k + 1) off slots)

any_kept : (n k off : ℕ) (slots : List (Option BarWithBase)) → list_any (reaches (k + n) off) (bases_from k slots) ≡ kept_size off (slot_at slots n)
any_kept n k off [] = refl
any_kept zero k off r = grind (arith, none_below, nat_tests)
any_kept (suc n) k off (None ∷ slots) = grind (arith, any_kept n (k + 1) off slots)
any_kept (suc n) k off (Some r ∷ slots) = grind (arith, nat_tests, any_kept n (k + 1) off slots)

-- ---- a region of the declaration

any_placed : (s : State) (p : Path) (n off : ℕ) (rs : List Region) → list_any (reaches n off) (map (base_address (file_at s.functions p)) rs) ≡ list_any (λ (r : Region). eqb r.index n && nat_lt off r.size) rs
any_placed s p n off [] = refl
any_placed s p n off (r ∷ rs) = ap (λ (t : Bool). (eqb r.index n && nat_lt off r.size) || t) (any_placed s p n off rs)

pub region_reaches : (s : State) (p : Path) (f : Function) (h : AssignedFunction) (n off : ℕ) (o : Option BarWithBase) → IsHeld s p f h → slot_at h.placed n ≡ o
    → kept_size off o ≡ is_some (raise_place f (in_region n) off)
region_reaches s p f h n off o held at =
    let zero_on : 0 + n ≡ n = omega arith in
    ap (kept_size off) (sym at) ∙ sym (any_kept n 0 off h.placed) ∙ ap (λ (m : ℕ). list_any (reaches m off) (bases_from 0 h.placed)) zero_on
    ∙ ap (list_any (reaches n off)) held.placed ∙ any_placed s p n off f.decl.regions
    ∙ some_if (list_any (λ (r : Region). eqb r.index n && nat_lt off r.size) f.decl.regions) (block n off)
  where
    some_if : (t : Bool) (q : Place) → t ≡ is_some (cond t (Some q) None)
    some_if true q = refl
    some_if false q = refl

-- ---- bytes of which guests have a copy

-- such a raise leaves the functions of the board
pub copies_left : (mask : ℕ) (q : Place) (i : ℕ) (fs : List BoardFunction) → is_own q ≡ true → with_file_nth (raised_beside_copies mask q) i fs ≡ fs
copies_left mask q i fs own = ap (λ (t : Bool). with_file_nth (λ (file : File). cond t file (raise mask q file)) i fs) own ∙ by (slice_get fs i)
  where
    by : (o : Option BoardFunction) → option_map_or (λ (f : BoardFunction). with_file (λ (file : File). file) f.path fs) o fs ≡ fs
    by None = refl
    by (Some f) = same_files f.path fs
