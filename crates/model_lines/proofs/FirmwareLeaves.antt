-- Whatever firmware does to a handoff, it leaves one.
use Rattle.std.{proofs.Common.{◌≡◌, ℕ, Bool, true, false, cond, List, [], ◌∷◌, Some, None, Option, refl, ap, ◌∙◌, arith}, specs.{Prelude.map, Option.option_map_or}}
use Rattle.lists.specs.Elements.{Each}
use Rattle.model_registers.specs.{Registers.{Place, config, block, write, all_bytes}, Decoding.io}
use Rattle.model_board.specs.{Paths.{Path, path_eq}, Board.Row, Claims.{Claim, first_claim}, Cycles.reached, Ports.{PortTarget, config_address, config_data, ordinary, after_claim_write, after_target_write}, State.{BoardFunction, State, with_file, row_at}}
use Rattle.model_guests.{specs.{Accesses.{Op, reads, writes}, Grammar.{HostTarget, host_configuration, host_port, host_address}}, proofs.Seats.written_shape}
use Rattle.model_lines.specs.{FirmwareLines.{Meaning, meaning, after_meaning, after_line}, HostAccesses.{HostAccess, effect, after_access}, FirmwareLeaves.{IsHandoffAlike, AccessLeaves, LinesLeave}}
use Rattle.model_handoff.specs.Handoffs.{HasDeclaredShape, IsHandoff}

-- the same functions, of which what cells hold alone may differ; P holds for all of them if it did
pub record Alike (P : BoardFunction → Type 0) (fs gs : List BoardFunction) : Type 0 where
  pub rows : map row_at gs ≡ map row_at fs
  pub all : Each P fs → Each P gs

unchanged : (P : BoardFunction → Type 0) (fs : List BoardFunction) → Alike P fs fs
unchanged P fs = record { rows = refl; all = λ h. h }

-- a write keeps P
abbrev pub IsKept : (BoardFunction → Type 0) → Type 0
IsKept P = (f : BoardFunction) (ons : List Bool) (v : ℕ) (q : Place) → P f → P (record f { file = write ons v q f.file })

module _ (P : BoardFunction → Type 0) (kept : IsKept P) where
  written_alike : (ons : List Bool) (v : ℕ) (q : Place) (p : Path) (fs : List BoardFunction) → Alike P fs (with_file (write ons v q) p fs)
  written_alike ons v q p [] = unchanged P []
  written_alike ons v q p (f ∷ fs) = one (path_eq f.path p) (written_alike ons v q p fs)
    where
      one : (t : Bool) → Alike P fs (with_file (write ons v q) p fs) → Alike P (f ∷ fs) (cond t (record f { file = write ons v q f.file }) f ∷ with_file (write ons v q) p fs)
      one true more = record { rows = ap (λ (rs : List Row). row_at f ∷ rs) more.rows; all = λ h. (kept f ons v q h.0, more.all h.1) }
      one false more = record { rows = ap (λ (rs : List Row). row_at f ∷ rs) more.rows; all = λ h. (h.0, more.all h.1) }

  config_alike : (fs : List BoardFunction) (off : ℕ) (ons : List Bool) (v : ℕ) (o : Option BoardFunction) → Alike P fs (option_map_or (λ (f : BoardFunction). with_file (write ons v (config off)) f.path fs) o fs)
  config_alike fs off ons v None = unchanged P fs
  config_alike fs off ons v (Some f) = written_alike ons v (config off) f.path fs

  claim_alike : (fs : List BoardFunction) (w v : ℕ) (o : Option Claim) → Alike P fs (after_claim_write fs w v o)
  claim_alike fs w v None = unchanged P fs
  claim_alike fs w v (Some c) = written_alike (all_bytes w) v (block c.index c.offset) c.path fs

  target_alike : (s : State) (a w v : ℕ) (t : PortTarget) → Alike P s.functions (after_target_write s a w v t).functions
  target_alike s a w v config_address = unchanged P s.functions
  target_alike s a w v (config_data at off) = config_alike s.functions off (all_bytes w) v (reached s.functions at)
  target_alike s a w v ordinary = claim_alike s.functions w v (first_claim s.functions io a)

  effect_alike : (s : State) (w : ℕ) (at : HostTarget) (op : Op) → Alike P s.functions (effect s w at op).functions
  effect_alike s w (host_configuration at off) reads = unchanged P s.functions
  effect_alike s w (host_configuration at off) (writes v) = config_alike s.functions off (all_bytes w) v (reached s.functions at)
  effect_alike s w (host_port a) op = grind (arith, unchanged P s.functions, target_alike s a w)
  effect_alike s w (host_address a) op = grind (arith, unchanged P s.functions, claim_alike s.functions w)

  pub access_alike : (s : State) (a : HostAccess) → Alike P s.functions (after_access s a).functions
  access_alike s a = grind (arith, unchanged P s.functions, effect_alike s a.width a.target a.op)

shape_kept : IsKept HasDeclaredShape
shape_kept f ons v q h = written_shape ons v q f.file ∙ h

pub access_leaves : AccessLeaves
access_leaves s h a = grind (arith, access_alike HasDeclaredShape shape_kept s a)

line_leaves : (s : State) → IsHandoff s → (m : Meaning) → IsHandoffAlike s (after_meaning s m)
line_leaves s h m = grind (arith, access_leaves s h)

pub lines_leave : LinesLeave
lines_leave s h [] = record { handoff = h; board = refl }
lines_leave s h (l ∷ ls) = grind (arith, lines_leave (after_line s l) (line_leaves s h (meaning l)).handoff ls, line_leaves s h (meaning l))
