-- What a configuration cycle does to the functions of a board.
use Rattle.std.{proofs.Common.{◌≡◌, ℕ, List, Option, Some, None, refl, ap, ap₂, ◌∙◌}, specs.Option.option_map_or}
use Rattle.bridge_forward.{proofs.Changes.same_files, specs.{declared.cycle.Cycle.Cycle, Cycled.{reached_by, after_access, after_cycle}}}
use Rattle.model_registers.specs.ByteEnables.{lanes}
use Rattle.model_board.specs.{State.{BoardFunction, with_file}, Cycles.{BusAddress, reached}, Ports.after_config_write}
use Rattle.config_bytes.specs.declared.op.Op.{Op, TheVariants.{Read, Write}}

abbrev changed_by : List BoardFunction → Op → ℕ → ℕ → Option BoardFunction → List BoardFunction
changed_by fs op off enables r = option_map_or (λ (f : BoardFunction). with_file (after_access op off enables) f.path fs) r fs

unchanged : (fs : List BoardFunction) (off enables : ℕ) (r : Option BoardFunction) → changed_by fs Read off enables r ≡ fs
unchanged fs off enables None = refl
unchanged fs off enables (Some f) = same_files f.path fs

pub read_changes_nothing : (fs : List BoardFunction) (c : Cycle) → c.op ≡ Read → after_cycle fs c ≡ fs
read_changes_nothing fs c op = ap (λ o. changed_by fs o c.offset c.enables (reached_by fs c)) op ∙ unchanged fs c.offset c.enables (reached_by fs c)

pub write_changes : (fs : List BoardFunction) (c : Cycle) (at : BusAddress) (off enables v : ℕ) → reached_by fs c ≡ reached fs at → c.offset ≡ off → c.enables ≡ enables → c.op ≡ Write v
    → after_cycle fs c ≡ after_config_write fs at off (lanes enables) v
write_changes fs c at off enables v reaches is on op =
    ap (λ o. changed_by fs o c.offset c.enables (reached_by fs c)) op
    ∙ ap₂ (λ n m. changed_by fs (Write v) n m (reached_by fs c)) is on
    ∙ ap (changed_by fs (Write v) off enables) reaches
