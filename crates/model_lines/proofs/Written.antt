-- What leaves a board at reset as it is: reads, and all that is refused.
use Rattle.std.{proofs.{Common.{◌≡◌, ℕ, true, false, Option, None, Some, refl, arith}, lemmas.Bool.or_parts}, specs.{Prelude.{if◌then◌else◌, is_some}, Option.option_map_or}}
use Rattle.model_board.specs.State.{State}
use Rattle.model_guests.specs.{Accesses.{Op, reads, writes, refused}, Grammar.HostTarget}
use Rattle.model_lines.specs.{HostAccesses.{perform, effect}, FirmwareLines.{Meaning, meaning}, Sessions.{DrivenNow, is_done, after_meant}, SessionLaws.{AccessesTellWritten, LinesTellWritten}}

-- the reply to an access tells no write that was done
untold : (s : State) (w : ℕ) (at : HostTarget) (op : Op) (f : Option ℕ) → s.latch ≡ 0
    → is_done (option_map_or refused f (perform s w at op)) ≡ false
    → (if is_some f then s else effect s w at op) ≡ s
untold s w at op (Some n) zero none = refl
untold s w at reads None zero none = grind arith
untold s w at (writes v) None zero none = absurd (let wrong : true ≡ false = none in cc)

pub accesses_tell_written : AccessesTellWritten
accesses_tell_written b zero a none = grind (arith, or_parts b.written, untold)

meant : (b : DrivenNow) (m : Meaning) → b.state.latch ≡ 0 → (after_meant b m).written ≡ false → after_meant b m ≡ b
meant b m zero none = grind (arith, accesses_tell_written b zero)

pub lines_tell_written : LinesTellWritten
lines_tell_written b zero line none = meant b (meaning line) zero none
