-- Making a machine from a board, for C.
--     SetsUp o before after n      our own set-up of a board that firmware drives, if there is one, into a handle: 901 where there
--         is none, 903 where the handle holds something, and 904 where firmware wrote; else 0, out of memory, or the first rule
--         that the board breaks
--     IsMadeAnew o before after n      the board of a machine, if there is one, at reset again, with guests of the same names, which
--         have no slots, into a handle: 901 where there is none, 903 where the handle holds something; else 0, or out of memory
--     IsNumberOfRefusal b n      why a board is not given to the guests of its file: the number of its first fault, or of no memory
use Rattle.std.specs.Prelude.{◌≡◌, ◌≢◌, ◌<◌, ◌≤◌, ◌⊎◌, ℕ, map, true, false, Option, IfNone, IfSome, IsSome, option_and_then}
use Rattle.model_board.specs.AtReset.{board_at}
use Rattle.model_guests.specs.WorldNow.{board_state, names_now}
use Rattle.model_handoff.specs.Changes.{BeginsIn, MachineNow}
use Rattle.model_lines.specs.Sessions.{DrivenNow, SessionNow, at_reset}
use Rattle.monitor.specs.{declared.handover.fault.HandoverFault.HandoverFault, Beginnings.with_no_slots, Handovers.number_of}
use Rattle.session.specs.{Boards.IsRefusalOf, Files.{BreaksRule, IsAtFirst}, Stages.{board_in, machine_in}}

pub record SetsUp (o : Option DrivenNow) (before after : Option SessionNow) (n : ℕ) : Type 0 where
  pub nothing : IfNone o (n ≡ 901)
  pub in_use : IfSome o (λ _. IfSome before (λ _. n ≡ 903))
  pub written : IfSome o (λ b. IfNone before (b.written ≡ true → n ≡ 904))
  pub numbers : IfSome o (λ b. IfNone before (b.written ≡ false → (n ≡ 0) ⊎ ((201 ≤ n) × (n ≤ 299))))
  pub made : n ≡ 0 → IsSome (option_and_then machine_in after)
  pub begins : IfSome o (λ b. n ≡ 0 → IfSome (option_and_then machine_in after) (BeginsIn (IsAtFirst b.world)))
  pub placement : IfSome o (λ b. n ≢ 0 → n < 299 → BreaksRule b.world n)
  pub refused : n ≢ 0 → after ≡ before

pub record IsMadeAnew (o : Option MachineNow) (before after : Option SessionNow) (n : ℕ) : Type 0 where
  pub nothing : IfNone o (n ≡ 901)
  pub in_use : IfSome o (λ _. IfSome before (λ _. n ≡ 903))
  pub numbers : IfSome o (λ _. IfNone before ((n ≡ 0) ⊎ (n ≡ 299)))
  pub made : n ≡ 0 → IsSome (option_and_then board_in after)
  pub reset : n ≡ 0 → IfSome (option_and_then board_in after) (λ b. b ≡ at_reset b.world)
  pub board : IfSome o (λ m. n ≡ 0 → IfSome (option_and_then board_in after) (λ b. b.world.board ≡ board_at (board_state m.world).functions))
  pub guests : IfSome o (λ m. n ≡ 0 → IfSome (option_and_then board_in after) (λ b. b.world.guests ≡ map with_no_slots (names_now m.world)))
  pub refused : n ≢ 0 → after ≡ before

pub record IsNumberOfRefusal (b : DrivenNow) (n : ℕ) : Type 0 where
  pub fault : HandoverFault
  pub number : n ≡ number_of fault
  pub is_refusal : IsRefusalOf b fault
