-- The board of a board file as firmware drives it.
--     board_now h gs t      the board of a host bridge, with the guests of its file, and whether it was written
--     IsBoardNow b      a lawful board, whatever firmware wrote; where nothing was, it is at reset
--     IsHandedOverAs b x      a session in which guests have what they get of the board, which may be given
--     IsRefusalOf b f      why the board is not given to its guests: its first fault, unless memory is out
use Rattle.std.specs.Prelude.{◌≡◌, List, Bool, false, Some, IfSome}
use Rattle.model_guests.specs.World.{Guest, IsLawfulWorld}
use Rattle.model_handoff.specs.{Handoffs.IsHandoff, Regions.first_fault}
use Rattle.model_lines.specs.{GivenLaws.IsGiven, Sessions.{DrivenNow, SessionNow, given, at_reset, handed_over}}
use Rattle.host_bridge.specs.HostState.{HostState}
use Rattle.monitor.specs.{Beginnings.world_on, Handovers.handoff_fault, declared.handover.fault.HandoverFault.HandoverFault}

abbrev pub board_now : HostState → List Guest → Bool → DrivenNow
board_now h guests written = record { world = world_on h guests; state = h.state; written = written }

pub record IsBoardNow (b : DrivenNow) : Type 0 where
  pub lawful : IsLawfulWorld b.world
  pub handoff : IsHandoff b.state
  pub untouched : b.written ≡ false → b ≡ at_reset b.world

pub record IsHandedOverAs (b : DrivenNow) (x : SessionNow) : Type 0 where
  pub lawful : IsGiven b.world b.state (handed_over b).world
  pub now : x ≡ given (handed_over b)

abbrev pub IsRefusalOf : DrivenNow → HandoverFault → Type 0
IsRefusalOf b f = IfSome (handoff_fault f) (λ told. first_fault b.world b.state ≡ Some told)
