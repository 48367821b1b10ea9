-- An engine after a call to which it lent its guests.
--     Ends e new left P      its route still fits, what it keeps is sound, and it shows what the call promises
--     ends      as what the call leaves of the host and of the guests
use Rattle.std.proofs.Common.{◌≡◌, ℕ, List, drop, length, take, ◌++◌}
use Rattle.model_board.specs.Routing.{routing}
use Rattle.model_guests.specs.WorldNow.{WorldNow}
use Rattle.model_handoff.specs.Changes.{MachineNow}
use Rattle.host_bridge.specs.HostState.{HostState}
use Rattle.monitor.{specs.{declared.{engine.Engine.TheInside.Inside, guest.Guest.Guest}, Counts.counts_of, Keeping.IsSound, Views.{machine_shown, texts}}, proofs.{Calls.{Leaves, back_in}, Machines.counts_lent}}

abbrev back : {R : Type 0} → Inside R → List Guest → List Guest
back e left = take e.guests.len (left ++ drop (length left) e.guests.items)

pub record Ends {R : Type 0} (e : Inside R) (new : HostState) (left : List Guest) (promised : MachineNow → Type 0) : Type 0 where
  pub routes : routing e.host.state.functions ≡ routing new.state.functions
  pub sound : IsSound new (texts e.names) (back e left)
  pub shown : promised (machine_shown new (texts e.names) (back e left))

pub ends : {R : Type 0} (e : Inside R) {ms left : List Guest} {new : HostState} {v : WorldNow} {promised : MachineNow → Type 0}
    → ms ≡ e.guests.items → length left ≡ e.guests.len
    → Leaves v e.host new (texts e.names) left → (Leaves v e.host new (texts e.names) (back e left) → IsSound new (texts e.names) (back e left))
    → (f : List ℕ → List ℕ) → counts_of left ≡ f (counts_of ms)
    → (Leaves v e.host new (texts e.names) (back e left) → counts_of (back e left) ≡ f (counts_of e.guests.items)
    → promised (machine_shown new (texts e.names) (back e left))) → Ends e new left promised
ends e {ms} {left} lent count leaves sound f counts shown =
    let whole = back_in e.guests.items e.guests.len count leaves in
    record { routes = whole.routes; sound = sound whole; shown = shown whole (counts_lent left f lent counts e.guests.len count) }
