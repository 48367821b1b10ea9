-- A run of a script over a machine is one over its world: the counts stand beside it.
use Rattle.std.proofs.Common.{◌≡◌, ◌++◌, List, [], ◌∷◌, refl, ap}
use Rattle.model_guests.specs.{Text.Text, WorldNow.{world_protocol, line_output}, LineRuns.{output, after_lines}}
use Rattle.model_handoff.specs.Changes.{MachineNow, machine_protocol, after_line_on_machine}

pub output_aside : (m : MachineNow) (ls : List Text) → output machine_protocol m ls ≡ output world_protocol m.world ls
output_aside m [] = refl
output_aside m (line ∷ more) = ap (λ (t : Text). line_output m.world line ++ t) (output_aside (after_line_on_machine m line) more)

pub after_aside : (m : MachineNow) (ls : List Text) → (after_lines machine_protocol m ls).world ≡ after_lines world_protocol m.world ls
after_aside m [] = refl
after_aside m (line ∷ more) = after_aside (after_line_on_machine m line) more
