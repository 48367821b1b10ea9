use Rattle.model_guests.proofs.ViewedFiles.{overlay_gives_guest_registers, view_agrees}
use Rattle.model_guests.proofs.overlay_gives_guest_registers.Goals as goal

pub returns : goal.returns
returns c = record { file = overlay_gives_guest_registers; agrees = view_agrees }
