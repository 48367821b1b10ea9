use Rattle.model_handoff.proofs.DevicesOver.{lawful_after_devices, reset_after_devices}
use Rattle.model_handoff.proofs.devices_keep_handoff.Goals as goal

pub returns : goal.returns
returns c = record { lawful = lawful_after_devices; shown = reset_after_devices }
