-- What happens at devices leaves the world lawful.
use Rattle.std.proofs.Common.{refl, arith}
use Rattle.model_guests.{specs.DeviceEvents.device_after, proofs.DeviceSeats.seated_after}
use Rattle.model_handoff.{specs.DevicesOver.{LawfulAfterDevices, ResetAfterDevices}, proofs.{Served.served_with, Views.reset_with}}

pub lawful_after_devices : LawfulAfterDevices
lawful_after_devices w name e h = grind (arith, seated_after, served_with)

pub reset_after_devices : ResetAfterDevices
reset_after_devices s gs name e = reset_with (device_after e) (λ t. refl) s gs name
