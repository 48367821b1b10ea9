-- After an event at a device guests stay seated, and hold what the law says.
use Rattle.std.proofs.Common.{ℕ, List, Option, refl, arith}
use Rattle.model_board.specs.{Paths.Path, Board.Board}
use Rattle.model_guests.{specs.{Lone.LoneGuest, Seated.AreSeats, DeviceEvents.{DeviceEvent, device_changed, reset_in, after_device_event, device_after}, DeviceLaws.{NamesAfterDevices, OthersAfterDevice, OwnAfterDevice, SeatedAfterDevices}}, proofs.{GuestsByName.path_at, Seats.{seats_at, seats_set, changed_shape, with_file_seats, names_stay, guests_stay, paths_stay, at_reset_there}, OneGuest.{lone_own, lone_other}, FoundFiles.put_back, Along.names_with}}

-- ---- one guest's slots

reset_seats : (b : Board) (qs : List (Option Path)) (n : ℕ) (g : LoneGuest) → AreSeats b qs g.slots → AreSeats b qs (reset_in n g).slots
reset_seats b qs n g h = grind (arith, path_at qs n, seats_at b qs g.slots n h, put_back qs n, seats_set b qs g.slots n (path_at qs n), at_reset_there b (path_at qs n))

changed_seats : (b : Board) (qs : List (Option Path)) (g : LoneGuest) (e : DeviceEvent) → AreSeats b qs g.slots → AreSeats b qs (device_changed g e).slots
changed_seats b qs g e h = grind (arith, reset_seats, with_file_seats, changed_shape)

-- ---- all guests

pub seated_after : SeatedAfterDevices
seated_after b gs seated name e = grind (arith, names_stay, guests_stay, paths_stay, changed_seats)

pub names_after : NamesAfterDevices
names_after name e gs = names_with (device_after e) (λ t. refl) name gs

pub own_after : OwnAfterDevice
own_after name e gs there = lone_own (device_after e) (λ t. refl) (λ (g : LoneGuest). after_device_event g e) (λ t. refl) name gs there

pub others_after : OthersAfterDevice
others_after name other e gs apart = lone_other (device_after e) (λ t. refl) name other gs apart
