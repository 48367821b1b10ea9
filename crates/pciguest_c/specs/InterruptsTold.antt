-- The description of a function's interrupt, as C receives it: PCI Local Bus 3.0, chapters 2.2.6, 6.2.2 and 6.2.4;
-- PCI-to-PCI Bridge Architecture 1.2, chapter 9.1.
--     no_interrupt      where firmware drives the board
--     pin_and_route_or_zeros p n      a pin, and the device and pin on bus 0 that it is routed to; all 0 if the pin isn't 1 to 4
--     guest_command_or_zero w s      the guest's copy of Command for the function in a slot
--     current_command w f      Command of a function: its guest's copy if it is assigned, else the board's register
--     interrupt_of w f      the interrupt's description
use Rattle.std.specs.{Prelude.{ℕ, ◌/◌, ◌%◌, ◌||◌, if◌then◌else◌, length, nat_lt, nat_le}, Option.option_map_or}
use Rattle.model_registers.specs.{Registers.{config, number}, Decoding.{Function, command_word}}
use Rattle.model_board.specs.{Interrupts.{root_device, root_pin}, Paths.Path, Ports.file_at}
use Rattle.model_guests.specs.{Guests.lone_of, Slots.slot_at, WorldNow.{WorldNow, board_state}}
use Rattle.model_handoff.specs.Functions.{LiveFunction, Assignment}
use Rattle.monitor.specs.ByIndex.{name_nth}
use Rattle.pciguest_c.specs.declared.values.interrupts.Interrupt.{Interrupt}

abbrev pub no_interrupt : Interrupt
no_interrupt = record { pin = 0; root_device = 0; root_pin = 0; is_disabled = 0 }

abbrev pub pin_and_route_or_zeros : Path → ℕ → ℕ × ℕ × ℕ
pin_and_route_or_zeros p n = if nat_lt n 1 || nat_lt 4 n then (0, 0, 0) else (n, root_device p, root_pin p n)

-- the guest of an assignment exists
abbrev pub guest_command_or_zero : WorldNow → Assignment → ℕ
guest_command_or_zero w s =
    if nat_le (length w.guests) s.guest then 0
    else option_map_or (λ (f : Function). command_word f.file) (slot_at (lone_of w.guests (name_nth w s.guest)).slots s.slot) 0

abbrev pub current_command : WorldNow → LiveFunction → ℕ
current_command w f = option_map_or (guest_command_or_zero w) f.seat (number (file_at (board_state w).functions f.path) (config 4) 2)

-- Interrupt Disable is bit 10 of Command
unfoldable pub interrupt_of : WorldNow → LiveFunction → Interrupt
interrupt_of w f =
    let route = pin_and_route_or_zeros f.path (number (file_at (board_state w).functions f.path) (config 0x3d) 1) in
    record { pin = route.0; root_device = route.1; root_pin = route.2; is_disabled = current_command w f / 1024 % 2 }
