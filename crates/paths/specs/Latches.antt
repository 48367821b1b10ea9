-- The target of a guest's port access, given its CONFIG_ADDRESS: PCI Local Bus 3.0, chapter 3.2.2.3.2.
--     select_at latch a      the target of port a: an ordinary port, or CONFIG_DATA of a slot or of no function
--     IsSelectAt a s      the slot is below 32, and the offset in it has the byte lane of the port
use Rattle.std.specs.Prelude.{◌≡◌, ◌<◌, ⊤, ℕ, ◌%◌, ◌&&◌, ◌==◌, if◌then◌else◌, not}
use Rattle.model_registers.specs.ConfigAddress.{
  is_enabled,
  selected_bus,
  selected_device,
  selected_function,
  is_data_port,
  selected_offset,
}
use Rattle.paths.specs.declared.latch.Select.{Select, TheVariants.{Ordinary, Nowhere, Slot}}

-- a guest sees its slots as the devices of bus 0, each with function 0 only
abbrev pub select_at : ℕ → ℕ → Select
select_at latch a =
    if not (is_enabled latch && is_data_port a) then Ordinary
    else (if selected_bus latch == 0 && selected_function latch == 0
    then Slot (selected_device latch) (selected_offset latch a) else Nowhere)

abbrev pub IsSelectAt : ℕ → Select → Type 0
IsSelectAt a Ordinary = ⊤
IsSelectAt a Nowhere = ⊤
IsSelectAt a (Slot n off) = (n < 32) × (off % 4 ≡ a % 4)
