-- W1C bits that a device sets in a guest's function.
--     raised_beside_copies mask p      a file with these bits raised, unless guests have a copy of the byte
use Rattle.std.specs.Prelude.{ℕ, if◌then◌else◌}
use Rattle.model_registers.specs.{Registers.{Place, File, raise}, OwnCopies.is_own}

abbrev pub raised_beside_copies : ℕ → Place → File → File
raised_beside_copies mask p file = if is_own p then file else raise mask p file
