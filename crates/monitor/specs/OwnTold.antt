-- The values of a guest's own registers, in the code's types.
--     own_now f      the current values of Command and the base address registers of a function
--     own_told o      these values, from the code's types
--     standing file n r      a region at a base address register, with the base that the register file holds
use Rattle.std.specs.Prelude.{ℕ, map}
use Rattle.bars.specs.{declared.region.BarWithBase.BarWithBase, Slots.bases_from}
use Rattle.model_registers.specs.{Registers.File, OwnCopies.OwnCopies, Decoding.{Function, base, base_address, command_word}}
use Rattle.monitor.specs.declared.queries.own_registers.OwnRegisters.{OwnRegisters}

abbrev pub own_now : Function → OwnCopies
own_now f = record { command = command_word f.file; bases = map (base_address f.file) f.decl.regions }

abbrev pub own_told : OwnRegisters → OwnCopies
own_told o = record { command = o.command; bases = bases_from 0 o.regions }

abbrev pub standing : File → ℕ → BarWithBase → BarWithBase
standing file n r = record r { base = base file n r.decl.kind }
