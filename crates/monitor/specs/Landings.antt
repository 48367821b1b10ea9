-- The region that a guest's address decodes to, in the code's types.
--     landing_of      a slot, the register of a region and the offset in it
use Rattle.std.specs.Prelude.{ℕ}
use Rattle.model_registers.specs.Registers.{block}
use Rattle.model_guests.specs.Slots.{Landing}

abbrev pub landing_of : ℕ × ℕ × ℕ → Landing
landing_of l = record { slot = l.0; place = block l.1 l.2 }
