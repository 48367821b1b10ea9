-- The place of a byte in a function, from the program's type.
use Rattle.std.specs.Prelude.{ℕ}
use Rattle.model_registers.specs.Registers.{config, block}
use Rattle.headers.specs.declared.place.Place.{Place, TheVariants.{Cfg, Bar}}
use Rattle.model_registers.specs.Registers as model

-- the place for an offset
abbrev pub place_of : Place → ℕ → model.Place
place_of Cfg off = config off
place_of (Bar n) off = block n off
