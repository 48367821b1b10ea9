-- The error numbers of refused declarations.
use Rattle.std.specs.Prelude.{ℕ}
use Rattle.headers.specs.declared.fault.DeclFault.{DeclFault, TheVariants.{Number, Register, Size, CellMasks}}

abbrev pub number_of : DeclFault → ℕ
number_of Number = 104
number_of Register = 106
number_of Size = 107
number_of CellMasks = 112
