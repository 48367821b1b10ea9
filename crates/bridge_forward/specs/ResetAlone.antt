-- Resetting a single function, as when a guest gets it: PCI Local Bus 3.0, chapter 6.2.
--     after_leaf_reset d file      the cells of an endpoint afterwards; a bridge doesn't change
use Rattle.model_registers.specs.{Registers.File, CopiedFiles.after_reset}
use Rattle.model_board.specs.Board.{Decl, endpoint, bridge}

abbrev pub after_leaf_reset : Decl → File → File
after_leaf_reset (endpoint d) file = after_reset d file
after_leaf_reset (bridge d) file = file
