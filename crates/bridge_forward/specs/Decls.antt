-- The declaration of a function, in the terms of the formal model.
use Rattle.model_board.specs.Board.{Decl, endpoint, bridge}
use Rattle.bridge_forward.specs.declared.decl.Declared.{Declared, TheVariants.{Endpoint, Bridge}}

abbrev pub declared : Declared → Decl
declared (Endpoint d) = endpoint d
declared (Bridge d) = bridge d
