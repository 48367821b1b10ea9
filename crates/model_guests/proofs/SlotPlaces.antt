-- What a file in a guest's slot was declared as.
use Rattle.std.proofs.Common.{◌≡◌, false, Some}
use Rattle.model_registers.specs.{Registers.File, Declarations.Endpoint, EndpointTable.endpoint_reset}
use Rattle.model_board.specs.{Paths.Path, Board.Board}
use Rattle.model_guests.specs.World.{declared}

-- the file is the declared endpoint's at reset, as far as F tells
pub record IsFileOf {X : Type 0} (F : File → X) (b : Board) (p : Path) (file : File) : Type 0 where
  pub decl : Endpoint
  pub declares : declared b p ≡ Some decl
  pub same : F file ≡ F (endpoint_reset decl false)
