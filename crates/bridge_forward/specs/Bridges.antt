-- A bridge of the board.
--     BridgeFunction      its declaration and its cells
use Rattle.model_registers.specs.{Registers.File, Declarations.Bridge}

pub record BridgeFunction : Type 0 where
  pub decl : Bridge
  pub file : File
