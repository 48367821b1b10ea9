-- There are lawful worlds: the main board with its guests is one.
use Rattle.std.proofs.Common.{arith}
use Rattle.model_board.proofs.LawfulBoards.{main_is_board, main_decls_lawful}
use Rattle.model_guests.specs.{World.IsLawfulWorld, Examples.main_world}

pub main_world_is_lawful : IsLawfulWorld main_world
main_world_is_lawful = grind (arith, main_is_board, main_decls_lawful)
