use Rattle.std.proofs.Common.{arith}
use Rattle.board_file.proofs.{Asked.apertures_of, LawfulWorld.{is_board, short_guests, lawful_world, board_at_reset, is_at_reset, lawful_rows}}
use Rattle.board_file.proofs.board.check_masks_and_build.Goals as goal

pub unwrap-apertures-requires : goal.unwrap-apertures-requires
unwrap-apertures-requires c = grind (arith, apertures_of)

pub build_host_at_reset-requires : goal.build_host_at_reset-requires
build_host_at_reset-requires c = grind (arith, is_board)

pub declare_guests-requires : goal.declare_guests-requires
declare_guests-requires c = grind (arith, short_guests)

pub returns-clause-world : goal.returns-clause-world
returns-clause-world c = grind (arith, board_at_reset)

pub returns-clause-reset : goal.returns-clause-reset
returns-clause-reset c = grind (arith, is_at_reset, is_board, lawful_rows)

pub returns-clause-lawful : goal.returns-clause-lawful
returns-clause-lawful c = grind (arith, lawful_world)
