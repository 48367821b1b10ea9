use Rattle.std.proofs.Common.{arith}
use Rattle.board_file.specs.Meaning.{world_in}
use Rattle.session.proofs.Declared.{declares, refused_file}
use Rattle.board_told.proofs.Listed.{of_world}
use Rattle.board_told.proofs.listing.read_and_set_up_board.Goals as goal

pub returns-in_err-host-clause-file : goal.returns-in_err-host-clause-file
returns-in_err-host-clause-file c = grind (arith, refused_file)

pub returns-clause-declared : goal.returns-clause-declared
returns-clause-declared c = record {
  world = world_in c.in_ok-host.host c.in_ok-host.guests.items;
  set_up = record { declared = declares c.in_ok-host.ensures.world; fits = c.in_ok-ready.ensures.kept };
  board = c.in_ok-ready.ensures.board;
  of_world = of_world c.in_ok-host.host c.in_ok-ready.ready c.in_ok-host.guests.items
      c.in_ok-ready.ensures.board c.in_ok-ready.ensures.ready;
}
