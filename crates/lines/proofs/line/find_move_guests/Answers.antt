use Rattle.std.proofs.Common.{option_map, arith}
use Rattle.lines.proofs.NameLemmas.{found, missing, move_there, move_from_nobody, move_to_nobody}
use Rattle.lines.proofs.line.find_move_guests.Goals as goal

pub returns-in_err-from-clause-meaning : goal.returns-in_err-from-clause-meaning
returns-in_err-from-clause-meaning c = grind (arith, missing, move_from_nobody, option_map)

pub returns-in_err-to-clause-meaning : goal.returns-in_err-to-clause-meaning
returns-in_err-to-clause-meaning c = grind (arith, found, missing, move_to_nobody, option_map)

pub returns-clause-meaning : goal.returns-clause-meaning
returns-clause-meaning c = grind (arith, found, move_there, option_map)

pub returns-clause-first : goal.returns-clause-first
returns-clause-first c =
    ((found c.args.names.now c.args.from.now c.in_ok-from.from c.in_ok-from.ensures).first, (found c.args.names.now c.args.to.now c.in_ok-to.to c.in_ok-to.ensures).first)
