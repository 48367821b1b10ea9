use Rattle.board_file.proofs.PathSets.{are_sets}
use Rattle.board_file.proofs.path.sets.PathSets.new.Goals as goal

pub invariant_of-result : goal.invariant_of-result
invariant_of-result c = are_sets c.args.functions.now c.in_ok-all.all c.in_ok-bridges.bridges c.in_ok-all.ensures c.in_ok-bridges.ensures
