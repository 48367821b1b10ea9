use Rattle.std.{proofs.Common.{◌≡◌, Ordering, Equal, arith, ap, sym, ◌∙◌}, specs.Ordering.{is_eq, is_lt}}
use Rattle.model_board.specs.Paths.{Path, path_eq, path_before}
use Rattle.paths.specs.{PathOrders.path_cmp, PathLaws.{paths_tied, paths_before}}
use Rattle.bridge_forward.proofs.Halving.{here, below_here, above_here, nowhere}
use Rattle.bridge_forward.proofs.walk.find_index_of_path.Goals as goal

-- what an ordering says of equality, and of order
equal_by : (p q : Path) (r : Ordering) → r ≡ path_cmp p q → path_eq p q ≡ is_eq r
equal_by p q r e = paths_tied p q ∙ sym (ap is_eq e)

before_by : (p q : Path) (r : Ordering) → r ≡ path_cmp p q → path_before p q ≡ is_lt r
before_by p q r e = sym (paths_before p q) ∙ sym (ap is_lt e)

pub returns-in-Equal-clause-found : goal.returns-in-Equal-clause-found
returns-in-Equal-clause-found c =
    here c.args.nodes.now c.requires.laid c.args.path.now _ c.index-nodes-middle.result (omega (arith, c.loop-low-test.true, c.loop-low.invariant.within)) c.index-nodes-middle.is
    (equal_by c.index-nodes-middle.result.path c.args.path.now Equal c.in-Equal.ensures)

pub loop-low-preserved-in-Less : goal.loop-low-preserved-in-Less
loop-low-preserved-in-Less c = grind (arith, below_here, equal_by, before_by)

pub loop-low-preserved : goal.loop-low-preserved
loop-low-preserved c = grind (arith, above_here, equal_by, before_by)

pub returns-clause-none : goal.returns-clause-none
returns-clause-none c = grind (arith, nowhere)
