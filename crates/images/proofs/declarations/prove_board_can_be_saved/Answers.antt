use Rattle.std.proofs.Common.{arith}
use Rattle.model_board.specs.State.{BoardFunction}
use Rattle.model_images.specs.SavedLaws.{CanBeDeclared}
use Rattle.images.proofs.IndexedDeclarations.{each_next, each_all}
use Rattle.images.proofs.declarations.prove_board_can_be_saved.Goals as goal

pub loop-index-preserved : goal.loop-index-preserved
loop-index-preserved c = each_next (λ (f : BoardFunction). CanBeDeclared f.decl) c.args.host.now.state.functions c.loop-index.index c.prove_function_can_be_saved.ensures c.loop-index.invariant

pub returns : goal.returns
returns c = each_all (λ (f : BoardFunction). CanBeDeclared f.decl) c.args.host.now.state.functions c.loop-index.index (grind arith) c.loop-index.invariant
