use Rattle.std.proofs.Common.{take}
use Rattle.model_images.specs.SavedLaws.{AreDeclared}
use Rattle.images.proofs.declarations.prove_board_can_be_saved.Given as goal

abbrev pub invariant-loop-index : goal.invariant-loop-index
invariant-loop-index l = AreDeclared (take l.index l.host.state.functions)
