use Rattle.std.proofs.{Common.arith, lemmas.{Grind.common_steps, List.drop_more}}
use Rattle.diagnostics.proofs.InOrder.{front_at, one_more}
use Rattle.diagnostics.proofs.marking.replace_with_marks.Goals as goal

pub slice_bounds-extend_from_slice-end : goal.slice_bounds-extend_from_slice-end
slice_bounds-extend_from_slice-end c = grind (arith, common_steps, front_at)

pub places-preserved : goal.places-preserved
places-preserved c = grind (arith, common_steps, front_at, one_more, drop_more)
