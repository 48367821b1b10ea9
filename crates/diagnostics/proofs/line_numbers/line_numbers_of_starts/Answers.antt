use Rattle.std.proofs.{Common.arith, lemmas.Grind.common_steps}
use Rattle.diagnostics.proofs.{InOrder.{front_at, from_earlier}, LaterLines.{later_line, one_more_line}}
use Rattle.diagnostics.proofs.line_numbers.line_numbers_of_starts.Goals as goal

pub slice_bounds-count_line_feeds-end : goal.slice_bounds-count_line_feeds-end
slice_bounds-count_line_feeds-end c = grind (arith, common_steps, front_at)

pub places-preserved : goal.places-preserved
places-preserved c = grind (arith, common_steps, front_at, later_line, from_earlier, one_more_line)
