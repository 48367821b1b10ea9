use Rattle.std.proofs.{Common.arith, lemmas.{List.length-map, Option.slice_get_past}}
use Rattle.lists.proofs.Indices.{read_at}
use Rattle.bridge_forward.proofs.Changes.{nth_there}
use Rattle.bridge_forward.proofs.bus.Bus.endpoint_ref_nth.Goals as goal

pub returns-then-index-len : goal.returns-then-index-len
returns-then-index-len c = grind (arith, slice_get_past, length-map)

pub returns : goal.returns
returns c = grind (arith, read_at, nth_there)
