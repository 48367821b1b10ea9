use Rattle.std.{proofs.Common.{◌≡◌, Some, arith}, specs.List.slice_get}
use Rattle.model_set_up.specs.FunctionTable.{board_in}
use Rattle.lists.proofs.{Members.each_from, Indices.{read_at, same_at, map_at}}
use Rattle.window_packing.proofs.BusIndex.{row_in}
use Rattle.window_packing.proofs.settings.register_values_of_row.Goals as goal

pub bars_with_bases-requires-clause-found : goal.bars_with_bases-requires-clause-found
bars_with_bases-requires-clause-found c =
    let rows = c.args.rows.now in
    let b = board_in rows in
    let i = c.args.i in
    let t = c.index-rows-i.result in
    let at : slice_get b i ≡ Some (row_in t) = map_at row_in rows i t (read_at rows i t c.requires.there c.index-rows-i.is) in
    grind (arith, each_from)

pub returns-in-Endpoint : goal.returns-in-Endpoint
returns-in-Endpoint c = grind (arith, map_at, read_at, same_at)

pub returns-in-Bridge : goal.returns-in-Bridge
returns-in-Bridge c = grind (arith, map_at, read_at, same_at)
