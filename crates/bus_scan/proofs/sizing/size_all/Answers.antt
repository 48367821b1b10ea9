use Rattle.std.proofs.{Common.{◌≡◌, ◌++◌, drop, take, length, ap, ◌∙◌, arith}, lemmas.List.length-map}
use Rattle.model_board.specs.AtReset.{board_at}
use Rattle.model_set_up.specs.FunctionTable.{table_row, met_decl, sized_table}
use Rattle.bus_scan.proofs.{TableSteps.{none_sized, next_scanned, next_sized, whole_sized, came_back}, FoundBoards.{table_of, table_left, table_of_found}}
use Rattle.bus_scan.proofs.sizing.size_all.Goals as goal

pub loop-row-init : goal.loop-row-init
loop-row-init c = none_sized c.args.host.now c.deref_mut-row-items.result.now (c.deref_mut-row-items.ensures.value ∙ c.table.view_is ∙ c.requires.scanned)

pub size_function-requires-clause-scanned : goal.size_function-requires-clause-scanned
size_function-requires-clause-scanned c =
    let b = board_at c.args.host.now.state.functions in
    let count = ap length (c.deref_mut-row-items.ensures.value ∙ c.table.view_is ∙ c.requires.scanned) ∙ length-map b (table_row b met_decl) in
    next_scanned c.args.host.now c.loop-row.host c.loop-row.row-items c.loop-row.row-index c.loop-row.invariant (omega (arith, count)) c.row-item.result

pub loop-row-preserved : goal.loop-row-preserved
loop-row-preserved c =
    let b = board_at c.args.host.now.state.functions in
    let count = ap length (c.deref_mut-row-items.ensures.value ∙ c.table.view_is ∙ c.requires.scanned) ∙ length-map b (table_row b met_decl) in
    next_sized c.args.host.now c.loop-row.host c.loop-row.row-items c.loop-row.row-index c.loop-row.invariant (omega (arith, count)) c.size_function.new.host c.size_function.ensures.host c.row-item.result c.size_function.new.row
    c.size_function.ensures.sized

-- the rows when the loop ends
sized : (c : goal.After-table-1) → take c.table.inside.rows.len (c.loop-row.row-items ++ drop (length c.loop-row.row-items) c.table.inside.rows.items) ≡ sized_table (board_at c.args.host.now.state.functions)
sized c = grind (arith, length-map, came_back, whole_sized)

pub returns-clause-sized : goal.returns-clause-sized
returns-clause-sized c = sized c

pub returns-clause-board : goal.returns-clause-board
returns-clause-board c = grind (arith, table_left, sized)

pub returns-clause-found : goal.returns-clause-found
returns-clause-found c = table_of_found (board_at c.args.host.now.state.functions) _ (table_of c.args.host.now.state c.requires.registers _ (sized c))
