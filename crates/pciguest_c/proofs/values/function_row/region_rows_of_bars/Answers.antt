use Rattle.std.proofs.Common.{arith}
use Rattle.pciguest_c.proofs.FunctionRows.{row_told, six_alike}
use Rattle.pciguest_c.proofs.values.function_row.region_rows_of_bars.Goals as goal

pub returns : goal.returns
returns c =
    let slots = c.args.slots.now in
    let six = c.type_inv.slots in
    six_alike _ _ _ _ _ _ _ _ _ _ _ _
    (row_told slots six 0 (omega arith) _ _ c.region_row.ensures)
    (row_told slots six 1 (omega arith) _ _ c.region_row-2.ensures)
    (row_told slots six 2 (omega arith) _ _ c.region_row-3.ensures)
    (row_told slots six 3 (omega arith) _ _ c.region_row-4.ensures)
    (row_told slots six 4 (omega arith) _ _ c.region_row-5.ensures)
    (row_told slots six 5 (omega arith) _ _ c.region_row-6.ensures)
