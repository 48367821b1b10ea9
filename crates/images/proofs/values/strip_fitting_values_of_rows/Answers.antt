use Rattle.std.proofs.Common.{◌∙◌, sym, arith}
use Rattle.headers.specs.Rows.{row_cells}
use Rattle.images.{specs.Faults.number_of, proofs.TakenValues.{values_end_of, values_go_on_of}}
use Rattle.images.proofs.values.strip_fitting_values_of_rows.Goals as goal

pub returns-in_err-bytes-clause-refused : goal.returns-in_err-bytes-clause-refused
returns-in_err-bytes-clause-refused c = let e = sym c.loop-row.invariant.same ∙ values_end_of row_cells c.in-Some.row.now c.loop-row.left.now c.in-Some.rest.now (number_of c.in_err-bytes.field-0.0) c.loop-row.bytes.now (grind arith) c.in_err-bytes.ensures.refused in grind arith

pub loop-row-preserved : goal.loop-row-preserved
loop-row-preserved c = record { lawful = grind arith; same = values_go_on_of row_cells c.in-Some.row.now c.loop-row.left.now c.in-Some.rest.now c.loop-row.bytes.now c.in_ok-bytes.bytes.now (grind arith) c.in_ok-bytes.ensures.left ∙ c.loop-row.invariant.same }
