use Rattle.std.proofs.Common.{◌∙◌, sym, arith}
use Rattle.images.{specs.{Faults.number_of, Parts.cell_bytes}, proofs.ComparedBytes.{ends_of, goes_on_of}}
use Rattle.images.proofs.comparing.strip_cells.Goals as goal

pub returns-in_err-bytes-clause-refused : goal.returns-in_err-bytes-clause-refused
returns-in_err-bytes-clause-refused c = let e = sym c.loop-cell.invariant ∙ ends_of cell_bytes c.in-Some.cell.now c.loop-cell.left.now c.in-Some.rest.now 906 (number_of c.in_err-bytes.field-0.0) c.cell_bytes.result c.loop-cell.bytes.now (grind arith) c.cell_bytes.ensures.bytes c.in_err-bytes.ensures.refused in grind arith

pub loop-cell-preserved : goal.loop-cell-preserved
loop-cell-preserved c = goes_on_of cell_bytes c.in-Some.cell.now c.loop-cell.left.now c.in-Some.rest.now 906 c.cell_bytes.result c.loop-cell.bytes.now c.in_ok-bytes.bytes.now (grind arith) c.cell_bytes.ensures.bytes c.in_ok-bytes.ensures.left ∙ c.loop-cell.invariant
