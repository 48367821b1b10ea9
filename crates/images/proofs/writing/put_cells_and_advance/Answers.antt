use Rattle.std.proofs.Common.{◌∙◌, arith}
use Rattle.images.{specs.Parts.cell_bytes, proofs.Puts.next_of}
use Rattle.images.proofs.writing.put_cells_and_advance.Goals as goal

pub loop-cell-preserved : goal.loop-cell-preserved
loop-cell-preserved c =
    let s = next_of cell_bytes c.in-Some.cell.now c.loop-cell.left.now c.in-Some.rest.now c.loop-cell.next c.put_bytes_and_advance-next.result c.cell_bytes.result c.loop-cell.out c.put_bytes_and_advance-next.new.out (grind arith)
    c.cell_bytes.ensures.bytes c.put_bytes_and_advance-next.ensures.bytes c.put_bytes_and_advance-next.ensures.end c.loop-cell.invariant.room in
    record { room = s.room; end = s.end ∙ c.loop-cell.invariant.end; bytes = s.bytes ∙ c.loop-cell.invariant.bytes }
