use Rattle.std.proofs.Common.{◌∙◌, sym, arith}
use Rattle.model_registers.specs.EndpointTable.{region_cells}
use Rattle.images.{specs.Faults.number_of, proofs.TakenValues.{base_ends, region_ends, region_goes_on, values_end_of, values_go_on_of}}
use Rattle.images.proofs.values.strip_fitting_values_of_regions.Goals as goal

pub loop-region-preserved : goal.loop-region-preserved
loop-region-preserved c =
    let base = rw c.bar_register_row.ensures.cells at c.in_ok-cells.ensures.left in
    let one = region_goes_on c.in-Some.region.now c.loop-region.bytes.now c.in_ok-cells.cells.now c.in_ok-bytes.bytes.now base (grind arith) (grind arith) in
    record {
      lawful = grind arith;
      same = values_go_on_of (region_cells (λ r. 0)) c.in-Some.region.now c.loop-region.left.now c.in-Some.rest.now c.loop-region.bytes.now c.in_ok-bytes.bytes.now (grind arith) one ∙ c.loop-region.invariant.same;
    }

pub returns-in_err-cells-clause-refused : goal.returns-in_err-cells-clause-refused
returns-in_err-cells-clause-refused c =
    let one = base_ends c.in-Some.region.now (number_of c.in_err-cells.field-0.0) c.loop-region.bytes.now (rw c.bar_register_row.ensures.cells at c.in_err-cells.ensures.refused) in
    let all = sym c.loop-region.invariant.same ∙ values_end_of (region_cells (λ r. 0)) c.in-Some.region.now c.loop-region.left.now c.in-Some.rest.now (number_of c.in_err-cells.field-0.0) c.loop-region.bytes.now (grind arith) one in
    grind arith

pub returns-in_err-bytes-clause-refused : goal.returns-in_err-bytes-clause-refused
returns-in_err-bytes-clause-refused c =
    let base = rw c.bar_register_row.ensures.cells at c.in_ok-cells.ensures.left in
    let one = region_ends c.in-Some.region.now c.loop-region.bytes.now c.in_ok-cells.cells.now base (grind arith) in
    let all = sym c.loop-region.invariant.same ∙ values_end_of (region_cells (λ r. 0)) c.in-Some.region.now c.loop-region.left.now c.in-Some.rest.now 905 c.loop-region.bytes.now (grind arith) one in
    grind arith
