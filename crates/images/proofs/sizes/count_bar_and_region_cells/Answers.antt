use Rattle.std.proofs.Common.{◌≡◌, ◌*◌, arith}
use Rattle.model_registers.specs.{Declarations.registers_of, EndpointTable.region_cells}
use Rattle.bars.specs.Kinds.{kind_of}
use Rattle.images.proofs.Lengths.{few_registers, first_cells, region_cell_count}
use Rattle.images.proofs.sizes.count_bar_and_region_cells.Goals as goal

pub loop-region-preserved : goal.loop-region-preserved
loop-region-preserved c =
    let first = first_cells (region_cells (λ r. 0)) c.in-Some.region.now c.loop-region.left.now c.in-Some.rest.now (grind arith) in
    let own = region_cell_count c.in-Some.region.now in
    let kind : kind_of c.kind.result ≡ c.in-Some.region.now.kind = grind arith in
    let few = few_registers c.in-Some.region.now.kind in
    let width : c.bar_width_in_bytes.result ≡ 4 * registers_of c.in-Some.region.now.kind = grind arith in
    grind arith
