use Rattle.std.{proofs.Common.{◌≡◌, false, arith}, specs.Prelude.flat_map}
use Rattle.model_registers.specs.EndpointTable.{endpoint_reset}
use Rattle.model_images.specs.LoadedBytes.{after_values}
use Rattle.images.{specs.Faults.number_of, proofs.TakenValues.{blocks_end_of, header_ends_of, region_reset, regions_decide}}
use Rattle.images.proofs.values.strip_fitting_values_of_endpoint.Goals as goal
use Rattle.images.proofs.values.strip_fitting_values_of_endpoint.Goals.{After-strip_fitting_values_of_regions}

pub returns-in_err-bytes-clause-refused : goal.returns-in_err-bytes-clause-refused
returns-in_err-bytes-clause-refused c =
    let all = header_ends_of c.args.decl.now c.args.bytes.now (number_of c.in_err-bytes.field-0.0) (rw c.endpoint_rows_without_bars.ensures.cells at c.in_err-bytes.ensures.refused) in grind arith

pub returns-in_err-bytes-2-clause-refused : goal.returns-in_err-bytes-2-clause-refused
returns-in_err-bytes-2-clause-refused c =
    let first = rw c.endpoint_rows_without_bars.ensures.cells at c.in_ok-bytes.ensures.left in
    let all = blocks_end_of c.args.decl.now c.deref.result.now c.args.bytes.now c.in_ok-bytes.bytes.now (number_of c.in_err-bytes-2.field-0.0) (grind arith) first c.in_err-bytes-2.ensures.refused in
    grind arith

-- the values of the regions decide
decided : (c : After-strip_fitting_values_of_regions)
    → after_values (endpoint_reset c.args.decl.now false) c.args.bytes.now ≡ after_values (flat_map region_reset c.deref-2.result.now) c.in_ok-bytes-2.bytes.now
decided c =
    let first = rw c.endpoint_rows_without_bars.ensures.cells at c.in_ok-bytes.ensures.left in
    regions_decide c.args.decl.now c.deref.result.now c.deref-2.result.now (grind arith) (grind arith) c.args.bytes.now c.in_ok-bytes.bytes.now first c.in_ok-bytes-2.bytes.now c.in_ok-bytes-2.ensures.left

pub returns-clause-left : goal.returns-clause-left
returns-clause-left c = let all = decided c in grind arith

pub returns-clause-refused : goal.returns-clause-refused
returns-clause-refused c = let all = decided c in grind arith
