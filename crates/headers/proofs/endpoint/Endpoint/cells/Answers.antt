-- The list is the reset file of a lawful endpoint, so its offsets are distinct.
use Rattle.std.proofs.Common.{◌≡◌, ap, ◌∙◌, arith}
use Rattle.model_registers.specs.{Declarations.Endpoint, EndpointTable.{header_cells, config_reset}}
use Rattle.config_bytes.specs.CellFile.{file_of}
use Rattle.headers.proofs.DistinctOffsets.{endpoint_offsets}
use Rattle.headers.proofs.endpoint.Endpoint.cells.Goals as goal

pub new-requires : goal.new-requires
new-requires c =
    let d = c.args.decl.now in
    let header : file_of c.push_rows.new.cells.items ≡ header_cells d c.args.multifunction 0 = grind arith in
    let blocks : c.deref.result.now ≡ d.blocks = c.deref.ensures.value ∙ ap (λ (e : Endpoint). e.blocks) (c.behind-decl.view_is ∙ c.values.ensures.values) in
    let is : file_of c.deref-2.result.now ≡ config_reset d c.args.multifunction = grind arith in
    endpoint_offsets d c.args.multifunction c.deref-2.result.now c.values.ensures.lawful is
