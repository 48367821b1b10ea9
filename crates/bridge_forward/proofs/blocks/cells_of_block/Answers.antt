use Rattle.std.proofs.{Common.{ℕ, List, [], ◌∷◌, ◌++◌, take, sym, ap, ◌∙◌, subst, arith}, lemmas.List.take_all}
use Rattle.model_registers.specs.Cell.{Cell}
use Rattle.config_bytes.{specs.CellFile.HasDistinctOffsets, proofs.Offsets.{file_of-offsets_from, HasDistinctOffsets-offsets_from}}
use Rattle.lists.proofs.Indices.{read_at}
use Rattle.bridge_forward.proofs.EndpointReset.{offsets_next}
use Rattle.bridge_forward.proofs.blocks.cells_of_block.Goals as goal

pub loop-off-preserved : goal.loop-off-preserved
loop-off-preserved c =
    let e = read_at c.args.block.now c.loop-off.off c.index-block-off.result c.loop-off-test.true c.index-block-off.is in
    c.in_ok-push.ensures.items ∙ ap (λ (cs : List (ℕ × Cell)). cs ++ (c.loop-off.off, c.index-block-off.result) ∷ []) c.loop-off.invariant ∙ sym (offsets_next c.args.block.now c.loop-off.off c.index-block-off.result e)

pub new-requires : goal.new-requires
new-requires c =
    subst HasDistinctOffsets (sym (c.deref.ensures.value ∙ c.loop-off.invariant)) (HasDistinctOffsets-offsets_from 0 (take c.loop-off.off c.args.block.now))

pub returns : goal.returns
returns c = grind (arith, take_all, file_of-offsets_from)
