use Rattle.std.proofs.{Common.{◌≡◌, ◌++◌, take, drop, length, ap, ◌∙◌, arith}, lemmas.Grind.common_steps}
use Rattle.model_registers.specs.{Registers.File, Decoding.Function, CopiedFiles.after_reset}
use Rattle.config_bytes.specs.CellFile.{CellFile}
use Rattle.bridge_forward.{specs.EndpointParts.blocks_after, proofs.ResetCells.{file_back, parts_back, know_back}}
use Rattle.bridge_forward.proofs.endpoint.EndpointFn.reset.Goals as goal

went_back : (c : goal.After-self-2-1) → take c.self.inside.blocks.len (c.reset_all.new.blocks ++ drop (length c.reset_all.new.blocks) c.self.inside.blocks.items) ≡ blocks_after c.self.inside.blocks.items
went_back c = grind (arith, common_steps)

pub invariant_of-self : goal.invariant_of-self
invariant_of-self c =
    let e = c.self.inside in
    let parts = c.self.invariant.parts in
    let reset = c.self.invariant.reset in
    let cells = c.reset_outside.ensures.cells in
    record {
      parts = parts_back e.decl e.config e.bars e.blocks.items parts reset c.reset_outside.new.self.now c.reset_outside.ensures.places (ap (λ (f : CellFile). f.now) cells) _ (went_back c);
      command_is = c.command.ensures;
      reset = know_back e.decl e.config e.bars e.blocks.items parts reset c.reset_outside.new.self cells _ (went_back c);
    }

pub returns : goal.returns
returns c =
    let e = c.self.inside in
    let cells = c.reset_outside.ensures.cells in
    ap (λ (xs : File). record { decl = e.decl; file = xs })
    (file_back e.decl e.config e.bars e.blocks.items c.self.invariant.parts c.self.invariant.reset c.reset_outside.new.self.now (ap (λ (f : CellFile). f.now) cells) _ (went_back c))
    ∙ ap (λ (f : Function). record f { file = after_reset f.decl f.file }) c.self.view_is
