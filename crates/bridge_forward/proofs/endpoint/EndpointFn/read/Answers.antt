use Rattle.std.proofs.{Common.{◌≡◌, ap, ap₂, sym, ◌∙◌, arith}, lemmas.Bool.{ltb-true, ltb-false}}
use Rattle.model_registers.specs.{Registers.{File, config, block, read}, ByteEnables.lanes, Decoding.Function}
use Rattle.bridge_forward.{specs.EndpointParts.block_at, proofs.EndpointAccess.{read_block, block_there, no_block}}
use Rattle.bridge_forward.proofs.endpoint.EndpointFn.read.Goals as goal
use Rattle.bridge_forward.proofs.endpoint.EndpointFn.read.Goals.{After-from}

-- what stands at the register is read as the endpoint's
shown : (c : After-from) {xs : File} → block_at c.deref.result.now c.from.result ≡ xs
    → read xs (config c.args.off) (lanes c.args.enables) ≡ read c.args.self.now.file (block c.args.reg c.args.off) (lanes c.args.enables)
shown c here =
    let ons = lanes c.args.enables in
    ap (λ (xs : File). read xs (config c.args.off) ons) (sym here ∙ ap₂ block_at c.deref.ensures.value c.from.ensures)
    ∙ sym (read_block _ _ _ _ c.self.invariant.parts c.args.reg c.args.off ons)
    ∙ ap (λ (f : Function). read f.file (block c.args.reg c.args.off) ons) c.self.view_is

pub returns-in-Some : goal.returns-in-Some
returns-in-Some c = grind (arith, shown, block_there, ltb-true)

pub returns-in-None : goal.returns-in-None
returns-in-None c =
    sym (Rattle.model_registers.proofs.Parts.read_none (lanes c.args.enables) (config c.args.off))
    ∙ shown (goal.at.returns-in-None c).After-from (no_block c.deref.result.now c.from.result (ltb-false _ _ (sym c.in-None.ensures.lookup.0)))
