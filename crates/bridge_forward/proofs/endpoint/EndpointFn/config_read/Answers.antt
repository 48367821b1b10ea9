use Rattle.std.proofs.Common.{ap, sym, ◌∙◌, arith}
use Rattle.model_registers.specs.{Registers.{config, read}, ByteEnables.lanes, EndpointTable.base_file, Decoding.Function}
use Rattle.bridge_forward.proofs.EndpointAccess.{read_base, read_config, word_away}
use Rattle.bridge_forward.proofs.endpoint.EndpointFn.config_read.Goals as goal

pub returns-in-Some : goal.returns-in-Some
returns-in-Some c =
    let ons = lanes c.args.enables in
    let at = c.in-Some.ensures.there in
    c.read.ensures.word
    ∙ ap (λ n. read (base_file c.self.inside.bars) (config n) ons) (sym at.1)
    ∙ sym (read_base _ _ _ _ c.self.invariant.parts c.args.off ons (omega (arith, at.0, at.1)) (omega (arith, at.0, at.1)))
    ∙ ap (λ (f : Function). read f.file (config c.args.off) ons) c.self.view_is

pub returns-in-None : goal.returns-in-None
returns-in-None c =
    let ons = lanes c.args.enables in
    c.read-in-None.ensures.word
    ∙ ap (λ n. read c.self.inside.config.now (config n) ons) c.from.ensures
    ∙ sym (read_config _ _ _ _ c.self.invariant.parts c.args.off ons (word_away c.args.off c.requires c.in-None.ensures.elsewhere))
    ∙ ap (λ (f : Function). read f.file (config c.args.off) ons) c.self.view_is
