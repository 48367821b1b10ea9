use Rattle.std.proofs.Common.{◌%◌, ap, sym, ◌∙◌, arith}
use Rattle.model_registers.specs.{DeviceBytes.{with_value, set_value}, Registers.{Place, block}}
use Rattle.headers.specs.Places.{place_of}
use Rattle.bridge_forward.proofs.{EndpointAccess.{change_in_block, set_config, header_set}, ResetKept.{cell_invariant, short_there, block_invariant, block_shown, nothing_shown}}
use Rattle.bridge_forward.proofs.endpoint.EndpointFn.set.Goals as goal

pub invariant_of-self : goal.invariant_of-self
invariant_of-self c = grind (arith, cell_invariant, header_set)

pub returns-in-Cfg : goal.returns-in-Cfg
returns-in-Cfg c = grind (arith, set_config)

pub set_or_ignore-requires-in-Some : goal.set_or_ignore-requires-in-Some
set_or_ignore-requires-in-Some c = short_there c.self.invariant c.from.result c.in-Some.block.now c.in-Some.ensures.item.0 c.in-Some.ensures.item.1

pub invariant_of-self-in-Some : goal.invariant_of-self-in-Some
invariant_of-self-in-Some c =
    block_invariant c.self.invariant (change_in_block (with_value (c.args.value % 256)) c.from.result c.args.off) c.in-Some.ensures.item.0 c.in-Some.ensures.item.1 c.set_or_ignore-in-Some.ensures

pub returns-in-Some : goal.returns-in-Some
returns-in-Some c =
    block_shown c.self.invariant (change_in_block (with_value (c.args.value % 256)) c.from.result c.args.off) c.in-Some.ensures.item.0 c.in-Some.ensures.item.1 c.set_or_ignore-in-Some.ensures c.self.view_is
    ∙ ap (λ (p : Place). record c.args.self.now { file = set_value c.args.value p c.args.self.now.file }) (ap (λ m. block m c.args.off) c.from.ensures ∙ ap (λ p. place_of p c.args.off) (sym c.in-Bar.is))

pub returns-in_default : goal.returns-in_default
returns-in_default c =
    nothing_shown c.self.invariant (change_in_block (with_value (c.args.value % 256)) c.from.result c.args.off) c.in_default.ensures.item.0 c.self.view_is
    ∙ ap (λ (p : Place). record c.args.self.now { file = set_value c.args.value p c.args.self.now.file }) (ap (λ m. block m c.args.off) c.from.ensures ∙ ap (λ p. place_of p c.args.off) (sym c.in-Bar.is))
