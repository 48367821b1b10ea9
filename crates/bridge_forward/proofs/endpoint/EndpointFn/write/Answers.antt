use Rattle.std.proofs.Common.{ap, ◌∙◌}
use Rattle.model_registers.specs.{Registers.{block, write}, ByteEnables.lanes}
use Rattle.bridge_forward.proofs.{EndpointAccess.write_in_block, ResetKept.{short_there, block_invariant, block_shown, nothing_shown}}
use Rattle.bridge_forward.proofs.endpoint.EndpointFn.write.Goals as goal

pub returns-in_default : goal.returns-in_default
returns-in_default c =
    nothing_shown c.self.invariant (write_in_block c.from.result c.args.off c.args.data (lanes c.args.enables)) c.in_default.ensures.item.0 c.self.view_is
    ∙ ap (λ m. record c.args.self.now { file = write (lanes c.args.enables) c.args.data (block m c.args.off) c.args.self.now.file }) c.from.ensures

pub write_or_ignore-requires-clause-short : goal.write_or_ignore-requires-clause-short
write_or_ignore-requires-clause-short c = short_there c.self.invariant c.from.result c.in-Some.block.now c.in-Some.ensures.item.0 c.in-Some.ensures.item.1

pub invariant_of-self-2 : goal.invariant_of-self-2
invariant_of-self-2 c =
    block_invariant c.self.invariant (write_in_block c.from.result c.args.off c.args.data (lanes c.args.enables)) c.in-Some.ensures.item.0 c.in-Some.ensures.item.1 c.write_or_ignore.ensures

pub returns : goal.returns
returns c =
    block_shown c.self.invariant (write_in_block c.from.result c.args.off c.args.data (lanes c.args.enables)) c.in-Some.ensures.item.0 c.in-Some.ensures.item.1 c.write_or_ignore.ensures c.self.view_is
    ∙ ap (λ m. record c.args.self.now { file = write (lanes c.args.enables) c.args.data (block m c.args.off) c.args.self.now.file }) c.from.ensures
