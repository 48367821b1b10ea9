use Rattle.std.{proofs.Common.{ap, ap₂, sym, ◌∙◌, arith}, specs.Prelude.find}
use Rattle.bars.specs.Kinds.{named_space}
use Rattle.claim_table.{specs.Entries.{lies_in, by_space}, proofs.Answering.{none_claimed, from, claimed_bar_offset}}
use Rattle.claim_table.proofs.table.TableRoute.claimed_bar_offset.Goals as goal

pub returns-in_err-entry-clause-claim : goal.returns-in_err-entry-clause-claim
returns-in_err-entry-clause-claim c = grind (arith, none_claimed)

pub overflow_sub-result : goal.overflow_sub-result
overflow_sub-result c = grind (arith, from)

pub returns-clause-claim : goal.returns-clause-claim
returns-clause-claim c = grind (arith, claimed_bar_offset)

pub returns-clause-within : goal.returns-clause-within
returns-clause-within c =
    let t = c.self.inside in
    let found = sym (c.in_ok-entry.ensures ∙ ap (find (lies_in c.args.addr)) (c.entries_of_space.ensures ∙ ap₂ (by_space (named_space c.args.space)) c.deref.ensures.value c.deref-2.ensures.value)) in
    (claimed_bar_offset t.paths.items t.ports.items t.memory.items c.args.self.now c.args._host.now c.self.view_is c.requires (named_space c.args.space) c.args.addr c.in_ok-entry.entry found).1
