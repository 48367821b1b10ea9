use Rattle.std.proofs.Common.{rules}
use Rattle.bridge_forward.specs.BasesNow.{bases_nth}
use Rattle.monitor.proofs.FirstFunctions.{decls_reset, held_at_first}
use Rattle.monitor.proofs.handover.guest_records.new_assigned_function.Goals as goal

pub new-requires : goal.new-requires
new-requires c = search (rules, decls_reset)

pub returns : goal.returns
returns c = λ p f is.
    let bs = bases_nth c.args.host.now.state.functions c.args.index in
    let rest = decls_reset c.bar_decls_without_bases.result c.bars_with_base_nth-placed.result bs c.bar_decls_without_bases.ensures c.bars_with_base_nth-placed.ensures in
    held_at_first c.args.host.now.state c.args.index p f is c.bar_decls_without_bases.result rest c.new.result c.new.ensures.copies c.new.ensures.reset
    c.bars_with_base_nth-placed.result c.bars_with_base_nth-placed.ensures
