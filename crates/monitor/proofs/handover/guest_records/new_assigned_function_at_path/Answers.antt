use Rattle.monitor.proofs.FirstFunctions.{never_none, stands_there, lawful_there, slot_at_first}
use Rattle.monitor.proofs.handover.guest_records.new_assigned_function_at_path.Goals as goal

pub new_assigned_function-requires : goal.new_assigned_function-requires
new_assigned_function-requires c =
    let s = c.args.host.now.state in
    let p = c.args.path.now in
    lawful_there s c.in-Some.index p _ (stands_there s c.requires.board p c.requires.there c.in-Some.index c.in-Some.ensures.function)

pub returns : goal.returns
returns c =
    slot_at_first c.args.host.now.state c.requires.board c.args.path.now c.requires.there c.in-Some.index c.in-Some.ensures.function c.new_assigned_function.result (c.new_assigned_function.ensures c.args.path.now)

pub unreachable-requires : goal.unreachable-requires
unreachable-requires c =
    never_none c.args.host.now.state c.requires.board c.args.path.now c.requires.there c.index_of.result c.index_of.ensures.function c.in-None.is
