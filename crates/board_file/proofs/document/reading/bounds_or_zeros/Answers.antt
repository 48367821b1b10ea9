use Rattle.std.proofs.Common.{sym}
use Rattle.board_file.proofs.Walk.{range_short, range_long}
use Rattle.board_file.proofs.document.reading.bounds_or_zeros.Goals as goal

pub returns-in_default : goal.returns-in_default
returns-in_default c = sym (range_short c.args.items.now.items (rw (c.as_slice.ensures.value) at c.in_default.len_below))

pub returns-in_default-2 : goal.returns-in_default-2
returns-in_default-2 c = sym (range_long c.args.items.now.items (rw (c.as_slice.ensures.value) at c.in_default.len_at_least))
