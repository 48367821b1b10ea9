use Rattle.std.proofs.Common.{◌≡◌, ◌++◌, drop}
use Rattle.bars.specs.Kinds.{named_space}
use Rattle.claim_table.specs.Entries.{open_entries}
use Rattle.claim_table.proofs.open_regions.all_enabled_regions.Given as goal

abbrev pub invariant-loop-function : goal.invariant-loop-function
invariant-loop-function l = l.entries.items ++ open_entries (named_space l.space) l.function (drop l.function l.rows) ≡ open_entries (named_space l.space) 0 l.rows
