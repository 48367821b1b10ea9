use Rattle.std.proofs.{Common.{rules, sym}, lemmas.List.Sorted.IsPartitionPoint-from_clause}
use Rattle.claim_table.proofs.Searching.{begins_by, parted, none_begins, begins_here, holds_here, ends_here}
use Rattle.claim_table.proofs.search.entry_at.Goals as goal

pub returns-then-after-eq0 : goal.returns-then-after-eq0
returns-then-after-eq0 c = sym (none_begins c.args.addr c.args.entries.now c.partition_point-after.result (IsPartitionPoint-from_clause (begins_by c.args.addr) c.args.entries.now c.partition_point-after.result c.partition_point-after.ensures.partitioned (parted c.args.addr c.args.entries.now c.requires) (λ a r q k. search rules)) c.if-after-eq0.true)

pub overflow_sub-addr : goal.overflow_sub-addr
overflow_sub-addr c = begins_here c.args.addr c.args.entries.now c.partition_point-after.result (IsPartitionPoint-from_clause (begins_by c.args.addr) c.args.entries.now c.partition_point-after.result c.partition_point-after.ensures.partitioned (parted c.args.addr c.args.entries.now c.requires) (λ a r q k. search rules)) c.if-after-eq0.false _

pub returns-then-addr-entry : goal.returns-then-addr-entry
returns-then-addr-entry c = sym (holds_here c.args.addr c.args.entries.now c.partition_point-after.result (IsPartitionPoint-from_clause (begins_by c.args.addr) c.args.entries.now c.partition_point-after.result c.partition_point-after.ensures.partitioned (parted c.args.addr c.args.entries.now c.requires) (λ a r q k. search rules)) c.if-after-eq0.false _ c.requires c.partition_point-after.ensures.bound c.if-addr-entry.true)

pub returns-else-addr-entry : goal.returns-else-addr-entry
returns-else-addr-entry c = sym (ends_here c.args.addr c.args.entries.now c.partition_point-after.result (IsPartitionPoint-from_clause (begins_by c.args.addr) c.args.entries.now c.partition_point-after.result c.partition_point-after.ensures.partitioned (parted c.args.addr c.args.entries.now c.requires) (λ a r q k. search rules)) c.if-after-eq0.false _ c.requires c.partition_point-after.ensures.bound c.if-addr-entry.false)
