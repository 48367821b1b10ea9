use Rattle.std.proofs.Common.{◌≡◌, length, drop}
use Rattle.config_bytes.specs.CellFile.{placed}
use Rattle.config_bytes.proofs.cells.store_at_offsets.Given as goal

abbrev pub invariant-loop-off : goal.invariant-loop-off
invariant-loop-off l = (placed (drop l.off-index l.cells) l.table ≡ placed l.cells l.fn.table) × (length l.table ≡ length l.fn.table)
