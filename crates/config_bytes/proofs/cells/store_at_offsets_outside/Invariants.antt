use Rattle.std.proofs.Common.{◌≡◌, length, drop}
use Rattle.config_bytes.specs.CellFile.{placed_outside}
use Rattle.config_bytes.proofs.cells.store_at_offsets_outside.Given as goal

abbrev pub invariant-loop-off : goal.invariant-loop-off
invariant-loop-off l = (placed_outside l.first l.last (drop l.off-index l.cells) l.table ≡ placed_outside l.first l.last l.cells l.fn.table) × (length l.table ≡ length l.fn.table)
