use Rattle.std.proofs.Common.{◌≡◌, ◌++◌, map, take}
use Rattle.model_set_up.specs.Layout.{row_of}
use Rattle.window_packing.specs.{Plans.named_pool, LayoutRows.bus_at}
use Rattle.window_packing.proofs.rows.push_bus_rows.Given as goal

abbrev pub invariant-loop-i : goal.invariant-loop-i
invariant-loop-i l = l.into.items ≡ l.initial.into.items ++ map (row_of (named_pool l.pool) (bus_at l.paths l.bus) l.first) (take l.i l.pack.spots)
