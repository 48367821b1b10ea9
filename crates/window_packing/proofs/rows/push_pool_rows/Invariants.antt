use Rattle.std.proofs.Common.{◌≡◌, ◌++◌, [], ◌∷◌, take}
use Rattle.window_packing.specs.{Plans.named_pool, LayoutRows.rows_along}
use Rattle.window_packing.proofs.rows.push_pool_rows.Given as goal

abbrev pub invariant-loop-bus : goal.invariant-loop-bus
invariant-loop-bus l = l.into.items ≡ l.initial.into.items ++ rows_along (named_pool l.pool) (take l.bus ([] ∷ l.paths)) l.fn.placed.firsts l.fn.placed.packs
