use Rattle.std.proofs.Common.{◌≡◌, [], length, All}
use Rattle.window_packing.proofs.bus_packs.empty_lists_per_bus.Given as goal

abbrev pub invariant-loop : goal.invariant-loop
invariant-loop l = (length l.items.items ≡ l.counter) × All (λ own. own.items ≡ []) l.items.items
