use Rattle.std.{proofs.Common.{◌≡◌, ℕ, ◌<◌, ◌≤◌, List, length, Some, ap, subst, arith}, specs.List.slice_get}
use Rattle.lists.proofs.Indices.{read_at}
use Rattle.window_packing.{specs.{Packs.PackedBus, Placed.PlacedPool, Plans.named_pool}, proofs.LayoutRows.rows_more}
use Rattle.window_packing.proofs.rows.push_pool_rows.Goals as goal

pub loop-bus-preserved : goal.loop-bus-preserved
loop-bus-preserved c =
    let pl = c.args.placed.now in
    let k = c.loop-bus.bus in
    let firsts : c.placed.inside.firsts.items ≡ pl.firsts = ap (λ (p : PlacedPool). p.firsts) c.placed.view_is in
    let packs : c.placed.inside.packs.items ≡ pl.packs = ap (λ (p : PlacedPool). p.packs) c.placed.view_is in
    let low : k < length c.placed.inside.packs.items = omega (arith, c.loop-bus-test.true, c.len-bus-end.ensures, c.placed.inside.packs.ok) in
    let within : k ≤ length c.args.paths.now = omega (arith, low, ap length packs, c.requires.packs) in
    let n = c.index-first.result.now in
    let p = c.index.result.now in
    let first : slice_get pl.firsts k ≡ Some n = subst (λ (xs : List ℕ). slice_get xs k ≡ Some n) firsts (read_at c.placed.inside.firsts.items k n (omega (arith, within, ap length firsts, c.requires.firsts)) c.index-first.ensures) in
    let pack : slice_get pl.packs k ≡ Some p = subst (λ (xs : List PackedBus). slice_get xs k ≡ Some p) packs (read_at c.placed.inside.packs.items k p low c.index.ensures) in
    rows_more (named_pool c.args.pool) c.args.paths.now pl.firsts pl.packs k within n p first pack c.args.into.now.items c.loop-bus.into.items c.push_bus_rows.new.into.items c.loop-bus.invariant c.in_ok-push_bus_rows.ensures
