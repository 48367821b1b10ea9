use Rattle.std.proofs.Common.{◌+◌, ◌-◌, ◌/◌, ◌∙◌, ℕ, length-take-le, sym, arith}
use Rattle.model_guests.specs.Lone.{LoneGuest}
use Rattle.monitor.specs.ShownImages.{lone_shown}
use Rattle.monitor.proofs.Stopped.{between_first, half_above, half_below, in_high_half, in_low_half, stops_there}
use Rattle.monitor.proofs.saved.mismatch.first_mismatch_offset.Goals as goal

pub loop-high-init : goal.loop-high-init
loop-high-init c = between_first (lone_shown c.args.host.now.state.functions c.args.guest.now) c.args.bytes.now c.args.number c.requires.refused c.requires.enough

pub overflow_sub-high : goal.overflow_sub-high
overflow_sub-high c = let order = c.loop-high.invariant.order in omega arith

pub slice_bounds-is_refused_with-end : goal.slice_bounds-is_refused_with-end
slice_bounds-is_refused_with-end c =
    let below = half_below c.loop-high.low c.loop-high.high c.loop-high-test.true in
    let within = c.loop-high.invariant.within in
    let many = length-take-le (c.loop-high.low + (c.loop-high.high - c.loop-high.low) / 2) c.args.bytes.now (omega (arith, below, within)) in
    omega (arith, below, within, many)

pub loop-high-smaller-then-is_refused_with : goal.loop-high-smaller-then-is_refused_with
loop-high-smaller-then-is_refused_with c = let below = half_below c.loop-high.low c.loop-high.high c.loop-high-test.true in omega (arith, below)

pub loop-high-preserved-then-is_refused_with : goal.loop-high-preserved-then-is_refused_with
loop-high-preserved-then-is_refused_with c =
    let low : ℕ = c.loop-high.low in
    let high : ℕ = c.loop-high.high in
    let g : LoneGuest = lone_shown c.args.host.now.state.functions c.args.guest.now in
    in_low_half g c.args.bytes.now c.args.number low high (low + (high - low) / 2) c.loop-high.invariant (half_below low high c.loop-high-test.true) (half_above low high c.loop-high-test.true)
    (sym c.is_refused_with.ensures ∙ c.if-is_refused_with.true)

pub loop-high-smaller : goal.loop-high-smaller
loop-high-smaller c =
    let above = half_above c.loop-high.low c.loop-high.high c.loop-high-test.true in
    let order = c.loop-high.invariant.order in
    omega (arith, above, order)

pub loop-high-preserved : goal.loop-high-preserved
loop-high-preserved c =
    let low : ℕ = c.loop-high.low in
    let high : ℕ = c.loop-high.high in
    let g : LoneGuest = lone_shown c.args.host.now.state.functions c.args.guest.now in
    in_high_half g c.args.bytes.now c.args.number low high (low + (high - low) / 2) c.loop-high.invariant (half_below low high c.loop-high-test.true) (sym c.is_refused_with.ensures ∙ c.if-is_refused_with.false)

pub returns-clause-at : goal.returns-clause-at
returns-clause-at c =
    let order = c.loop-high.invariant.order in
    let near = c.loop-high-test.false in
    stops_there (lone_shown c.args.host.now.state.functions c.args.guest.now) c.args.bytes.now c.args.number c.loop-high.low c.loop-high.high c.loop-high.invariant (omega (arith, order, near)) c.requires.refused

pub returns-clause-within : goal.returns-clause-within
returns-clause-within c =
    let order = c.loop-high.invariant.order in
    let within = c.loop-high.invariant.within in
    omega (arith, order, within)
