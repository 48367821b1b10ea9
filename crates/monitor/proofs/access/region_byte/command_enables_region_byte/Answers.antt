use Rattle.std.{proofs.{Common.{◌≡◌, ℕ, Bool, true, false, cond, None, Option, Some, ap, refl, sym, ◌∙◌, arith}, lemmas.Bool.Decides.nat_tests}, specs.Prelude.nat_lt}
use Rattle.model_registers.specs.Decoding.{Function, is_open, space_of}
use Rattle.model_guests.specs.Accesses.{in_region}
use Rattle.model_handoff.specs.RegionBytes.{opening}
use Rattle.headers.specs.declared.place.Place.{Place}
use Rattle.bars.specs.Kinds.{kind_of}
use Rattle.accesses.specs.Accesses.{part_of}
use Rattle.monitor.proofs.{QuerySteps.{no_region, a_region, slot_past, slot_read}, RegionBytes.{opening_kept, opening_none}}
use Rattle.monitor.proofs.access.region_byte.command_enables_region_byte.Goals as goal

-- the place is a register's
named : (f : Function) (off : ℕ) (place : Place) {n m : ℕ} → n ≡ m → part_of place ≡ in_region m → opening f (in_region n) off ≡ opening f (part_of place) off
named f off place same is = ap (λ k. opening f (in_region k) off) same ∙ ap (λ part. opening f part off) (sym is)

pub returns-then-off-size : goal.returns-then-off-size
returns-then-off-size c = λ s p f held lawful.
    let here : c.in-Some-Some.field-0.now ≡ Some c.in-Some-Some.region = let i = c.in-Some-Some.is in let j = c.in-Some-Some.field-0-is in cc in
    let at = slot_read c.args.held.now.placed c.from.result c.in-Some-Some.ensures.lookup.0 c.in-Some-Some.ensures.lookup.1 here in
    let its = a_region s p f c.args.held.now c.from.result c.in-Some-Some.region held lawful at in
    let inside : nat_lt c.args.off c.size-size.result ≡ true = let h = c.if-off-size.true in grind (arith, nat_tests) in
    ap (λ t. Some t) (c.guest_enables_space.ensures f.file held.own ∙ ap (is_open f.file) c.space.ensures)
    ∙ sym (ap (λ t. cond {A = Option Bool} t (Some (is_open f.file (space_of (kind_of c.kind.result)))) None) inside)
    ∙ opening_kept f c.from.result c.args.off c.in-Some-Some.region its (kind_of c.kind.result) c.kind.ensures c.size-size.ensures.value
    ∙ named f c.args.off c.args.place c.from.ensures (ap part_of c.in-Bar.is)

pub returns-else-off-size : goal.returns-else-off-size
returns-else-off-size c = λ s p f held lawful.
    let here : c.in-Some-Some.field-0.now ≡ Some c.in-Some-Some.region = let i = c.in-Some-Some.is in let j = c.in-Some-Some.field-0-is in cc in
    let at = slot_read c.args.held.now.placed c.from.result c.in-Some-Some.ensures.lookup.0 c.in-Some-Some.ensures.lookup.1 here in
    let its = a_region s p f c.args.held.now c.from.result c.in-Some-Some.region held lawful at in
    let past : nat_lt c.args.off c.size-size.result ≡ false = let h = c.if-off-size.false in grind (arith, nat_tests) in
    sym (ap (λ t. cond {A = Option Bool} t (Some (is_open f.file (space_of c.in-Some-Some.region.decl.kind))) None) past)
    ∙ opening_kept f c.from.result c.args.off c.in-Some-Some.region its c.in-Some-Some.region.decl.kind refl c.size-size.ensures.value
    ∙ named f c.args.off c.args.place c.from.ensures (ap part_of c.in-Bar.is)

pub returns-in-Some-None : goal.returns-in-Some-None
returns-in-Some-None c = λ s p f held lawful.
    let here : c.in-Some-None.field-0.now ≡ None = let i = c.in-Some-None.is in let j = c.in-Some-None.field-0-is in cc in
    let at = slot_read c.args.held.now.placed c.from.result c.in-Some-None.ensures.lookup.0 c.in-Some-None.ensures.lookup.1 here in
    opening_none f c.from.result c.args.off (no_region s p f c.args.held.now c.from.result held at) ∙ named f c.args.off c.args.place c.from.ensures (ap part_of c.in-Bar.is)

pub returns-in-None : goal.returns-in-None
returns-in-None c = λ s p f held lawful.
    let past = slot_past c.args.held.now.placed c.from.result c.in-None.ensures.lookup.0 in
    opening_none f c.from.result c.args.off (no_region s p f c.args.held.now c.from.result held past) ∙ named f c.args.off c.args.place c.from.ensures (ap part_of c.in-Bar.is)
