-- A hit lies in a region that is told there, and each address of an open region hits something.
use Rattle.std.{proofs.{Common.{◌≡◌, ◌≤◌, ◌<◌, inl, inr, ℕ, zero, suc, ◌+◌, ◌-◌, true, eqb, List, [], ◌∷◌, Some, None, Option, Ok, refl, ap, ◌∙◌, arith}, lemmas.Bool.Decides.nat_tests}, specs.Prelude.{find, option_map, is_some}}
use Rattle.lists.{specs.Elements.{IsIn, EachPair, first_of_two}, proofs.{Tests.{left_true, right_true}, Members.each_in, Indices.{found_at, index_in}, FirstFound.first_some_of}}
use Rattle.model_registers.{specs.{Registers.{block, File}, Declarations.{Region, registers_of}, Decoding.{Space, space_of, base, is_open, Hit, hit_of, Function, lone_claim, first_hit}}, proofs.HitRegions.space_same}
use Rattle.model_guests.specs.{Slots.{Slots, slot_at, Landing, landing_in, landing_from}, Lone.LoneGuest}
use Rattle.model_handoff.specs.{GuestRegions.{LiveBar, region_now, region_at, region_answer}, QueryLaws.{HitIsInside, InsideIsHit}}

-- ---- a hit in a function

record Decodes (file : File) (space : Space) (a : ℕ) (r : Region) (h : Hit) : Type 0 where
  opened : is_open file space ≡ true
  space_is : space_of r.kind ≡ space
  low : base file r.index r.kind ≤ a
  high : a < base file r.index r.kind + r.size
  hit : h ≡ record { index = r.index; offset = a - base file r.index r.kind }

decodes_there : (file : File) (space : Space) (a : ℕ) (r : Region) (h : Hit) → hit_of file space a r ≡ Some h → Decodes file space a r h
decodes_there file space a r h = grind (arith, left_true, space_same, right_true, nat_tests)

-- where no two regions begin at one register, each is found by its own
found_by_register : (rs : List Region) → EachPair (λ (r s : Region). r.index + registers_of r.kind ≤ s.index) rs → (r : Region) → IsIn r rs
    → find (λ (s : Region). eqb s.index r.index) rs ≡ Some r
found_by_register [] order r there = absurd there
found_by_register (s ∷ rs) order r h = grind (arith, nat_tests, each_in, found_by_register rs)

-- ---- a hit in the slots

record LandsAt (space : Space) (a n : ℕ) (fs : Slots) (l : Landing) : Type 0 where
  k : ℕ
  f : Function
  h : Hit
  there : slot_at fs k ≡ Some f
  claim : lone_claim f space a ≡ Some h
  landing : l ≡ record { slot = n + k; place = block h.index h.offset }

lands_at : (space : Space) (a n : ℕ) (fs : Slots) (l : Landing) → landing_from n space a fs ≡ Some l → LandsAt space a n fs l
lands_at space a n [] l e = cc
lands_at space a n (None ∷ fs) l e =
    let more = lands_at space a (n + 1) fs l e in
    let one : n + 1 + more.k ≡ n + suc more.k = omega arith in
    record { k = suc more.k; f = more.f; h = more.h; there = more.there; claim = more.claim; landing = more.landing ∙ ap (λ (m : ℕ). let x : Landing = record { slot = m; place = block more.h.index more.h.offset } in x) one }
lands_at space a n (Some f ∷ fs) l e = by_claim (lone_claim f space a) refl e (lands_at space a (n + 1) fs l)
  where
    by_claim : (o : Option Hit) → lone_claim f space a ≡ o → first_of_two (option_map (λ (h : Hit). let x : Landing = record { slot = n; place = block h.index h.offset } in x) o) (landing_from (n + 1) space a fs) ≡ Some l
        → (landing_from (n + 1) space a fs ≡ Some l → LandsAt space a (n + 1) fs l) → LandsAt space a n (Some f ∷ fs) l
    by_claim None claim is rest =
        let more = rest is in
        let one : n + 1 + more.k ≡ n + suc more.k = omega arith in
        record { k = suc more.k; f = more.f; h = more.h; there = more.there; claim = more.claim; landing = more.landing ∙ ap (λ (m : ℕ). let x : Landing = record { slot = m; place = block more.h.index more.h.offset } in x) one }
    by_claim (Some h) claim is rest =
        let none : n ≡ n + 0 = omega arith in
        grind arith

answer_there : (g : LoneGuest) (n m : ℕ) (f : Function) (r : Region) → n < 32 → slot_at g.slots n ≡ Some f → region_at f m ≡ Some r
    → region_answer g n m ≡ Ok (region_now f.file r)
answer_there g n m f r low there at = grind (arith, nat_tests)

pub hit_is_inside : HitIsInside
hit_is_inside g lawful space a l e =
    let at = lands_at space a 0 g.slots l e in
    let zero_on : 0 + at.k ≡ at.k = omega arith in
    let slot : l.slot ≡ at.k = ap (λ (x : Landing). x.slot) at.landing ∙ zero_on in
    let of = first_some_of (hit_of at.f.file space a) at.f.decl.regions at.h at.claim in
    let d = decodes_there at.f.file space a of.0 at.h of.2 in
    let its = lawful at.k at.f at.there in
    let found : region_at at.f of.0.index ≡ Some of.0 = found_by_register at.f.decl.regions its.1.in_order of.0 of.1 in
    record {
      register = of.0.index;
      region = region_now at.f.file of.0;
      told = ap (λ (n : ℕ). region_answer g n of.0.index) slot ∙ answer_there g at.k of.0.index at.f of.0 its.0 at.there found;
      opened = ap (is_open at.f.file) d.space_is ∙ d.opened;
      space_is = d.space_is;
      low = d.low;
      high = d.high;
      place = ap (λ (x : Landing). x.place) at.landing ∙ ap (λ (h : Hit). block h.index h.offset) d.hit;
    }

-- ---- an address of an open region

pub record IsTold (g : LoneGuest) (n m : ℕ) (r : LiveBar) : Type 0 where
  pub f : Function
  pub region : Region
  pub there : slot_at g.slots n ≡ Some f
  pub at : IsIn region f.decl.regions
  pub is : region_now f.file region ≡ r

told_there : (g : LoneGuest) (n m : ℕ) (r : LiveBar) → region_answer g n m ≡ Ok r → IsTold g n m r
told_there g n m r = grind (arith, found_at, index_in)

some_first : {A : Type 0} (o p : Option A) → is_some o ≡ true → is_some (first_of_two o p) ≡ true
some_first o p h = grind arith

some_second : {A : Type 0} (o p : Option A) → is_some p ≡ true → is_some (first_of_two o p) ≡ true
some_second o p h = grind arith

some_hit : (file : File) (a : ℕ) (r : Region) → is_open file (space_of r.kind) ≡ true → base file r.index r.kind ≤ a → a < base file r.index r.kind + r.size
    → is_some (hit_of file (space_of r.kind) a r) ≡ true
some_hit file a r opened low high = grind (arith, nat_tests)

some_first_hit : (file : File) (space : Space) (a : ℕ) (r : Region) (rs : List Region) → IsIn r rs → is_some (hit_of file space a r) ≡ true → is_some (first_hit file rs space a) ≡ true
some_first_hit file space a r [] there h = absurd there
some_first_hit file space a r (x ∷ rs) (inl here) h = grind (arith, some_first (hit_of file space a x) (first_hit file rs space a))
some_first_hit file space a r (x ∷ rs) (inr later) h = some_second (hit_of file space a x) (first_hit file rs space a) (some_first_hit file space a r rs later h)

some_landing : (space : Space) (a k : ℕ) (fs : Slots) (n : ℕ) (f : Function) → slot_at fs n ≡ Some f → is_some (lone_claim f space a) ≡ true → is_some (landing_from k space a fs) ≡ true
some_landing space a k [] n f there h = cc
some_landing space a k x zero f there h = grind (arith, some_first)
some_landing space a k (x ∷ fs) (suc n) f there h = some_second (landing_in k space a x) (landing_from (k + 1) space a fs) (some_landing space a (k + 1) fs n f there h)

pub inside_is_hit : InsideIsHit
inside_is_hit g n m r told opened a low high =
    let is = told_there g n m r told in
    grind (arith, some_landing (space_of is.region.kind) a 0 g.slots n is.f is.there, some_first_hit, some_hit)
