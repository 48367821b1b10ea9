-- What begins at a register of an endpoint, by what the register and the next one read after all ones.
--     Begins      what the register and the next one read, by what begins there
--     BarsBelow      the host is as it was, and the slots below a register are told
use Rattle.std.{proofs.{lemmas.{Bool.{Decides.nat_tests, cases_lt, ne_eqb, cond-true, cond-false, eq-eqb, and_from, or_parts, cases_eq, and_right}, Nat.and_mask, List.{get_or-set_same, get_or-set_other, length-set}, Option.unwrap_or-slice_get}, Common.{◌≡◌, ℕ, ◌+◌, ◌/◌, ◌%◌, ◌^◌, ◌<◌, ◌≤◌, ◌⊎◌, inl, inr, true, false, ◌&&◌, List, [], ◌∷◌, Option, Some, None, refl, sym, ap, ◌∙◌, arith, eqb, zero, suc, Bool, ◌||◌, map, length, get_or, ap₂, below_more}}, specs.{Prelude.{bit_and, IfSome, slice_set}, Option.option_map_or}}
use Rattle.lists.{proofs.{Tests.and_true, EachLemmas.each_map}, specs.Elements.{Each, EachPair}}
use Rattle.model_registers.{specs.{Declarations.{Kind, io_kind, mem32, mem64, registers_of, Bar, Region, IsLawfulSize, IsLawfulRegion, HasLawfulRegions}, Sizing.{mask_of, ShowsSize}, EndpointTable.opened, OwnCopies.bare}, proofs.{Bases.registers_positive, Sizes.sizes_read}}
use Rattle.bus_scan.{specs.{SizedRows.{bar_at, is_upper_half, bars_of, is_after_wide}, Rows.regions_of, Probes.regions_reached}, proofs.{ProbedFiles.sixteens, ProbedEndpoints.{bar_of, mask_at, at_low, at_high, elsewhere, side, mask_low, mask_high, mask_apart, not_wide}}}
use Rattle.model_board.specs.Cycles.{BusAddress}
use Rattle.host_bridge.specs.HostState.{HostState}
use Rattle.bars.specs.Resets.{reset_from}

pub data Begins (n : ℕ) (rs : List Region) : Type 0 where
  nothing : bar_at n rs ≡ None → mask_at n rs ≡ 0 → Begins n rs
  region : (b : Bar) → bar_at n rs ≡ Some b → IsLawfulSize b.kind b.size → mask_at n rs ≡ mask_of b % 2 ^ 32
      → (registers_of b.kind ≡ 2 → (n < 5) × (mask_at (n + 1) rs ≡ mask_of b / 2 ^ 32)) → Begins n rs

pub bar_other : (n : ℕ) (r : Region) (rs : List Region) → (n ≡ r.index → ⊥) → bar_at n (r ∷ rs) ≡ bar_at n rs
bar_other n r rs other = cond-false (eqb n r.index) _ _ (ne_eqb n r.index other)

pub none_later : (n : ℕ) (rs : List Region) → Each (λ s. n < s.index) rs → (bar_at n rs ≡ None) × (mask_at n rs ≡ 0)
none_later n [] h = (refl, refl)
none_later n (r ∷ rs) h = grind (arith, bar_other, mask_apart, none_later n rs h.1)

-- regions that lie apart from a register and the next one are passed by
passed : (n : ℕ) (r : Region) (rs : List Region) → (n ≡ r.index → ⊥) → (registers_of r.kind ≡ 2 → n ≡ r.index + 1 → ⊥) → r.index ≤ n → Begins n rs → Begins n (r ∷ rs)
passed n r rs other m above (nothing none reads_zero) = nothing (bar_other n r rs other ∙ none) (mask_apart n r rs other m ∙ reads_zero)
passed n r rs other m above (region b is lawful shows upper) =
    region b (bar_other n r rs other ∙ is) lawful (mask_apart n r rs other m ∙ shows)
    (λ two. let u = upper two in (u.0, mask_apart (n + 1) r rs (λ e. omega arith) (λ t e. other (omega arith)) ∙ u.1))

pub begins : (n : ℕ) (rs : List Region) → Each IsLawfulRegion rs → EachPair (λ r s. r.index + registers_of r.kind ≤ s.index) rs → is_upper_half n rs ≡ false → Begins n rs
begins n [] lawful order lower = nothing refl refl
begins n (r ∷ rs) lawful order lower =
    let parts : ((eqb (registers_of r.kind) 2 && eqb n (r.index + 1)) ≡ false) × (is_upper_half n rs ≡ false) = or_parts (eqb (registers_of r.kind) 2 && eqb n (r.index + 1)) (is_upper_half n rs) lower in
    elim (side n r) [
      | at_low e ↦
          region (bar_of r) (cond-true (eqb n r.index) _ _ (eq-eqb n r.index e)) lawful.0.size_is_lawful (mask_low n r rs e)
          (λ two. (omega (arith, lawful.0.registers), mask_high (n + 1) r rs (omega arith) two))
      | at_high e two ↦ let upper : (eqb (registers_of r.kind) 2 && eqb n (r.index + 1)) ≡ true = and_from _ _ (eq-eqb (registers_of r.kind) 2 two) (eq-eqb n (r.index + 1) e) in cc
      | elsewhere other m ↦ elim (cases_lt n r.index) [
        | inl before ↦
            let later : Each (λ s. n < s.index) rs = each_map (λ s. r.index + registers_of r.kind ≤ s.index) (λ s. n < s.index) rs (λ s h. omega (arith, registers_positive r.kind)) order.0 in
            let none = none_later n rs later in
            nothing (bar_other n r rs other ∙ none.0) (mask_apart n r rs other m ∙ none.1)
        | inr above ↦ passed n r rs other m above (begins n rs lawful.1 order.1 parts.1)
      ]
    ]

-- ---- masks tell kinds and sizes

mask_not_zero : (kind : Kind) (size : ℕ) → IsLawfulSize kind size → mask_of (record { kind = kind; size = size }) % 2 ^ 32 ≡ 0 → ⊥
mask_not_zero io_kind size h e = omega (arith, h.not_less, h.not_more)
mask_not_zero (mem32 true) size h e = omega (arith, h.not_less, h.not_more)
mask_not_zero (mem32 false) size h e = omega (arith, h.not_less, h.not_more)
mask_not_zero (mem64 true) size h e = omega (arith, h.not_less, h.not_more, sixteens (mem64 true) size h h.not_less)
mask_not_zero (mem64 false) size h e = omega (arith, h.not_less, h.not_more, sixteens (mem64 false) size h h.not_less)

wide_low_bits : (kind : Kind) (size : ℕ) → IsLawfulSize kind size → registers_of kind ≡ 2 → mask_of (record { kind = kind; size = size }) % 2 ^ 32 % 8 ≡ 4
wide_low_bits io_kind size h two = absurd (omega arith)
wide_low_bits (mem32 pref) size h two = absurd (omega arith)
wide_low_bits (mem64 true) size h two = omega (arith, h.not_less, h.not_more, sixteens (mem64 true) size h h.not_less)
wide_low_bits (mem64 false) size h two = omega (arith, h.not_less, h.not_more, sixteens (mem64 false) size h h.not_less)

shows_size : (b : Bar) → IsLawfulSize b.kind b.size → (low high : ℕ) → low ≡ mask_of b % 2 ^ 32 → (registers_of b.kind ≡ 2 → high ≡ mask_of b / 2 ^ 32) → ShowsSize b low high
shows_size b lawful low high e k = grind (arith, sizes_read 0 b lawful)

-- the region that is told by a register and the next one is the one that begins there
pub region_told : (n : ℕ) (rs : List Region) → Begins n rs → (low high : ℕ) (told : Option Bar) → low ≡ mask_at n rs
    → (high ≡ mask_at (n + 1) rs) ⊎ ((5 ≤ n) ⊎ (bit_and low 7 ≡ 4 → ⊥))
    → IfSome told (λ b. IsLawfulSize b.kind b.size × ShowsSize b low high) → ((b : Bar) → IsLawfulSize b.kind b.size → ShowsSize b low high → told ≡ Some b)
    → told ≡ bar_at n rs
region_told n rs (nothing none reads_zero) low high told shown upper is found = by_told told is ∙ sym none
  where
    by_told : (o : Option Bar) → IfSome o (λ b. IsLawfulSize b.kind b.size × ShowsSize b low high) → o ≡ None
    by_told None k = refl
    by_told (Some b) k = absurd (mask_not_zero b.kind b.size k.0 (sym ((sizes_read 0 b k.0).lower) ∙ k.1.lower ∙ shown ∙ reads_zero))
region_told n rs (region b is lawful mask wide) low high told shown upper is_told found =
    found b lawful (shows_size b lawful low high (shown ∙ mask) (by_upper upper)) ∙ sym is
  where
    by_upper : (high ≡ mask_at (n + 1) rs) ⊎ ((5 ≤ n) ⊎ (bit_and low 7 ≡ 4 → ⊥)) → registers_of b.kind ≡ 2 → high ≡ mask_of b / 2 ^ 32
    by_upper (inl e) two = e ∙ (wide two).1
    by_upper (inr (inl last)) two = absurd (omega (arith, (wide two).0))
    by_upper (inr (inr other)) two = absurd (other (and_mask low 3 ∙ ap (λ m. m % 8) (shown ∙ mask) ∙ wide_low_bits b.kind b.size lawful two))

-- ---- the regions of an endpoint by the index of their first register

pub record BarsBelow (first now : HostState) (at : BusAddress) (bars : List (Option Bar)) (n : ℕ) : Type 0 where
  pub host : now ≡ first
  pub six : length bars ≡ 6
  pub told : (k : ℕ) → k < n → get_or bars k None ≡ bar_at k (regions_reached first.state.functions at)

-- ---- the loop's step and its end

pub next_slot : (first now after : HostState) (at : BusAddress) (bars : List (Option Bar)) (n i : ℕ) (bar : Option Bar) → BarsBelow first now at bars n → i ≡ n → n < 6
    → after ≡ first → bar ≡ bar_at n (regions_reached first.state.functions at) → BarsBelow first after at (slice_set bars i bar) (n + 1)
next_slot first now after at bars n i bar below is within host e = grind (arith, length-set, below_more, get_or-set_other, get_or-set_same)

-- six slots by their elements
six_slots : (bars : List (Option Bar)) → length bars ≡ 6 → bars ≡ get_or bars 0 None ∷ get_or bars 1 None ∷ get_or bars 2 None ∷ get_or bars 3 None ∷ get_or bars 4 None ∷ get_or bars 5 None ∷ []
six_slots [] h = absurd (omega arith)
six_slots (a ∷ []) h = absurd (omega arith)
six_slots (a ∷ b ∷ []) h = absurd (omega arith)
six_slots (a ∷ b ∷ c ∷ []) h = absurd (omega arith)
six_slots (a ∷ b ∷ c ∷ d ∷ []) h = absurd (omega arith)
six_slots (a ∷ b ∷ c ∷ d ∷ e ∷ []) h = absurd (omega arith)
six_slots (a ∷ b ∷ c ∷ d ∷ e ∷ f ∷ []) h = refl
six_slots (a ∷ b ∷ c ∷ d ∷ e ∷ f ∷ g ∷ rest) h = absurd (omega arith)

pub all_told : (first now : HostState) (at : BusAddress) (bars : List (Option Bar)) (n : ℕ) → BarsBelow first now at bars n → 6 ≤ n → bars ≡ bars_of (regions_reached first.state.functions at)
all_told first now at bars n below h = grind (arith, six_slots)

-- ---- upper halves

abbrev InOrder : Region → Region → Type 0
InOrder r s = r.index + registers_of r.kind ≤ s.index

later : (n : ℕ) (r : Region) (rs : List Region) → n < r.index + registers_of r.kind → Each (InOrder r) rs → Each (λ s. n < s.index) rs
later n r rs h order = each_map (InOrder r) (λ s. n < s.index) rs (λ s k. omega arith) order

later_not_upper : (n : ℕ) (rs : List Region) → Each (λ s. n ≤ s.index) rs → is_upper_half n rs ≡ false
later_not_upper n [] h = refl
later_not_upper n (r ∷ rs) h = grind (arith, nat_tests, later_not_upper n rs h.1)

-- nothing begins at an upper half
pub none_at_upper : (n : ℕ) (rs : List Region) → EachPair InOrder rs → is_upper_half n rs ≡ true → bar_at n rs ≡ None
none_at_upper n [] order h = refl
none_at_upper n (r ∷ rs) order h = grind (arith, side, at_low, and_right, ne_eqb, later_not_upper, each_map, later, registers_positive, at_high, bar_other, none_later, elsewhere, not_wide, none_at_upper n rs order.1)

is_wide : Option Bar → Bool
is_wide o = option_map_or (λ (b : Bar). eqb (registers_of b.kind) 2) o false

or_none : (t : Bool) → (t || false) ≡ t
or_none t = grind arith

upper_after : (n : ℕ) (rs : List Region) → EachPair InOrder rs → is_upper_half (n + 1) rs ≡ is_wide (bar_at n rs)
unfolding is_wide
upper_after n [] order = refl
upper_after n (r ∷ rs) order = grind (arith, cases_eq, eq-eqb, later_not_upper, each_map, later, registers_positive, or_none, and_true, is_wide, cond-true, bar_of, and_right, ne_eqb, bar_other, upper_after n rs order.1)

pub upper_by_slots : (n : ℕ) (rs : List Region) (bars : List (Option Bar)) → EachPair InOrder rs → ((k : ℕ) → k < n → get_or bars k None ≡ bar_at k rs) → is_upper_half n rs ≡ is_after_wide bars n
unfolding is_wide
upper_by_slots zero rs bars order told = later_not_upper 0 rs (all_from rs)
  where
    all_from : (rs : List Region) → Each (λ s. 0 ≤ s.index) rs
    all_from [] = tt
    all_from (r ∷ rs) = (omega arith, all_from rs)
upper_by_slots (suc n) rs bars order told = grind (arith, upper_after n rs order, is_wide, unwrap_or-slice_get bars n None)

-- ---- the slots hold all regions

slots_from : ℕ → ℕ → List Region → List (Option Bar)
slots_from n zero rs = []
slots_from n (suc k) rs = bar_at n rs ∷ slots_from (n + 1) k rs

slots_other : (n k : ℕ) (r : Region) (rs : List Region) → r.index < n → slots_from n k (r ∷ rs) ≡ slots_from n k rs
unfolding slots_from
slots_other n zero r rs h = refl
slots_other n (suc k) r rs h = ap₂ (λ (o : Option Bar) os. o ∷ os) (bar_other n r rs (λ e. omega arith)) (slots_other (n + 1) k r rs (omega arith))

reset_slots : (k n : ℕ) (rs : List Region) → Each IsLawfulRegion rs → EachPair InOrder rs → Each (λ s. n ≤ s.index) rs → n + k ≡ 6 → map opened (reset_from n (slots_from n k rs)) ≡ map bare rs
unfolding slots_from
reset_slots zero n [] lawful order above e = refl
reset_slots zero n (r ∷ rs) lawful order above e = absurd (omega (arith, lawful.0.registers, above.0, registers_positive r.kind))
reset_slots (suc k) n [] lawful order above e = reset_slots k (n + 1) [] tt tt tt (omega arith)
reset_slots (suc k) n (r ∷ rs) lawful order above e = grind (arith, cases_eq, each_map, later, registers_positive, cond-true, bar_of, eq-eqb, slots_other, bar_other, none_later, slots_from, reset_slots k (n + 1) rs lawful.1 order.1, reset_slots k (n + 1) (r ∷ rs) lawful order)

pub regions_of_bars : (rs : List Region) → HasLawfulRegions rs → regions_of (bars_of rs) ≡ map bare rs
unfolding slots_from
regions_of_bars rs lawful = reset_slots 6 0 rs lawful.each lawful.in_order (all_from rs) refl
  where
    all_from : (rs : List Region) → Each (λ s. 0 ≤ s.index) rs
    all_from [] = tt
    all_from (r ∷ rs) = (omega arith, all_from rs)
