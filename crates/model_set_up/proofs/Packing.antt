-- Compact placement of regions has no gaps, and spots that are apart take at least the sum of their sizes.
use Rattle.std.{proofs.{Common.{◌≡◌, ℕ, zero, suc, ◌+◌, ◌-◌, ◌*◌, ◌/◌, ◌%◌, ◌^◌, ◌≤◌, ◌<◌, Bool, true, false, not, cond, List, [], ◌∷◌, length, refl, sym, ap, ◌∙◌, subst, arith}, lemmas.{Bool.{Decides.nat_tests, leb-true, leb-false}, Nat.pow-add, List.{Filters.sum_by-filter_both, Sums.{sum_by-cons, sum-map}}}, Math.{Nat.{mul_assoc, lt-div-mul-add, mul-mod_left, suc-mul, zero-add, div-eq_of_lt, div-lt_iff_lt-mul, add-mul-div_right, mul-le-mul_right}, Pow.{pow-lt, pow_pos}}}, specs.Prelude.{map, sum, sum_by, filter, flat_map, nat_le}}
use Rattle.lists.{specs.Elements.{Each, EachPair}, proofs.{EachLemmas.{each_append, each_of_map, pairs_filter, each_filter, each_map, each_both, filter_passes, pairs_map}, Members.each_from}}
use Rattle.model_board.specs.{Board.{Board, Row, Decl, is_bridge, rows_on}, Paths.{Path, path_eq, parent}}
use Rattle.model_registers.specs.Apertures.{Apertures}
use Rattle.model_set_up.{specs.{Pools.{Pool, unit_of}, Placement.{items_of, items_within, items_on, PlacementItem, stands_before, inserted, in_order, round_up, end_from, spots_from, spots}, Extents.{IsInside, AreApart}, Packing.{IsPowerOfTwo, Interval, FlatNeed, HasPowerSizes, FlatNeedOnBus, IsRun, CompactIsRun}}, proofs.InOrder.{each_in_order, order_pairs}}

-- ---- lists

length_filter : {A : Type 0} (p : A → Bool) (xs : List A) → length (filter p xs) ≤ length xs
length_filter p [] = omega arith
length_filter p (x ∷ xs) = grind (arith, length_filter p xs)

-- ---- spots that are apart

abbrev SpotsApart : Interval → Interval → Type 0
SpotsApart s t = AreApart s.first s.size t.first t.size

abbrev SpotInside : ℕ → ℕ → Interval → Type 0
SpotInside start stop s = IsInside start stop s.first s.size

abbrev sizes : List Interval → ℕ
sizes ss = sum_by (λ s. s.size) ss

abbrev ends_before : Interval → Interval → Bool
ends_before x s = nat_le (s.first + s.size) x.first

abbrev not_before : Interval → Interval → Bool
not_before x s = not (ends_before x s)

before_within : (start stop : ℕ) (x s : Interval) → (ends_before x s ≡ true) × SpotInside start stop s → SpotInside start x.first s
before_within start stop x s h = grind (arith, nat_tests, h.0, h.1.0, h.1.1)

after_within : (start stop : ℕ) (x s : Interval) → (not_before x s ≡ true) × (SpotsApart x s × SpotInside start stop s) → SpotInside (x.first + x.size) stop s
after_within start stop x s h = grind (arith, nat_tests, h.0, h.1.0, h.1.1.0, h.1.1.1)

-- n bounds the number of spots
spots_take : (n : ℕ) (ss : List Interval) (start stop : ℕ) → length ss ≤ n → start ≤ stop → Each (SpotInside start stop) ss → EachPair SpotsApart ss → sizes ss + start ≤ stop
spots_take n [] start stop few h within apart = omega arith
spots_take zero (x ∷ ss) start stop few h within apart = absurd (omega arith)
spots_take (suc n) (x ∷ ss) start stop few h within apart =
    let left = filter (ends_before x) ss in
    let right = filter (not_before x) ss in
    let few_left : length left ≤ n = omega (arith, length_filter (ends_before x) ss) in
    let few_right : length right ≤ n = omega (arith, length_filter (not_before x) ss) in
    let left_in : Each (SpotInside start x.first) left =
    each_map (λ s. (ends_before x s ≡ true) × SpotInside start stop s) (SpotInside start x.first) left (before_within start stop x)
    (each_both (λ s. ends_before x s ≡ true) (SpotInside start stop) left (filter_passes (ends_before x) ss) (each_filter (SpotInside start stop) (ends_before x) ss within.1)) in
    let right_in : Each (SpotInside (x.first + x.size) stop) right =
    each_map (λ s. (not_before x s ≡ true) × (SpotsApart x s × SpotInside start stop s)) (SpotInside (x.first + x.size) stop) right (after_within start stop x)
    (each_both (λ s. not_before x s ≡ true) (λ s. SpotsApart x s × SpotInside start stop s) right (filter_passes (not_before x) ss)
    (each_both (SpotsApart x) (SpotInside start stop) right (each_filter (SpotsApart x) (not_before x) ss apart.0) (each_filter (SpotInside start stop) (not_before x) ss within.1))) in
    let low : sizes left + start ≤ x.first = spots_take n left start x.first few_left within.0.0 left_in (pairs_filter SpotsApart (ends_before x) ss apart.1) in
    let high : sizes right + (x.first + x.size) ≤ stop = spots_take n right (x.first + x.size) stop few_right within.0.1 right_in (pairs_filter SpotsApart (not_before x) ss apart.1) in
    let step : sizes (x ∷ ss) ≡ x.size + sizes ss = sum_by-cons (λ s. s.size) x ss in
    grind (arith, sum_by-filter_both)

-- ---- the compact placement of regions

abbrev total : List PlacementItem → ℕ
total is = sum_by (λ i. i.size) is

total-cons : (i : PlacementItem) (is : List PlacementItem) → total (i ∷ is) ≡ i.size + total is
total-cons i is = sum_by-cons (λ (k : PlacementItem). k.size) i is

total_inserted_cases : (i j : PlacementItem) (js : List PlacementItem) (b : Bool) → total (inserted i js) ≡ i.size + total js → total (cond b (j ∷ inserted i js) (i ∷ j ∷ js)) ≡ i.size + (j.size + total js)
total_inserted_cases i j js b h = grind (arith, total-cons j (inserted i js), total-cons i (j ∷ js), total-cons j js)

total_inserted : (i : PlacementItem) (js : List PlacementItem) → total (inserted i js) ≡ i.size + total js
total_inserted i [] = total-cons i []
total_inserted i (j ∷ js) = total_inserted_cases i j js (stands_before j i) (total_inserted i js) ∙ ap (λ n. i.size + n) (sym (total-cons j js))

total_in_order : (is : List PlacementItem) → total (in_order is) ≡ total is
total_in_order [] = refl
total_in_order (i ∷ is) = total_inserted i (in_order is) ∙ ap (λ n. i.size + n) (total_in_order is) ∙ sym (total-cons i is)

-- alignments don't rise
abbrev Descends : List PlacementItem → Type 0
Descends is = EachPair (λ i j. j.align ≤ i.align) is

-- ---- powers of two

abbrev pub Divides : ℕ → ℕ → Type 0
Divides a n = (k : ℕ) × (n ≡ k * a)

pub divides_add : (a m n : ℕ) → Divides a m → Divides a n → Divides a (m + n)
divides_add a m n h k = (h.0 + k.0, omega (arith, h.1, k.1))

pub divides_chain : (a b n : ℕ) → Divides a b → Divides b n → Divides a n
divides_chain a b n h k = (k.0 * h.0, k.1 ∙ ap (λ x. k.0 * x) h.1 ∙ sym (mul_assoc k.0 h.0 a))

smaller_cases : (j k : ℕ) (b : Bool) → nat_le j k ≡ b → 2 ^ j ≤ 2 ^ k → Divides (2 ^ j) (2 ^ k)
smaller_cases j k true e h = grind (arith, leb-true j k e, pow-add 2 (k - j) j)
smaller_cases j k false e h = grind (arith, leb-false, pow-lt)

pub smaller_divides : (j k : ℕ) → 2 ^ j ≤ 2 ^ k → Divides (2 ^ j) (2 ^ k)
smaller_divides j k h = smaller_cases j k (nat_le j k) refl h

pub powers_divide : (a b : ℕ) → IsPowerOfTwo a → IsPowerOfTwo b → a ≤ b → Divides a b
powers_divide a b p q h = rw (p.1, q.1) (smaller_divides p.0 q.0 (rw (p.1, q.1) at h))

pub power_positive : (a : ℕ) → IsPowerOfTwo a → 0 < a
power_positive a p = rw p.1 (pow_pos p.0)

round_up_multiple : (a n : ℕ) → 0 < a → Divides a n → round_up a n ≡ n
round_up_multiple a n h k = grind (arith, div-eq_of_lt, add-mul-div_right, zero-add)

-- ---- no gaps

-- a region: its alignment is its size, a power of two
record IsRegion (i : PlacementItem) : Type 0 where
  align_is_size : i.align ≡ i.size
  power : IsPowerOfTwo i.size

next_divides : (n : ℕ) (j : PlacementItem) → IsRegion j → (i : PlacementItem) → (i.align ≤ j.align) × (IsRegion i × Divides i.size n) → Divides i.size (n + j.size)
next_divides n j rj i h = grind (arith, divides_add, powers_divide)

end_flat : (js : List PlacementItem) (n : ℕ) → Each IsRegion js → Descends js → Each (λ i. Divides i.size n) js → end_from n js ≡ n + total js
end_flat [] n regions down divides = omega arith
end_flat (j ∷ js) n regions down divides =
    let at : round_up j.align n ≡ n =
    round_up_multiple j.align n (rw regions.0.align_is_size (power_positive j.size regions.0.power)) (rw regions.0.align_is_size divides.0) in
    let tail : Each (λ i. Divides i.size (n + j.size)) js =
    each_map (λ i. (i.align ≤ j.align) × (IsRegion i × Divides i.size n)) (λ i. Divides i.size (n + j.size)) js (next_divides n j regions.0)
    (each_both (λ i. i.align ≤ j.align) (λ i. IsRegion i × Divides i.size n) js down.0 (each_both IsRegion (λ i. Divides i.size n) js regions.1 divides.1)) in
    ap (λ x. end_from (x + j.size) js) at ∙ end_flat js (n + j.size) regions.1 down.1 tail ∙ omega (arith, total-cons j js)

end_in_order : (is : List PlacementItem) → Each IsRegion is → end_from 0 (in_order is) ≡ total is
end_in_order is regions = grind (arith, end_flat, each_in_order, each_from, total_in_order, zero-add, pairs_map, nat_tests, order_pairs)

round_up_least : (unit n units : ℕ) → 0 < unit → n ≤ units * unit → round_up unit n ≤ units * unit
round_up_least unit n units h k = grind (arith, suc-mul, div-lt_iff_lt-mul, mul-le-mul_right)

placed_total : (is : List PlacementItem) (spots : List Interval) → map (λ (s : Interval). s.size) spots ≡ map (λ (i : PlacementItem). i.size) is → sizes spots ≡ total is
placed_total is spots e = sym (sum-map (λ (s : Interval). s.size) spots) ∙ ap sum e ∙ sum-map (λ (i : PlacementItem). i.size) is

flat_need_lem : (unit : ℕ) (is : List PlacementItem) → 0 < unit → Each IsRegion is → FlatNeed unit is
flat_need_lem unit is h regions = record {
  is_sum = ap (round_up unit) (end_in_order is regions);
  least = λ start units spots p.
      let take : sizes spots + start ≤ start + units * unit = spots_take (length spots) spots start (start + units * unit) (omega arith) (omega arith) p.within p.apart in
      let same : sizes spots ≡ total is = placed_total is spots p.sizes in
      let fits : total is ≤ units * unit = omega arith in
      subst (λ n. round_up unit n ≤ units * unit) (sym (end_in_order is regions)) (round_up_least unit (total is) units h fits);
}

-- ---- on a bus

pub unit_positive : (pool : Pool) → 0 < unit_of pool
unit_positive pool = grind arith

each_flat_map : {A B : Type 0} (P : B → Type 0) (f : A → List B) (xs : List A) → Each (λ x. Each P (f x)) xs → Each P (flat_map f xs)
each_flat_map P f [] h = tt
each_flat_map P f (x ∷ xs) h = each_append P (f x) (flat_map f xs) h.0 (each_flat_map P f xs h.1)

row_items_are : (b : Board) (a : Apertures) (pool : Pool) (behind : Path → List PlacementItem) (p : Path) (d : Decl) → is_bridge d ≡ false → HasPowerSizes d
    → Each IsRegion (items_of b a pool behind (record { path = p; decl = d }))
row_items_are b a pool behind p d e h = grind (arith, each_of_map, each_map, each_filter)

pub flat_need_on_bus : FlatNeedOnBus
flat_need_on_bus b a pool bus plain sizes =
    flat_need_lem (unit_of pool) (items_on b a pool bus) (unit_positive pool)
    (each_flat_map IsRegion (items_of b a pool (items_within b a pool 15)) (rows_on b bus)
    (each_map (λ (r : Row). (is_bridge r.decl ≡ false) × HasPowerSizes r.decl) (λ r. Each IsRegion (items_of b a pool (items_within b a pool 15) r)) (rows_on b bus)
    (λ r h. row_items_are b a pool (items_within b a pool 15) r.path r.decl h.0 h.1)
    (each_both (λ (r : Row). is_bridge r.decl ≡ false) (λ r. HasPowerSizes r.decl) (rows_on b bus) plain
    (each_filter (λ (r : Row). HasPowerSizes r.decl) (λ r. path_eq (parent r.path) bus) b sizes))))

-- ---- spots of one bus

pub round_up_not_before : (a n : ℕ) → 0 < a → n ≤ round_up a n
round_up_not_before a n h = omega (arith, lt-div-mul-add {a = n + (a - 1)} h)

pub round_up_is_multiple : (a n : ℕ) → round_up a n % a ≡ 0
round_up_is_multiple a n = mul-mod_left ((n + (a - 1)) / a) a

end_not_before : (n : ℕ) (is : List PlacementItem) → Each (λ i. 0 < i.align) is → n ≤ end_from n is
end_not_before n [] h = omega arith
end_not_before n (i ∷ is) h = omega (arith, round_up_not_before i.align n h.0, end_not_before (round_up i.align n + i.size) is h.1)

run_from : (n : ℕ) (is : List PlacementItem) → Each (λ i. 0 < i.align) is → IsRun n (end_from n is) (spots_from n is)
run_from n [] h = record { aligned = tt; within = tt; apart = tt }
run_from n (i ∷ is) h =
    grind (arith, round_up_not_before, end_not_before, round_up_is_multiple, each_map, run_from ((round_up i.align n) + i.size) is h.1)

pub run_in_order : (is : List PlacementItem) → Each (λ i. 0 < i.align) is → IsRun 0 (end_from 0 (in_order is)) (spots is)
run_in_order is positive = run_from 0 (in_order is) (each_in_order (λ i. 0 < i.align) is positive)

pub compact_items_never_overlap : CompactIsRun
compact_items_never_overlap unit is h positive = grind (arith, run_in_order, round_up_not_before, each_map)
