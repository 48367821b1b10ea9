-- The search for the region that holds an address, among regions by address.
use Rattle.std.{proofs.{Common.{◌≡◌, ℕ, zero, suc, ◌+◌, ◌-◌, ◌≤◌, ◌<◌, Bool, true, false, cond, List, [], ◌∷◌, length, get_or, Some, None, refl, ap, ◌∙◌, arith, leb, ltb}, lemmas.{Bool.{and_right, leb-true, le-leb, le-ltb, lt-ltb}, Option.{slice_get_within, slice_get-get_or, get_or_from_slice_get}}}, specs.{Prelude.{find, slice_get}, List.Sorted.{IsPartitionPoint, IsPartitionedBy}}}
use Rattle.lists.specs.Elements.{Each}
use Rattle.claim_table.specs.{declared.region_entry.RegionEntry.RegionEntry, Entries.{lies_in, AreApart}}

abbrev pub begins_by : ℕ → RegionEntry → Bool
begins_by n e = leb e.first n

-- what begins before the next does so before all later ones
each_later : (d : RegionEntry) (es : List RegionEntry) → Each (λ (e : RegionEntry). d.first + d.size ≤ e.first) es → (j : ℕ) (x : RegionEntry) → j < length es → d.first + d.size ≤ (get_or es j x).first
each_later d [] h j x l = absurd (omega arith)
each_later d (e ∷ es) h zero x l = h.0
each_later d (e ∷ es) h (suc j) x l = each_later d es h.1 j x (omega arith)

pub parted : (n : ℕ) (es : List RegionEntry) → AreApart es → IsPartitionedBy (begins_by n) es
parted n [] h i j d le l t = absurd (omega arith)
parted n (e ∷ es) h zero zero d le l t = t
parted n (e ∷ es) h (suc i) zero d le l t = absurd (omega arith)
parted n (e ∷ es) h zero (suc j) d le l t =
    let later : e.first + e.size ≤ (get_or es j d).first = each_later e es h.0 j d (omega arith) in
    let by : (get_or es j d).first ≤ n = leb-true _ n t in
    le-leb e.first n (omega arith)
parted n (e ∷ es) h (suc i) (suc j) d le l t = parted n es h.1 i j d (omega arith) (omega arith) t

begins_later : (n : ℕ) (e : RegionEntry) → leb e.first n ≡ false → lies_in n e ≡ false
begins_later n e h = rw h refl

none_above : (n : ℕ) (es : List RegionEntry) → ((k : ℕ) (d : RegionEntry) → k < length es → begins_by n (get_or es k d) ≡ false) → find (lies_in n) es ≡ None
none_above n [] h = refl
none_above n (e ∷ es) h =
    let no : lies_in n e ≡ false = begins_later n e (h 0 e (omega arith)) in
    rw no (none_above n es (λ k d l. h (suc k) d (omega arith)))

pub none_begins : (n : ℕ) (es : List RegionEntry) (i : ℕ) → IsPartitionPoint (λ e. begins_by n e ≡ true) (λ e. begins_by n e ≡ false) es i → i ≡ 0 → find (lies_in n) es ≡ None
none_begins n es i h e = none_above n es (λ k d l. h.1 k d (omega (arith, e)) l)

ends_before : (n : ℕ) (d : RegionEntry) → d.first + d.size ≤ n → lies_in n d ≡ false
ends_before n d h = and_right (leb d.first n) (ltb n (d.first + d.size)) (le-ltb n (d.first + d.size) h)

-- only the last that begins by then can hold the address
pub last_holds : (n : ℕ) (es : List RegionEntry) (j : ℕ) (e : RegionEntry) → AreApart es → ((k : ℕ) (d : RegionEntry) → k < suc j → begins_by n (get_or es k d) ≡ true) → ((k : ℕ) (d : RegionEntry) → suc j ≤ k → k < length es → begins_by n (get_or es k d) ≡ false)
    → slice_get es j ≡ Some e → find (lies_in n) es ≡ cond (lies_in n e) (Some e) None
last_holds n [] j e apart below above at = cc
last_holds n (d ∷ es) zero e apart below above at =
    let same : d ≡ e = cc in
    let none : find (lies_in n) es ≡ None = none_above n es (λ k x l. above (suc k) x (omega arith) (omega arith)) in
    rw none (ap (λ (x : RegionEntry). cond (lies_in n x) (Some x) None) same)
last_holds n (d ∷ es) (suc j) e apart below above at =
    let there : get_or es j d ≡ e = get_or_from_slice_get es j e d at in
    let within : j < length es = slice_get_within es j e at in
    let later : d.first + d.size ≤ (get_or es j d).first = each_later d es apart.0 j d within in
    let begins : (get_or es j d).first ≤ n = leb-true _ n (below (suc j) d (omega arith)) in
    let no : lies_in n d ≡ false = ends_before n d (omega arith) in
    rw no (last_holds n es j e apart.1 (λ k x l. below (suc k) x (omega arith)) (λ k x l m. above (suc k) x (omega arith) (omega arith)) at)

-- the test of the code: the address is not before the region
pub holds_by_offset : (n : ℕ) (e : RegionEntry) → begins_by n e ≡ true → n - e.first < e.size → lies_in n e ≡ true
holds_by_offset n e h l = let by : e.first ≤ n = leb-true e.first n h in let f : ltb n (e.first + e.size) ≡ true = lt-ltb n (e.first + e.size) (omega arith) in rw (h, f)

pub ends_by_offset : (n : ℕ) (e : RegionEntry) → begins_by n e ≡ true → e.size ≤ n - e.first → lies_in n e ≡ false
ends_by_offset n e h l = let by : e.first ≤ n = leb-true e.first n h in ends_before n e (omega arith)

-- ---- by the index that halving gives

module _ (n : ℕ) (es : List RegionEntry) (i : ℕ) (point : IsPartitionPoint (λ e. begins_by n e ≡ true) (λ e. begins_by n e ≡ false) es i) (some : i ≡ 0 → ⊥) (d : RegionEntry) where
  abbrev last : RegionEntry
  last = get_or es (i - 1) d

  before : i - 1 < i
  before = grind arith

  begins : begins_by n last ≡ true
  begins = point.0 (i - 1) d (omega arith) before

  pub begins_here : last.first ≤ n
  begins_here = leb-true last.first n begins

  found_here : AreApart es → i ≤ length es → find (lies_in n) es ≡ cond (lies_in n last) (Some last) None
  found_here apart within = grind (arith, last_holds, before, slice_get-get_or)

  pub holds_here : AreApart es → i ≤ length es → n - last.first < last.size → find (lies_in n) es ≡ Some last
  holds_here apart within l = found_here apart within ∙ ap (λ t. cond t (Some last) None) (holds_by_offset n last begins l)

  pub ends_here : AreApart es → i ≤ length es → last.size ≤ n - last.first → find (lies_in n) es ≡ None
  ends_here apart within l = found_here apart within ∙ ap (λ t. cond t (Some last) None) (ends_by_offset n last begins l)
