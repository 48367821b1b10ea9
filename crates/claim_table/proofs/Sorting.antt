-- Regions that share no address, sorted by first address, stand apart.
use Rattle.std.{proofs.{Common.{◌≡◌, suc, ◌+◌, ◌≤◌, ◌<◌, ◌⊎◌, inl, inr, Bool, true, false, ◌||◌, List, [], ◌∷◌, refl, ◌∙◌, arith, leb}, lemmas.{Bool.{leb-true, le-leb, not-false, or_cases}, List.Sorted.IsPermutation-sym, Map.Keys.IsDistinct-IsPermutation}}, specs.{Prelude.not, List.{IsDistinct, AllByRecursion, Sorted.{IsPermutation, IsNonDecreasingBy}}}}
use Rattle.lists.{specs.Elements.{Each, EachPair, IsIn}, proofs.{EachLemmas.{each-all, each_permutation}, Members.{each_in, each_from}}}
use Rattle.claim_table.specs.{declared.region_entry.RegionEntry.RegionEntry, Entries.AreApart}

pub moved : {A : Type 0} (xs ys : List A) → IsPermutation xs ys → (x : A) → IsIn x ys → IsIn x xs
moved xs ys perm x m = each_in (λ y. IsIn y xs) x ys (each_permutation (λ y. IsIn y xs) xs ys perm (each_from (λ y. IsIn y xs) xs (λ y k. k))) m

pub moved_back : {A : Type 0} (xs ys : List A) → IsPermutation xs ys → (x : A) → IsIn x xs → IsIn x ys
moved_back xs ys perm x m = moved ys xs (IsPermutation-sym xs ys perm) x m

-- two regions share an address, as a test that does not tell them apart
abbrev pub meet : RegionEntry → RegionEntry → Bool
meet d e = not (leb (d.first + d.size) e.first || leb (e.first + e.size) d.first)

or_turned : (s t : Bool) → not (s || t) ≡ not (t || s)
or_turned true true = refl
or_turned true false = refl
or_turned false true = refl
or_turned false false = refl

turned : (d e : RegionEntry) → meet d e ≡ meet e d
turned d e = or_turned (leb (d.first + d.size) e.first) (leb (e.first + e.size) d.first)

abbrev pub Disjoint : RegionEntry → RegionEntry → Type 0
Disjoint d e = (d.first + d.size ≤ e.first) ⊎ (e.first + e.size ≤ d.first)

meet_none : (d e : RegionEntry) → Disjoint d e → meet d e ≡ false
meet_none d e (inl h) = let t : leb (d.first + d.size) e.first ≡ true = le-leb (d.first + d.size) e.first h in rw t refl
meet_none d e (inr h) = let t : leb (e.first + e.size) d.first ≡ true = le-leb (e.first + e.size) d.first h in turned d e ∙ rw t refl

distinct_from : (es : List RegionEntry) → EachPair Disjoint es → IsDistinct meet es
unfolding IsDistinct
distinct_from [] h = tt
distinct_from (e ∷ es) h = (by_each es h.0, distinct_from es h.1)
  where
    by_each : (ds : List RegionEntry) → Each (Disjoint e) ds → AllByRecursion (λ d. meet e d ≡ false) ds
    by_each [] k = tt
    by_each (d ∷ ds) k = (meet_none e d k.0, by_each ds k.1)

ordered : (d e : RegionEntry) → d.first ≤ e.first → 0 < e.size → meet d e ≡ false → d.first + d.size ≤ e.first
ordered d e up some h = grind (arith, or_cases, not-false, leb-true)

rising : (es : List RegionEntry) → IsNonDecreasingBy (λ (e : RegionEntry). e.first) es → Each (λ (e : RegionEntry). 0 < e.size) es → IsDistinct meet es → AreApart es
unfolding IsDistinct
rising [] up some h = tt
rising (e ∷ es) up some h = (
  by_each es (each-all (λ (d : RegionEntry). e.first ≤ d.first) es (λ k d l. up 0 (suc k) d (omega arith) (omega arith))) some.1 h.0,
  rising es (λ i j d l m. up (suc i) (suc j) d (omega arith) (omega arith)) some.1 h.1,
)
  where
    by_each : (ds : List RegionEntry) → Each (λ (d : RegionEntry). e.first ≤ d.first) ds → Each (λ (d : RegionEntry). 0 < d.size) ds → AllByRecursion (λ d. meet e d ≡ false) ds → Each (λ (d : RegionEntry). e.first + e.size ≤ d.first) ds
    by_each [] u s k = tt
    by_each (d ∷ ds) u s k = (ordered e d u.0 s.0 k.0, by_each ds u.1 s.1 k.1)

pub sorted_apart : (es fs : List RegionEntry) → EachPair Disjoint es → Each (λ (e : RegionEntry). 0 < e.size) es → IsPermutation es fs → IsNonDecreasingBy (λ (e : RegionEntry). e.first) fs → AreApart fs
sorted_apart es fs apart some perm up =
    rising fs up (each_permutation (λ (e : RegionEntry). 0 < e.size) es fs perm some) (IsDistinct-IsPermutation meet turned es fs perm (distinct_from es apart))
