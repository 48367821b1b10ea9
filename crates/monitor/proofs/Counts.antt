-- Counts of guests, by their indices and by their names.
--     counts_none      where no name passes, no count grows
--     counted_one, counted_two      the counts of a guest by its index, or of two
--     set_counted      guests of whom one has another count
use Rattle.std.{proofs.{Common.{◌≡◌, ◌≢◌, ℕ, zero, suc, Bool, true, false, not, ◌&&◌, ◌||◌, ◌==◌, List, [], ◌∷◌, Some, slice_get, slice_set, refl, sym, ap, ap₂, ◌∙◌, subst, arith}, lemmas.Bool.Decides.nat_tests}, specs.{Prelude.IsFalse, Str.bytes_eq}}
use Rattle.lists.{specs.Elements.{Each, EachPair}, proofs.{Indices.{each_at, map_at, map_set, pair_at, set_same}, Tests.{and_true, and_false}}}
use Rattle.model_guests.{specs.{Text.Text, Guests.{GuestNow, GuestsNow}, WorldNow.names_of}, proofs.{GuestFiles.other_name, Names.{equal_texts, same_text}}}
use Rattle.model_handoff.specs.Changes.{after_change, counts_where}
use Rattle.monitor.specs.{declared.guest.Guest.Guest, Counts.{counts_of, counted_nth, counted_both}}

pub counts_none : (test : Text → Bool) → ((x : Text) → test x ≡ false) → (ts : List Text) (ns : List ℕ) → counts_where test ts ns ≡ ns
counts_none test none [] ns = refl
counts_none test none (t ∷ ts) [] = refl
counts_none test none (t ∷ ts) (n ∷ ns) = ap₂ (λ (u : Bool) (xs : List ℕ). after_change u n ∷ xs) (none t) (counts_none test none ts ns)

pub counts_alike : (p q : Text → Bool) → ((x : Text) → p x ≡ q x) → (ts : List Text) (ns : List ℕ) → counts_where p ts ns ≡ counts_where q ts ns
counts_alike p q same [] ns = refl
counts_alike p q same (t ∷ ts) [] = refl
counts_alike p q same (t ∷ ts) (n ∷ ns) = ap₂ (λ (u : Bool) (xs : List ℕ). after_change u n ∷ xs) (same t) (counts_alike p q same ts ns)

-- ---- guests whose names are apart

abbrev AreApart : GuestsNow → Type 0
AreApart gs = EachPair (λ (g h : GuestNow). IsFalse (bytes_eq g.name h.name)) gs

others_stay : (name : Text) (gs : GuestsNow) (ns : List ℕ) → Each (λ (g : GuestNow). IsFalse (bytes_eq name g.name)) gs → counts_where (bytes_eq name) (names_of gs) ns ≡ ns
others_stay name [] ns apart = refl
others_stay name (g ∷ gs) [] apart = refl
others_stay name (g ∷ gs) (n ∷ ns) apart = ap₂ (λ (u : Bool) (xs : List ℕ). after_change u n ∷ xs) apart.0 (others_stay name gs ns apart.1)

one_of : (gs : GuestsNow) (ns : List ℕ) (i : ℕ) (g : GuestNow) → AreApart gs → slice_get gs i ≡ Some g → counted_nth i true ns ≡ counts_where (bytes_eq g.name) (names_of gs) ns
one_of [] ns i g apart at = cc
one_of (k ∷ gs) [] i g apart at = refl
one_of (k ∷ gs) (n ∷ ns) zero g apart at =
    let same : k ≡ g = cc in
    subst (λ (x : GuestNow). counted_nth 0 true (n ∷ ns) ≡ counts_where (bytes_eq x.name) (names_of (k ∷ gs)) (n ∷ ns)) same
    (ap₂ (λ (u : Bool) (xs : List ℕ). after_change u n ∷ xs) (sym (same_text k.name)) (sym (others_stay k.name gs ns apart.0)))
one_of (k ∷ gs) (n ∷ ns) (suc i) g apart at = grind (arith, other_name, each_at, one_of gs ns i g apart.1 at)

both_of : (p q : Text → Bool) → ((x : Text) → p x ≡ true → q x ≡ false) → (ts : List Text) (ns : List ℕ)
    → counts_where q ts (counts_where p ts ns) ≡ counts_where (λ x. p x || q x) ts ns
both_of p q apart [] ns = refl
both_of p q apart (t ∷ ts) [] = refl
both_of p q apart (t ∷ ts) (n ∷ ns) = grind (arith, both_of p q apart ts ns)

names_differ : (gs : GuestsNow) → AreApart gs → (i j : ℕ) → j ≢ i → (g k : GuestNow) → slice_get gs i ≡ Some g → slice_get gs j ≡ Some k → bytes_eq g.name k.name ≡ false
names_differ gs apart i j other g k at_i at_j = grind (arith, nat_tests, pair_at, other_name)

-- one guest is counted, or none
pub counted_one : (gs : GuestsNow) → AreApart gs → (i : ℕ) (g : GuestNow) → slice_get gs i ≡ Some g → (t : Bool) (ns : List ℕ) → counted_nth i t ns ≡ counts_where (λ x. bytes_eq g.name x && t) (names_of gs) ns
counted_one gs apart i g at true ns = one_of gs ns i g apart at ∙ counts_alike (bytes_eq g.name) (λ x. bytes_eq g.name x && true) (λ x. sym (and_true (bytes_eq g.name x))) (names_of gs) ns
counted_one gs apart i g at false ns = sym (counts_none (λ x. bytes_eq g.name x && false) (λ x. and_false (bytes_eq g.name x)) (names_of gs) ns)

-- two guests are counted, or one
pub counted_two : (gs : GuestsNow) → AreApart gs → (i j : ℕ) (g k : GuestNow) → slice_get gs i ≡ Some g → slice_get gs j ≡ Some k → (ns : List ℕ)
    → counted_both i j ns ≡ counts_where (λ x. bytes_eq g.name x || bytes_eq k.name x) (names_of gs) ns
counted_two gs apart i j g k at_i at_j ns = cases (j == i) refl
  where
    never : j ≢ i → (x : Text) → bytes_eq g.name x ≡ true → bytes_eq k.name x ≡ false
    never other x e = ap (bytes_eq k.name) (sym (equal_texts g.name x e)) ∙ other_name g.name k.name (names_differ gs apart i j other g k at_i at_j)

    twice : (u : Bool) → u ≡ (u || u)
    twice true = refl
    twice false = refl

    cases : (t : Bool) → (j == i) ≡ t → counted_nth j (not t) (counted_nth i true ns) ≡ counts_where (λ x. bytes_eq g.name x || bytes_eq k.name x) (names_of gs) ns
    cases true e =
        let one : j ≡ i = grind (arith, nat_tests) in
        let same : g ≡ k = let there = subst (λ (n : ℕ). slice_get gs n ≡ Some k) one at_j in cc in
        one_of gs ns i g apart at_i
        ∙ counts_alike (bytes_eq g.name) (λ x. bytes_eq g.name x || bytes_eq k.name x)
        (λ x. twice (bytes_eq g.name x) ∙ ap (λ (y : GuestNow). bytes_eq g.name x || bytes_eq y.name x) same) (names_of gs) ns
    cases false e =
        let other : j ≢ i = grind (arith, nat_tests) in
        ap (counted_nth j true) (one_of gs ns i g apart at_i) ∙ one_of gs (counts_where (bytes_eq g.name) (names_of gs) ns) j k apart at_j
        ∙ both_of (bytes_eq g.name) (bytes_eq k.name) (never other) (names_of gs) ns

-- ---- counts that are kept

pub set_counted : (gs : List Guest) (i : ℕ) (g k : Guest) (t : Bool) → slice_get gs i ≡ Some g → k.changed ≡ after_change t g.changed → counts_of (slice_set gs i k) ≡ counted_nth i t (counts_of gs)
set_counted gs i g k true at is = grind (arith, map_set, map_at)
set_counted gs i g k false at is = grind (arith, map_set, set_same, map_at)
