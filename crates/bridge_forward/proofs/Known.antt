-- What is known of bridges, where an entry changes or the time goes on.
use Rattle.std.{proofs.{Common.{◌≡◌, ℕ, suc, ◌+◌, ◌≤◌, ◌<◌, Option, None, List, [], ◌∷◌, length, replicate, get_or, refl, sym, ap, ap₂, ◌∙◌, subst, zero, arith}, lemmas.{Bool.ne_eqb, List.length-replicate}}, specs.List.slice_set}
use Rattle.lists.{specs.Elements.Each, proofs.Indices.map_set}
use Rattle.bridge_forward.specs.{Known.{known_entry, known_now, AreKept}, Leading.AreUnknown}

-- entries of earlier times count for nothing
earlier : (time : ℕ) (e : ℕ × ℕ) → e.0 < time → known_entry time e ≡ None
earlier time (found, bridge) h = grind (arith, ne_eqb)

pub all_earlier : (time : ℕ) (es : List (ℕ × ℕ)) → Each (λ e. e.0 < time) es → known_now time es ≡ replicate (length es) None
all_earlier time [] h = refl
all_earlier time (e ∷ es) h = ap₂ (λ o os. o ∷ os) (earlier time e h.0) (all_earlier time es h.1)

pub goes_on : (time : ℕ) (es : List (ℕ × ℕ)) → Each (λ e. e.0 ≤ time) es → Each (λ e. e.0 < time + 1) es
goes_on time [] h = tt
goes_on time (e ∷ es) h = (omega (arith, h.0), goes_on time es h.1)

-- at the beginning nothing is known
begun_past : (count : ℕ) → Each (λ (e : ℕ × ℕ). e.0 ≤ 1) (replicate count (0, 0))
begun_past zero = tt
begun_past (suc n) = (omega arith, begun_past n)

begun_none : (count : ℕ) → known_now 1 (replicate count (0, 0)) ≡ replicate count None
begun_none zero = refl
begun_none (suc n) = ap (λ (os : List (Option ℕ)). None ∷ os) (begun_none n)

pub kept_at_first : (es : List (ℕ × ℕ)) (count : ℕ) → es ≡ replicate count (0, 0) → count ≡ 256 → AreKept 1 es
kept_at_first es count is h = subst (AreKept 1) (sym is) (record { begun = omega arith; all = length-replicate count (0, 0) ∙ h; past = begun_past count })

pub none_at_first : (es : List (ℕ × ℕ)) (count : ℕ) → es ≡ replicate count (0, 0) → known_now 1 es ≡ replicate count None
none_at_first es count is = ap (known_now 1) is ∙ begun_none count

none_in : (count n : ℕ) → get_or {A = Option ℕ} (replicate count None) n None ≡ None
none_in zero n = refl
none_in (suc c) zero = refl
none_in (suc c) (suc n) = none_in c n

pub unknown_at_first : (es : List (ℕ × ℕ)) (count : ℕ) → es ≡ replicate count (0, 0) → AreUnknown (known_now 1 es)
unknown_at_first es count is n l = ap (λ (os : List (Option ℕ)). get_or os n None) (none_at_first es count is) ∙ none_in count n

-- the time went on
pub none_later : (time : ℕ) (es : List (ℕ × ℕ)) → AreKept time es → known_now (time + 1) es ≡ replicate 256 None
none_later time es h = all_earlier (time + 1) es (goes_on time es h.past) ∙ ap (λ (n : ℕ). replicate n None) h.all

-- one entry changed
pub known_with : (time n : ℕ) (e : ℕ × ℕ) (o : Option ℕ) (es : List (ℕ × ℕ)) → known_entry time e ≡ o → known_now time (slice_set es n e) ≡ slice_set (known_now time es) n o
known_with time n e o es h = map_set (known_entry time) es n e ∙ ap (λ (p : Option ℕ). slice_set (known_now time es) n p) h
