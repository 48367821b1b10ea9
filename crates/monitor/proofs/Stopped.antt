-- Where bytes that are refused stop to fit: slot after slot, and byte by byte.
use Rattle.std.{proofs.{Common.{arith, ◌≡◌, ◌<◌, ◌≤◌, ◌+◌, ◌-◌, ◌/◌, ℕ, suc, true, false, List, [], ◌∷◌, Option, Some, None, length, take, le_refl, sym, take_all, ap, ◌∙◌}, lemmas.{Bool.{eq-eqb, eqb-true}, Option.same_Some}}, specs.{Prelude.{◌==◌}, Option.option_map_or}}
use Rattle.model_guests.specs.Lone.{LoneGuest}
use Rattle.model_images.specs.{LoadedBytes.load_fault, Stops.StopsAt}

-- ---- halves

-- with so many bytes they aren't refused so yet, and with so many they are
pub record IsBetween (g : LoneGuest) (bytes : List ℕ) (k low high : ℕ) : Type 0 where
  pub order : low < high
  pub within : high ≤ length bytes
  pub before : load_fault g (take low bytes) ≡ Some k → ⊥
  pub there : load_fault g (take high bytes) ≡ Some k

none_refused : (g : LoneGuest) (k : ℕ) → (k ≡ 905 → ⊥) → load_fault g [] ≡ Some k → ⊥
none_refused g k other h = let same : k ≡ 905 = grind arith in other same

-- the middle
pub half_above : (low high : ℕ) → 1 < high - low → low < low + (high - low) / 2
half_above low high h = omega arith

pub half_below : (low high : ℕ) → 1 < high - low → low + (high - low) / 2 < high
half_below low high h = omega arith

module _ (g : LoneGuest) (bytes : List ℕ) (k : ℕ) where
  pub between_first : load_fault g bytes ≡ Some k → (k ≡ 905 → ⊥) → IsBetween g bytes k 0 (length bytes)
  between_first refused other = record {
    order = some_byte bytes refused;
    within = omega arith;
    before = none_refused g k other;
    there = ap (load_fault g) (take_all (length bytes) bytes (le_refl (length bytes))) ∙ refused;
  }
    where
      some_byte : (xs : List ℕ) → load_fault g xs ≡ Some k → 0 < length xs
      some_byte [] h = absurd (none_refused g k other h)
      some_byte (x ∷ xs) h = omega arith

  refused_so : (o : Option ℕ) → option_map_or (λ n. n == k) o false ≡ true → o ≡ Some k
  refused_so None h = cc
  refused_so (Some n) h = ap Some (eqb-true n k h)

  not_so : (o : Option ℕ) → option_map_or (λ n. n == k) o false ≡ false → o ≡ Some k → ⊥
  not_so None h same = cc
  not_so (Some n) h same = let one = eq-eqb n k (same_Some n k same) in cc

  module _ (low high middle : ℕ) (is : IsBetween g bytes k low high) where
    pub in_low_half : middle < high → low < middle → option_map_or (λ n. n == k) (load_fault g (take middle bytes)) false ≡ true → IsBetween g bytes k low middle
    in_low_half below above h = record { order = above; within = let in_all = is.within in omega arith; before = is.before; there = refused_so (load_fault g (take middle bytes)) h }

    pub in_high_half : middle < high → option_map_or (λ n. n == k) (load_fault g (take middle bytes)) false ≡ false → IsBetween g bytes k middle high
    in_high_half below h = record { order = below; within = is.within; before = not_so (load_fault g (take middle bytes)) h; there = is.there }

  pub stops_there : (low high : ℕ) → IsBetween g bytes k low high → high ≤ suc low → load_fault g bytes ≡ Some k → StopsAt g bytes low
  stops_there low high is near refused =
      let next : high ≡ suc low = let order = is.order in omega arith in
      record {
        before = λ same. is.before (same ∙ refused);
        there = ap (λ n. load_fault g (take n bytes)) (sym next) ∙ is.there ∙ sym refused;
      }
