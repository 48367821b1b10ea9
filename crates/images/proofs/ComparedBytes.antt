-- Bytes that are compared in two steps.
use Rattle.std.{proofs.{Common.{◌≡◌, ◌<◌, ℕ, ◌⊎◌, inl, inr, true, false, List, [], ◌∷◌, ◌++◌, length, take, drop, Ok, Err, refl, sym, ap, ap₂, ◌∙◌, subst, arith}, lemmas.{List.{append-nil, take-append-drop, take_all, take_at}, Slice.Eq.bytes_eq-Decides}}, specs.{Prelude.flat_map, Str.bytes_eq}}
use Rattle.model_images.{specs.LoadedBytes.{then_read, after_bytes}, proofs.{BlockCounts.block_count, LoadedBytes.{compared, after_both, own_bytes, Follows, FallsShort}}}
use Rattle.lists.specs.Elements.{Each}
use Rattle.model_registers.specs.{Declarations.{Region, ConfigBlock, Endpoint}, DeclarationRules.{IsConfigBlock, IsLawfulEndpoint}}
use Rattle.images.specs.Parts.{counted_blocks, region_bytes, rest_bytes}

same : (xs ys : List ℕ) → bytes_eq xs ys ≡ true → xs ≡ ys
same xs ys h = (bytes_eq-Decides xs ys).0 h

differ : {A : Type 0} (xs ys : List ℕ) → bytes_eq xs ys ≡ false → xs ≡ ys → A
differ xs ys h e = let yes = (bytes_eq-Decides xs ys).1 e in cc

-- the own bytes stand at the beginning
pub begins : (k : ℕ) (own bytes rest : List ℕ) → bytes_eq (take (length own) bytes) own ≡ true → rest ≡ drop (length own) bytes → after_bytes k own bytes ≡ Ok rest
begins k own bytes rest h e =
    let are : bytes ≡ own ++ rest = sym (take-append-drop (length own) bytes) ∙ ap (λ (xs : List ℕ). xs ++ drop (length own) bytes) (same (take (length own) bytes) own h) ∙ ap (λ (xs : List ℕ). own ++ xs) (sym e) in
    ap (after_bytes k own) are ∙ own_bytes k own rest

too_few : (k n : ℕ) (bytes rest : List ℕ) → after_bytes k (bytes ++ n ∷ rest) bytes ≡ Err 905
too_few k n [] rest = refl
too_few k n (b ∷ bytes) rest = grind (arith, too_few k n bytes rest)

-- all bytes are own ones
pub falls_short : (k : ℕ) (own bytes : List ℕ) → bytes_eq (take (length own) bytes) own ≡ false → bytes_eq bytes (take (length bytes) own) ≡ true → after_bytes k own bytes ≡ Err 905
falls_short k own bytes none h = of (drop (length bytes) own) (sym (take-append-drop (length bytes) own) ∙ ap (λ (xs : List ℕ). xs ++ drop (length bytes) own) (sym (same bytes (take (length bytes) own) h)))
  where
    of : (more : List ℕ) → own ≡ bytes ++ more → after_bytes k own bytes ≡ Err 905
    of [] e = differ (take (length own) bytes) own none (ap (λ (xs : List ℕ). take (length xs) bytes) is ∙ take_all (length bytes) bytes (omega arith) ∙ sym is)
      where
        is : own ≡ bytes
        is = e ∙ append-nil bytes
    of (n ∷ rest) e = ap (λ (xs : List ℕ). after_bytes k xs bytes) e ∙ too_few k n bytes rest

-- another byte
pub differs : (k : ℕ) (own bytes : List ℕ) → bytes_eq (take (length own) bytes) own ≡ false → bytes_eq bytes (take (length bytes) own) ≡ false → after_bytes k own bytes ≡ Err k
differs k own bytes none h = of (compared k own bytes)
  where
    of : ((rest : List ℕ) × Follows k own bytes rest) ⊎ ((after_bytes k own bytes ≡ Err k) ⊎ FallsShort own bytes) → after_bytes k own bytes ≡ Err k
    of (inl m) = differ (take (length own) bytes) own none (ap (take (length own)) m.1.are ∙ take_at own m.0 (length own) refl)
    of (inr (inl e)) = e
    of (inr (inr m)) = differ bytes (take (length bytes) own) h (sym (ap (take (length bytes)) m.are ∙ take_at bytes (m.next ∷ m.rest) (length bytes) refl))

-- where every difference is one fault
pub no_beginning : (own bytes : List ℕ) → bytes_eq (take (length own) bytes) own ≡ false → after_bytes 905 own bytes ≡ Err 905
no_beginning own bytes none = grind (arith, falls_short, differs)

-- ---- one after the other

pub goes_on : (k : ℕ) (xs ys bytes rest : List ℕ) → after_bytes k xs bytes ≡ Ok rest → after_bytes k (xs ++ ys) bytes ≡ after_bytes k ys rest
goes_on k xs ys bytes rest h = after_both k xs ys bytes ∙ ap (then_read (after_bytes k ys)) h

pub ends : (k n : ℕ) (xs ys bytes : List ℕ) → after_bytes k xs bytes ≡ Err n → after_bytes k (xs ++ ys) bytes ≡ Err n
ends k n xs ys bytes h = after_both k xs ys bytes ∙ ap (then_read (after_bytes k ys)) h

-- the first of a list
pub goes_on_of : {A : Type 0} (f : A → List ℕ) (x : A) (left others : List A) (k : ℕ) (own bytes rest : List ℕ) → left ≡ x ∷ others → own ≡ f x → after_bytes k own bytes ≡ Ok rest
    → after_bytes k (flat_map f others) rest ≡ after_bytes k (flat_map f left) bytes
goes_on_of f x left others k own bytes rest first are h = grind (arith, goes_on)

pub ends_of : {A : Type 0} (f : A → List ℕ) (x : A) (left others : List A) (k n : ℕ) (own bytes : List ℕ) → left ≡ x ∷ others → own ≡ f x → after_bytes k own bytes ≡ Err n
    → after_bytes k (flat_map f left) bytes ≡ Err n
ends_of f x left others k n own bytes first are h = grind (arith, ends)

-- ---- a declaration

pub rest_goes_on : (d : Endpoint) (rs : List Region) (bs : List ConfigBlock) (bytes rest : List ℕ) → rs ≡ d.regions → bs ≡ d.blocks → after_bytes 906 (flat_map region_bytes rs) bytes ≡ Ok rest
    → after_bytes 906 (rest_bytes d) bytes ≡ after_bytes 906 (counted_blocks bs) rest
rest_goes_on d rs bs bytes rest regions blocks h =
    ap₂ (λ (x : List Region) (y : List ConfigBlock). after_bytes 906 (flat_map region_bytes x ++ counted_blocks y) bytes) (sym regions) (sym blocks)
    ∙ goes_on 906 (flat_map region_bytes rs) (counted_blocks bs) bytes rest h

pub record AreCounted (bs : List ConfigBlock) : Type 0 where
  pub lawful : Each IsConfigBlock bs
  pub count : length bs < 256

pub are_counted : (d : Endpoint) (bs : List ConfigBlock) → IsLawfulEndpoint d → bs ≡ d.blocks → AreCounted bs
are_counted d bs h same = subst AreCounted (sym same) (record { lawful = h.config_blocks; count = let few = block_count d h in omega arith })
