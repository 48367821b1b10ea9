-- What is put into a buffer in two steps.
use Rattle.std.{proofs.{Common.{◌≡◌, ℕ, ◌+◌, ◌≤◌, List, [], ◌∷◌, ◌++◌, length, take, drop, sym, ap, ap₂, ◌∙◌, subst, append_assoc, arith, length-append, length-drop}, lemmas.List.{length-take, take-append-drop, take_at, drop_at, drop-drop}}, specs.Prelude.flat_map}
use Rattle.images.specs.Puts.{put}

pub put_length : (at : ℕ) (xs out : List ℕ) → at + length xs ≤ length out → length (put at xs out) ≡ length out
put_length at xs out room = grind (arith, length-append, length-take, length-drop)

-- nothing that is put
pub put_none : (at : ℕ) (out : List ℕ) → put at [] out ≡ out
put_none at out = let same : at + 0 ≡ at = omega arith in ap (λ n. take at out ++ drop n out) same ∙ take-append-drop at out

pub put_both : (at n : ℕ) (xs ys out : List ℕ) → n ≡ at + length xs → at + length xs ≤ length out → put n ys (put at xs out) ≡ put at (xs ++ ys) out
put_both at n xs ys out end room =
    let front : List ℕ = take at out in
    let back : List ℕ = drop (at + length xs) out in
    let begins : length (front ++ xs) ≡ n = let a = length-append front xs in let b = length-take at out in omega arith in
    let split : put at xs out ≡ (front ++ xs) ++ back = sym (append_assoc front xs back) in
    let left : take n (put at xs out) ≡ front ++ xs = ap (take n) split ∙ take_at (front ++ xs) back n begins in
    let both : at + length xs + length ys ≡ at + length (xs ++ ys) = let a = length-append xs ys in omega arith in
    let right : drop (n + length ys) (put at xs out) ≡ drop (at + length (xs ++ ys)) out =
    sym (drop-drop (length ys) n (put at xs out)) ∙ ap (λ (l : List ℕ). drop (length ys) (drop n l)) split ∙ ap (drop (length ys)) (drop_at (front ++ xs) back n begins)
    ∙ drop-drop (length ys) (at + length xs) out ∙ ap (λ m. drop m out) both in
    ap₂ (λ (x y : List ℕ). x ++ (ys ++ y)) left right ∙ append_assoc front xs (ys ++ drop (at + length (xs ++ ys)) out)
    ∙ ap (λ (l : List ℕ). front ++ l) (sym (append_assoc xs ys (drop (at + length (xs ++ ys)) out)))

-- ---- elements that are put one after the other

pub record IsNext (at n : ℕ) (first rest out new : List ℕ) : Type 0 where
  pub room : n + length rest ≤ length new
  pub end : n + length rest ≡ at + length (first ++ rest)
  pub bytes : put n rest new ≡ put at (first ++ rest) out

pub next : (at n : ℕ) (first rest out new : List ℕ) → new ≡ put at first out → n ≡ at + length first → at + length (first ++ rest) ≤ length out → IsNext at n first rest out new
next at n first rest out new is end room = grind (arith, length-append, put_length, put_both)

-- the first of a list
pub record IsNextOf {A : Type 0} (f : A → List ℕ) (at n : ℕ) (left rest : List A) (out new : List ℕ) : Type 0 where
  pub room : n + length (flat_map f rest) ≤ length new
  pub end : n + length (flat_map f rest) ≡ at + length (flat_map f left)
  pub bytes : put n (flat_map f rest) new ≡ put at (flat_map f left) out

pub next_of : {A : Type 0} (f : A → List ℕ) (x : A) (left rest : List A) (at n : ℕ) (bytes out new : List ℕ) → left ≡ x ∷ rest → bytes ≡ f x → new ≡ put at bytes out → n ≡ at + length bytes
    → at + length (flat_map f left) ≤ length out → IsNextOf f at n left rest out new
next_of f x left rest at n bytes out new first are is end room =
    let flat : flat_map f left ≡ bytes ++ flat_map f rest = ap (flat_map f) first ∙ ap (λ (l : List ℕ). l ++ flat_map f rest) (sym are) in
    let s = next at n bytes (flat_map f rest) out new is end (subst (λ (l : List ℕ). at + length l ≤ length out) flat room) in
    record { room = s.room; end = s.end ∙ ap (λ (l : List ℕ). at + length l) (sym flat); bytes = s.bytes ∙ ap (λ (l : List ℕ). put at l out) (sym flat) }
