-- Bytes that are put one after the other, from a place on.
use Rattle.std.{proofs.Common.{◌≡◌, ℕ, zero, suc, ◌+◌, ◌*◌, ◌-◌, ◌≤◌, ◌<◌, List, [], ◌∷◌, ◌++◌, length, refl, sym, ap, ◌∙◌, arith, length-append}, specs.Prelude.flat_map}
use Rattle.model_registers.specs.{Registers.{Place, after}, Decoding.Function, Declarations.{Endpoint, registers_of, Region}, OwnCopies.OwnCopies}
use Rattle.headers.specs.Places.{place_of}
use Rattle.images.{specs.{Puts.put, Shown.{block_values, bytes_from, header_values, region_values, shown_byte, shown_values}}, proofs.Puts.{next, put_none}}
use Rattle.headers.specs.declared.place.Place as headers

after_place : (place : headers.Place) (off : ℕ) → after (place_of place off) ≡ place_of place (off + 1)
after_place place off = grind arith

module _ (e : Function) (own : OwnCopies) where
  pub run_length : (p : Place) (n : ℕ) → length (bytes_from e own p n) ≡ n
  unfolding bytes_from
  run_length p zero = refl
  run_length p (suc n) = ap suc (run_length (after p) n)

  pub run_none : (p : Place) (n : ℕ) → n ≡ 0 → bytes_from e own p n ≡ []
  unfolding bytes_from
  run_none p n none = ap (bytes_from e own p) none

  run_next : (p : Place) (n : ℕ) → 0 < n → bytes_from e own p n ≡ shown_byte e own p ∷ bytes_from e own (after p) (n - 1)
  unfolding bytes_from
  run_next p n some = grind arith

  -- one byte more is put
  pub record GoesOn (at : ℕ) (place : headers.Place) (off left n : ℕ) (out new : List ℕ) : Type 0 where
    pub room : n + (left - 1) ≤ length new
    pub bytes : put n (bytes_from e own (place_of place (off + 1)) (left - 1)) new ≡ put at (bytes_from e own (place_of place off) left) out

  pub goes_on : (at : ℕ) (place : headers.Place) (off left n b : ℕ) (out new : List ℕ) → 0 < left → b ≡ shown_byte e own (place_of place off) → new ≡ put at (b ∷ []) out → n ≡ at + 1 → at + left ≤ length out
      → GoesOn at place off left n out new
  goes_on at place off left n b out new some is put_one end room =
      let rest : List ℕ = bytes_from e own (place_of place (off + 1)) (left - 1) in
      let many = run_length (place_of place (off + 1)) (left - 1) in
      let whole : bytes_from e own (place_of place off) left ≡ (b ∷ []) ++ rest =
      run_next (place_of place off) left some ∙ ap (λ p. shown_byte e own (place_of place off) ∷ bytes_from e own p (left - 1)) (after_place place off) ∙ ap (λ x. x ∷ rest) (sym is) in
      let s = next at n (b ∷ []) rest out new put_one end (omega arith) in
      record { room = let r = s.room in omega arith; bytes = s.bytes ∙ ap (λ (xs : List ℕ). put at xs out) (sym whole) }

  -- nothing is left
  pub at_end : (p : Place) (n left : ℕ) (out : List ℕ) → left ≡ 0 → out ≡ put n (bytes_from e own p left) out
  at_end p n left out none = sym (ap (λ (xs : List ℕ). put n xs out) (run_none p left none) ∙ put_none n out)

  pub header_length : length (header_values e own) ≡ 23
  header_length = grind (arith, run_length, length-append)

  pub region_length : (r : Region) → length (region_values e own r) ≡ 4 * registers_of r.kind + length r.cells
  region_length r = grind (arith, run_length, length-append)

  pub values_length : (d : Endpoint) → length (shown_values e own d) ≡ 23 + length (flat_map (block_values e own) d.blocks) + length (flat_map (region_values e own) d.regions)
  values_length d = grind (arith, header_length, length-append)
