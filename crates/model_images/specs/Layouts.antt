-- Layouts: how values are encoded as consecutive bytes, and decoded again. Numbers are little-endian.
--     Layout      the values that can be encoded, their bytes, and the value at the front of some bytes
--     le_bytes k n, number k      n in k bytes; numbers of k bytes
--     checked test L      the values of L that pass a test
--     through to from L      the values of L, converted to another type
--     followed L M, both L M      a value, then one in a layout that depends on it; two values
--     exactly k n      only this number, in k bytes
--     repeated n L, counted k L      n values; the number of values in k bytes, then the values
--     optional L      a byte 0, or a byte 1 and a value
--     whole L bytes      the value that exactly these bytes encode
use Rattle.std.specs.Prelude.{List, [], ◌∷◌, ℕ, zero, suc, ◌+◌, ◌*◌, ◌/◌, ◌%◌, ◌^◌, ◌++◌, Bool, true, false, ◌&&◌, ◌==◌, nat_lt, nat_le, if◌then◌else◌, length, flat_map, Option, Some, None, option_map, option_and_then}

-- a value, and the bytes after it
pub record Parsed (A : Type 0) : Type 0 where
  pub value : A
  pub rest : List ℕ

pub record Layout (A : Type 0) : Type 0 where
  pub fits : A → Bool
  pub bytes : A → List ℕ
  pub parse : List ℕ → Option (Parsed A)

abbrev pub parsed : {A : Type 0} → A → List ℕ → Parsed A
parsed x rest = record { value = x; rest = rest }

-- ---- numbers

abbrev pub le_bytes : ℕ → ℕ → List ℕ
le_bytes zero n = []
le_bytes (suc k) n = n % 256 ∷ le_bytes k (n / 256)

-- the number with this low byte and these other bytes
abbrev pub raised_number : ℕ → Parsed ℕ → Parsed ℕ
raised_number b p = parsed (b + 256 * p.value) p.rest

abbrev pub parse_number : ℕ → List ℕ → Option (Parsed ℕ)
parse_number zero bs = Some (parsed 0 bs)
parse_number (suc k) [] = None
parse_number (suc k) (b ∷ bs) = if nat_lt b 256 then option_map (raised_number b) (parse_number k bs) else None

abbrev pub number : ℕ → Layout ℕ
number k = record { fits = λ n. nat_lt n (256 ^ k); bytes = le_bytes k; parse = parse_number k }

-- ---- values that pass, and values seen as others

abbrev pub if_passed : {A : Type 0} → (A → Bool) → Parsed A → Option (Parsed A)
if_passed test p = if test p.value then Some p else None

abbrev pub checked : {A : Type 0} → (A → Bool) → Layout A → Layout A
checked test L = record {
  fits = λ x. L.fits x && test x;
  bytes = λ x. L.bytes x;
  parse = λ bs. option_and_then (if_passed test) (L.parse bs);
}

abbrev pub seen : {A B : Type 0} → (A → B) → Parsed A → Parsed B
seen to p = parsed (to p.value) p.rest

abbrev pub through : {A B : Type 0} → (A → B) → (B → A) → Layout A → Layout B
through to from L = record {
  fits = λ y. L.fits (from y);
  bytes = λ y. L.bytes (from y);
  parse = λ bs. option_map (seen to) (L.parse bs);
}

-- ---- one value after another

abbrev pub paired : {A B : Type 0} → A → Parsed B → Parsed (A × B)
paired x q = parsed (x, q.value) q.rest

abbrev pub parse_next : {A B : Type 0} → (A → Layout B) → Parsed A → Option (Parsed (A × B))
parse_next M p = option_map (paired p.value) ((M p.value).parse p.rest)

abbrev pub followed : {A B : Type 0} → Layout A → (A → Layout B) → Layout (A × B)
followed L M = record {
  fits = λ x. L.fits x.0 && (M x.0).fits x.1;
  bytes = λ x. L.bytes x.0 ++ (M x.0).bytes x.1;
  parse = λ bs. option_and_then (parse_next M) (L.parse bs);
}

abbrev pub both : {A B : Type 0} → Layout A → Layout B → Layout (A × B)
both L M = followed L (λ x. M)

abbrev pub exactly : ℕ → ℕ → Layout (Unit {0})
exactly k n = through (λ m. tt) (λ u. n) (checked (λ m. m == n) (number k))

-- ---- many values

abbrev pub fit_times : {A : Type 0} → (A → Bool) → ℕ → List A → Bool
fit_times fits zero [] = true
fit_times fits zero (x ∷ xs) = false
fit_times fits (suc n) [] = false
fit_times fits (suc n) (x ∷ xs) = fits x && fit_times fits n xs

abbrev pub before : {A : Type 0} → A → Parsed (List A) → Parsed (List A)
before x q = parsed (x ∷ q.value) q.rest

abbrev pub parse_times : {A : Type 0} → (List ℕ → Option (Parsed A)) → ℕ → List ℕ → Option (Parsed (List A))
parse_times parse zero bs = Some (parsed [] bs)
parse_times parse (suc n) bs =
    option_and_then (λ (p : Parsed _). option_map (before p.value) (parse_times parse n p.rest)) (parse bs)

abbrev pub repeated : {A : Type 0} → ℕ → Layout A → Layout (List A)
repeated n L = record {
  fits = fit_times L.fits n;
  bytes = flat_map L.bytes;
  parse = parse_times L.parse n;
}

abbrev pub counted : {A : Type 0} → ℕ → Layout A → Layout (List A)
counted k L = through (λ x. x.1) (λ xs. (length xs, xs)) (followed (number k) (λ n. repeated n L))

-- ---- a value or none, which are one value or none in a list

abbrev pub first_of : {A : Type 0} → List A → Option A
first_of [] = None
first_of (x ∷ xs) = Some x

abbrev pub at_most_one : {A : Type 0} → Option A → List A
at_most_one None = []
at_most_one (Some x) = x ∷ []

abbrev pub optional : {A : Type 0} → Layout A → Layout (Option A)
optional L = through first_of at_most_one (checked (λ xs. nat_le (length xs) 1) (counted 1 L))

-- ---- all the bytes

abbrev pub if_no_rest : {A : Type 0} → A → List ℕ → Option A
if_no_rest x [] = Some x
if_no_rest x (b ∷ bs) = None

abbrev pub whole : {A : Type 0} → Layout A → List ℕ → Option A
whole L bs = option_and_then (λ (p : Parsed _). if_no_rest p.value p.rest) (L.parse bs)
