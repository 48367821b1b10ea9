-- Parts of a buffer.
use Rattle.std.{proofs.{Common.{◌≡◌, ℕ, ◌+◌, ◌-◌, ◌<◌, ◌≤◌, Bool, true, false, [], ◌∷◌, ◌++◌, Option, Result, length, take, drop, refl, sym, ap, subst, ◌∙◌, arith, append-nil, length-append, length-drop, length-take-le, take-take}, Math.Seq.{take-append-add, drop-append_seam}, lemmas.Slice.take-put_mid}, specs.{Prelude.{IfOk, IsTrue}, Io.{ReadsAtMost, KnownBytes.{Consumes, ReadConsumes}}}}
use borrow.Rule.Slice.PartMut.{put_mid}
use Rattle.model_guests.specs.{Text.Text, Grammar.is_long}
use Rattle.lines.{specs.Pieces.{Pending, IsBefore, rest_of}, proofs.LongLines.{is_long_of, longer, long_before, none_before}}

-- the front of a buffer of which the part from a on was written
put_front : (a k n : ℕ) (xs ys : Text) → a ≤ length xs → n ≤ length ys → take (a + n) (put_mid a k xs ys) ≡ take a xs ++ take n ys
put_front a k n xs ys fits few =
    let long : length (take a xs) ≡ a = length-take-le a xs fits in
    let within : a + n ≤ a + length ys = omega arith in
    let count : a + n ≡ length (take a xs) + n = omega arith in
    sym (take-take (a + n) (a + length ys) (put_mid a k xs ys) within) ∙ ap (take (a + n)) (take-put_mid a k xs ys (a + length ys) refl fits)
    ∙ ap (λ (m : ℕ). take m (take a xs ++ ys)) count ∙ take-append-add (take a xs) ys n

-- what a read behind the first a bytes did
pub read_behind : {E : Type 0} (r : Result ℕ E) (old new : Option Text) (a k : ℕ) (xs ys : Text) → a ≤ length xs → ReadsAtMost r ys → ReadConsumes old new r ys
    → IfOk r (λ n. (bytes : Text) × Consumes old new bytes × (length bytes ≡ n) × (take (a + n) (put_mid a k xs ys) ≡ take a xs ++ bytes))
read_behind r old new a k xs ys fits bound bytes = grind (arith, length-take-le, put_front)

-- a text without a byte adds nothing
pub nothing_more : (xs bytes : Text) (n : ℕ) → length bytes ≡ n → n ≡ 0 → xs ++ bytes ≡ xs
nothing_more xs [] n long none = append-nil xs
nothing_more xs (b ∷ bs) n long none = absurd (omega arith)

pub length_rest : (count : ℕ) (text : Text) → count ≤ length text → length (rest_of count text) ≡ count
length_rest count text few = omega (arith, length-drop (length text - count) text)

-- the last bytes of a text that ends with them
pub rest_is_last : (text done rest : Text) → text ≡ done ++ rest → rest_of (length rest) text ≡ rest
rest_is_last text done rest e =
    let count : length text - length rest ≡ length done = omega (arith, ap length e, length-append done rest) in
    ap (λ (m : ℕ). drop m text) count ∙ ap (drop (length done)) e ∙ drop-append_seam done rest

-- a long line's bytes are passed over
pub passes : (long : Bool) (before rest : Text) → long ≡ true → IsBefore long before → IsTrue (is_long (before ++ rest))
passes long before rest is h = longer before rest (long_before long before is h)

pub passes_rest : (before text : Text) (count : ℕ) → count ≤ length text → 200 < count → IsTrue (is_long (before ++ rest_of count text))
passes_rest before text count few more = is_long_of (before ++ rest_of count text) (omega (arith, length_rest count text few, length-append before (rest_of count text)))

-- how the rest of a piece is pending
abbrev pub Kept : Pending → Text → Text → Type 0
Kept h before rest = (passed : Text) × IsBefore h.long passed × (passed ++ h.text ≡ before ++ rest)

pub kept_none : (before rest : Text) (h : Pending) → h ≡ record { text = []; long = true } → IsTrue (is_long (before ++ rest)) → Kept h before rest
kept_none before rest h e long = subst (λ (x : Pending). Kept x before rest) (sym e) (before ++ rest, long, append-nil (before ++ rest))

pub kept_last : (before rest : Text) (long : Bool) (h : Pending) → h ≡ record { text = rest; long = false } → long ≡ false → IsBefore long before → Kept h before rest
kept_last before rest long h e is passed = subst (λ (x : Pending). Kept x before rest) (sym e) (before, none_before long before is passed, refl)
