-- Lines of more than 200 bytes.
use Rattle.std.{proofs.{Common.{◌≡◌, ◌<◌, ◌==◌, not, Bool, true, false, [], ◌∷◌, ◌++◌, length, subst, ◌∙◌, append-nil, length-append, arith}, lemmas.Bool.Decides.nat_tests}, specs.Prelude.IsTrue}
use Rattle.model_guests.specs.{Text.Text, Grammar.is_long}
use Rattle.lines.specs.Pieces.{IsBefore}

pub more_than_200 : (t : Text) → IsTrue (is_long t) → 200 < length t
more_than_200 t h = grind (arith, nat_tests, h)

pub is_long_of : (t : Text) → 200 < length t → IsTrue (is_long t)
is_long_of t h = grind (arith, nat_tests)

pub longer : (before rest : Text) → IsTrue (is_long before) → IsTrue (is_long (before ++ rest))
longer before rest h = is_long_of (before ++ rest) (omega (arith, more_than_200 before h, length-append before rest))

pub long_before : (long : Bool) (before : Text) → long ≡ true → IsBefore long before → IsTrue (is_long before)
long_before long before is h = subst (λ (b : Bool). IsBefore b before) is h

pub none_before : (long : Bool) (before : Text) → long ≡ false → IsBefore long before → before ≡ []
none_before long before is h = subst (λ (b : Bool). IsBefore b before) is h

-- ---- what is left at the end

pub long_some : (long : Bool) (before rest : Text) → long ≡ true → IsBefore long before → 0 < length (before ++ rest)
long_some long before rest is h = omega (arith, more_than_200 before (long_before long before is h), length-append before rest)

pub text_some : (before text : Text) → not (length text == 0) ≡ true → 0 < length (before ++ text)
text_some before text h = grind (arith, length-append)

pub text_none : (long : Bool) (before text : Text) → not (length text == 0) ≡ false → long ≡ false → IsBefore long before → before ++ text ≡ []
text_none long before [] h is passed = append-nil before ∙ none_before long before is passed
text_none long before (c ∷ cs) h is passed = let wrong : 0 < length (c ∷ cs) = omega arith in absurd (grind (arith, nat_tests, h))
