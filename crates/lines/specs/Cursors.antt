-- What the front of a text writes, which is read word by word.
--     before_blank, after_blank      the bytes before the first blank, and those after it
--     IsRead base text n rest      the bytes before the rest of a text are digits of its first word, and write n
--     IsAtWord      no blank stands at the front
--     Numbered, numbered ws      the number that the first word writes, with the words after it
use Rattle.std.specs.Prelude.{◌≡◌, ℕ, ◌^◌, List, [], ◌∷◌, Option, None, ⊤, false, if◌then◌else◌, option_map}
use Rattle.model_guests.specs.{Text.{Text, is_blank}, Numbers.{below, digits_from, number_of}}

abbrev pub before_blank : Text → Text
before_blank [] = []
before_blank (c ∷ cs) = if is_blank c then [] else c ∷ before_blank cs

abbrev pub after_blank : Text → Text
after_blank [] = []
after_blank (c ∷ cs) = if is_blank c then cs else after_blank cs

pub record IsRead (base : ℕ) (text : Text) (n : ℕ) (rest : Text) : Type 0 where
  pub read : below (2 ^ 64) (digits_from base n (before_blank rest))
      ≡ below (2 ^ 64) (digits_from base 0 (before_blank text))
  pub after : after_blank rest ≡ after_blank text

abbrev pub IsAtWord : Text → Type 0
IsAtWord [] = ⊤
IsAtWord (c ∷ cs) = is_blank c ≡ false

pub record Numbered : Type 0 where
  pub number : ℕ
  pub rest : List Text

abbrev pub numbered : List Text → Option Numbered
numbered [] = None
numbered (w ∷ ws) = option_map (λ n. record { number = n; rest = ws }) (number_of w)
