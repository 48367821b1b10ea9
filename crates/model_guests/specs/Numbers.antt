-- Numbers in a script.
--     number_of      decimal digits, or 0x and hexadecimal digits, below 2^64
use Rattle.std.specs.{Prelude.{[], ◌∷◌, ℕ, ◌-◌, ◌+◌, ◌*◌, Bool, ◌&&◌, ◌==◌, if◌then◌else◌, ◌^◌, ◌||◌, nat_lt, nat_le, Option, Some, None, drop, codes, option_and_then}, List.starts_with}
use Rattle.model_guests.specs.Text.{Text}

-- 0 to 9, a to f, A to F
abbrev pub digit_of : ℕ → Option ℕ
digit_of c =
    if nat_le 48 c && nat_le c 57 then Some (c - 48)
    else (if nat_le 97 c && nat_le c 102 then Some (c - 87)
    else (if nat_le 65 c && nat_le c 70 then Some (c - 55) else None))

abbrev pub below : ℕ → Option ℕ → Option ℕ
below limit n = option_and_then (λ (k : ℕ). if nat_lt k limit then Some k else None) n

-- the number that the digits so far encode, followed by these
abbrev pub digits_from : ℕ → ℕ → Text → Option ℕ
digits_from base n [] = Some n
digits_from base n (c ∷ cs) = option_and_then (λ (d : ℕ). digits_from base (n * base + d) cs) (below base (digit_of c))

-- one digit or more, all below the base
abbrev pub digits_in : ℕ → Text → Option ℕ
digits_in base [] = None
digits_in base (c ∷ cs) = digits_from base 0 (c ∷ cs)

abbrev pub is_hexadecimal : Text → Bool
is_hexadecimal w = starts_with ◌==◌ w (codes "0x") || starts_with ◌==◌ w (codes "0X")

-- any count of leading zeros is fine
abbrev pub number_of : Text → Option ℕ
number_of w = below (2 ^ 64) (if is_hexadecimal w then digits_in 16 (drop 2 w) else digits_in 10 w)
