-- Paths as texts: parts with slashes between them, each a device from 0 to 31, a dot and a function from 0 to 7,
-- without leading zeros.
--     parse_leading_part      the part with which a text begins, and what comes after it
--     parse_path, is_path_text      the path of 1 to 16 parts that a text is
--     path_at      that path, or 0.0 for any other text
--     is_path_within n text      a path whose devices are below n
use Rattle.std.specs.{Prelude.{ℕ, zero, suc, ◌+◌, ◌-◌, ◌*◌, Bool, ◌&&◌, List, [], ◌∷◌, ◌==◌, nat_le, Option, Some, None, is_some, nat_lt, unwrap_or, option_map, option_and_then, if◌then◌else◌}, List.list_all}
use Rattle.lists.specs.Elements.{first_of_two}
use Rattle.model_board.specs.Paths.{Part, Path}

abbrev pub is_byte_between : ℕ → ℕ → ℕ → Bool
is_byte_between low high b = nat_le low b && nat_le b high

-- a device of one digit: 48 is '0', 46 is a dot
abbrev pub parse_one_digit_part : List ℕ → Option (Part × List ℕ)
parse_one_digit_part (d ∷ dot ∷ f ∷ rest) =
    if is_byte_between 48 57 d && (dot == 46) && is_byte_between 48 55 f
    then Some (record { device = d - 48; function = f - 48 }, rest)
    else None
parse_one_digit_part _ = None

-- a device from 10 to 31: 49 is '1'
abbrev pub parse_two_digit_part : List ℕ → Option (Part × List ℕ)
parse_two_digit_part (t ∷ d ∷ dot ∷ f ∷ rest) =
    if is_byte_between 49 51 t && is_byte_between 48 57 d && (dot == 46) && is_byte_between 48 55 f
    && nat_le (10 * (t - 48) + (d - 48)) 31
    then Some (record { device = 10 * (t - 48) + (d - 48); function = f - 48 }, rest)
    else None
parse_two_digit_part _ = None

abbrev pub parse_leading_part : List ℕ → Option (Part × List ℕ)
parse_leading_part text = first_of_two (parse_one_digit_part text) (parse_two_digit_part text)

-- at most so many parts, each after a slash, which is 47
abbrev pub parts_after : ℕ → List ℕ → Option Path
parts_after room [] = Some []
parts_after zero (b ∷ bs) = None
parts_after (suc room) (b ∷ bs) =
    if b == 47
    then option_and_then (λ found. option_map (λ ps. found.0 ∷ ps) (parts_after room found.1)) (parse_leading_part bs)
    else None

abbrev pub parse_path : List ℕ → Option Path
parse_path text = option_and_then (λ found. option_map (λ ps. found.0 ∷ ps) (parts_after 15 found.1)) (parse_leading_part text)

abbrev pub is_path_text : List ℕ → Bool
is_path_text text = is_some (parse_path text)

abbrev pub path_at : List ℕ → Path
path_at text = unwrap_or (parse_path text) (record { device = 0; function = 0 } ∷ [])

abbrev pub is_path_within : ℕ → List ℕ → Bool
is_path_within n text = is_path_text text && list_all (λ p. nat_lt p.device n) (path_at text)
