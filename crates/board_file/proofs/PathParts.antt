-- What a text is read as is a path.
use Rattle.std.{proofs.Common.{◌≡◌, ℕ, zero, suc, ◌+◌, ◌-◌, ◌*◌, ◌≤◌, ◌==◌, Bool, true, false, ◌&&◌, cond, List, [], ◌∷◌, length, Option, Some, None, option_map, unwrap_or, arith, leb-true}, specs.Prelude.{option_and_then, nat_le}}
use Rattle.lists.{specs.Elements.Each, proofs.Tests.{left_true, right_true}}
use Rattle.model_board.specs.Paths.{Part, Path, IsPart, IsPath}
use Rattle.board_file.specs.PathTexts.{is_byte_between, parse_one_digit_part, parse_leading_part, parts_after, path_at}

ruleset byte_tests = (left_true, right_true, leb-true)

abbrev Front : Option (Part × List ℕ) → Type 0
Front None = Unit {0}
Front (Some f) = IsPart f.0

abbrev Within : ℕ → Option Path → Type 0
Within n None = Unit {0}
Within n (Some ps) = (length ps ≤ n) × Each IsPart ps

-- a part is given where a test of its bytes holds
front_of : (t : Bool) (p : Part) (rest : List ℕ) → (t ≡ true → IsPart p) → Front (cond t (Some (p, rest)) None)
front_of t p rest h = grind arith

short_front : (text : List ℕ) → Front (parse_one_digit_part text)
short_front (d ∷ dot ∷ f ∷ rest) = grind (arith, front_of, byte_tests)
short_front _ = tt

long_fits : (t d dot f : ℕ) → (is_byte_between 49 51 t && is_byte_between 48 57 d && (dot == 46) && is_byte_between 48 55 f && nat_le (10 * (t - 48) + (d - 48)) 31) ≡ true
    → IsPart (record { device = 10 * (t - 48) + (d - 48); function = f - 48 })
long_fits t d dot f h = record { device_fits = search (byte_tests, arith) depth 6; function_fits = search (byte_tests, arith) depth 6 }

front : (text : List ℕ) → Front (parse_leading_part text)
front text = grind (arith, short_front, front_of, long_fits)

after_slash : (room : ℕ) (bs : List ℕ) (t : Bool) → ((text : List ℕ) → Within room (parts_after room text))
    → Within (suc room) (cond t (option_and_then (λ found. option_map (λ ps. found.0 ∷ ps) (parts_after room found.1)) (parse_leading_part bs)) None)
after_slash room bs true k = grind (arith, front, option_map)
after_slash room bs false k = tt

within : (room : ℕ) (text : List ℕ) → Within room (parts_after room text)
within room [] = (omega arith, tt)
within zero (b ∷ bs) = tt
within (suc room) (b ∷ bs) = after_slash room bs (b == 47) (within room)

abbrev zero_path : Path
zero_path = record { device = 0; function = 0 } ∷ []

zero_is_path : IsPath zero_path
zero_is_path = record { some = omega arith; few = omega arith; parts = (record { device_fits = omega arith; function_fits = omega arith }, tt) }

longer : (part : Part) → IsPart part → (o : Option Path) → Within 15 o → IsPath (unwrap_or (option_map (λ ps. part ∷ ps) o) zero_path)
longer part h o w = grind (arith, zero_is_path)

some_parts : (o : Option (Part × List ℕ)) → Front o → IsPath (unwrap_or (option_and_then (λ found. option_map (λ ps. found.0 ∷ ps) (parts_after 15 found.1)) o) zero_path)
some_parts None h = zero_is_path
some_parts (Some found) h = longer found.0 h (parts_after 15 found.1) (within 15 found.1)

pub path_at_is_path : (text : List ℕ) → IsPath (path_at text)
path_at_is_path text = some_parts (parse_leading_part text) (front text)
