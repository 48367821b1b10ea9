-- Cut into lines, a text of lines that were put together is these lines again: no reply holds a line feed.
use Rattle.std.{proofs.{Common.{◌≡◌, ℕ, zero, suc, Bool, true, false, not, cond, List, [], ◌∷◌, ◌++◌, ◌/◌, ◌%◌, refl, ap, arith, eqb}, lemmas.Bool.{Decides.nat_tests, and_from, not-true}}, specs.{Prelude.decimal, Fmt.{digits, digit_glyph}}}
use Rattle.lists.{specs.Elements.Each, proofs.Tests.{left_true, right_true}}
use Rattle.model_guests.{specs.{Accesses.Reply, Text.{Text, lines, text_of_lines}, Replies.{hex_digits, who_text, line_text}, Grammar.Who}, proofs.Names.lacks}

lacks_append : (b : ℕ) (s t : Text) → lacks b s ≡ true → lacks b t ≡ true → lacks b (s ++ t) ≡ true
lacks_append b [] t h k = k
lacks_append b (c ∷ cs) t h k = grind (arith, lacks_append b cs t, and_from, left_true, right_true)

-- ---- cutting what was put together

-- a line before an LF is the first piece
pub first_line : (l rest : Text) → lacks 10 l ≡ true → lines (l ++ 10 ∷ rest) ≡ l ∷ lines rest
first_line [] rest h = refl
first_line (c ∷ cs) rest h = grind (arith, not-true, left_true, first_line cs rest, right_true)

pub one_more : (l rest : Text) → (l ++ 10 ∷ []) ++ rest ≡ l ++ 10 ∷ rest
one_more [] rest = refl
one_more (c ∷ cs) rest = ap (λ t. c ∷ t) (one_more cs rest)

pub lines_again : (ls : List Text) → Each (λ l. lacks 10 l ≡ true) ls → lines (text_of_lines ls) ≡ ls
lines_again [] all = refl
lines_again (l ∷ ls) all = grind (arith, lines_again ls, one_more, first_line)

-- ---- replies

glyph : (d : ℕ) → not (eqb (digit_glyph false d) 10) ≡ true
glyph d = grind (arith, nat_tests)

hex_one_line : (k n : ℕ) → lacks 10 (hex_digits k n) ≡ true
hex_one_line zero n = refl
hex_one_line (suc k) n = lacks_append 10 (hex_digits k (n / 16)) (digit_glyph false (n % 16) ∷ []) (hex_one_line k (n / 16)) (and_from (not (eqb (digit_glyph false (n % 16)) 10)) true (glyph (n % 16)) refl)

either : (b : Bool) (s t : Text) → lacks 10 s ≡ true → lacks 10 t ≡ true → lacks 10 (cond b s t) ≡ true
either b s t h k = grind arith

decimal_one_line : (n : ℕ) → lacks 10 (decimal n) ≡ true
unfolding digits
decimal_one_line n = grind (arith, and_from, glyph, either)

-- ---- lines

pub line_one_line : (who : Who) (r : Reply) → lacks 10 (who_text who) ≡ true → lacks 10 (line_text who r) ≡ true
line_one_line who r h = grind (arith, lacks_append, hex_one_line, decimal_one_line, either)
