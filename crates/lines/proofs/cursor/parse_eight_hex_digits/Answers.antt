use Rattle.std.proofs.Common.{◌≡◌, ℕ, ◌+◌, ◌*◌, ◌<◌, ◌^◌, false, Some, option_map, drop, get_or, ap, sym, subst, ◌∙◌, arith}
use Rattle.model_guests.specs.{Text.{Text, is_blank}, Numbers.{below, digit_of}}
use Rattle.lines.{specs.Cursors.IsRead, proofs.{Splitting.rest_is, Cursors.{one_longer, no_blank, digits_in-before}}}
use Rattle.lines.proofs.cursor.parse_eight_hex_digits.Goals as goal

-- the digit at the front is no blank, and the others change nothing
word_begins : (t : Text) (i n m : ℕ)
    → Some m ≡ below (2 ^ 64) (option_map (λ d. n * 16 + d) (below 16 (digit_of (get_or t i 0))))
    → (0 < i → is_blank (get_or t 0 0) ≡ false) → is_blank (get_or t 0 0) ≡ false
word_begins t i n m e before = grind (arith, no_blank)

pub loop-i-preserved : goal.loop-i-preserved
loop-i-preserved c =
    let step = sym c.in_ok-number.was ∙ c.append_digit.ensures in
    let more = one_longer (2 ^ 64) 16 c.loop-i.number c.in_ok-number.number c.loop-i.i c.args.text.now (omega arith) step in
    record {
      read = record {
        read = ap (below (2 ^ 64)) more.read ∙ c.loop-i.invariant.read.read;
        after = more.after ∙ c.loop-i.invariant.read.after;
      };
      word = λ h. word_begins c.args.text.now c.loop-i.i c.loop-i.number c.in_ok-number.number step c.loop-i.invariant.word;
    }

pub returns-clause-read : goal.returns-clause-read
returns-clause-read c =
    let t = c.args.text.now in
    let all : c.loop-i.i ≡ 8 = omega (arith, c.loop-i-test.false) in
    rw rest_is (subst (λ (k : ℕ). IsRead 16 t c.loop-i.number (drop k t)) all c.loop-i.invariant.read)

pub returns-clause-some : goal.returns-clause-some
returns-clause-some c = grind (arith, digits_in-before)
