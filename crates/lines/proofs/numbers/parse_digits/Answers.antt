use Rattle.std.proofs.{Common.{◌≡◌, ℕ, ◌≤◌, ◌<◌, ◌+◌, ◌*◌, ◌^◌, None, Some, option_map, length, drop, get_or, arith, ap, sym, ◌∙◌}, lemmas.{Bool.Decides.nat_tests, List.{at_drop_more, at_drop_all}}}
use Rattle.model_guests.specs.Numbers.{below, digit_of, digits_from}
use Rattle.lines.proofs.Digits.{longer-None, digits_in-some}
use Rattle.lines.proofs.numbers.parse_digits.Goals as goal

pub returns-in_err-number : goal.returns-in_err-number
returns-in_err-number c =
    let ds = c.args.digits.now in
    let base = c.args.base in
    let i = c.loop-byte.byte-index in
    let n = c.loop-byte.number in
    let some : 1 ≤ length ds = grind (arith, nat_tests) in
    let digit = below base (digit_of (get_or ds i 0)) in
    let stops : None ≡ below (2 ^ 64) (option_map (λ d. n * base + d) digit) =
    sym c.in_err-number.was ∙ c.append_digit.ensures in
    c.from_residual.ensures ∙ longer-None (2 ^ 64) base n (drop (i + 1) ds) digit c.requires stops
    ∙ sym (at_drop_more (λ xs. below (2 ^ 64) (digits_from base n xs)) ds i 0 (omega arith))
    ∙ c.loop-byte.invariant.read ∙ ap (below (2 ^ 64)) (sym (digits_in-some base ds some))

below-small : (limit n : ℕ) → n < limit → Some n ≡ below limit (Some n)
below-small limit n h = grind (arith, nat_tests)

pub returns : goal.returns
returns c =
    let ds = c.args.digits.now in
    let some : 1 ≤ length ds = grind (arith, nat_tests) in
    below-small (2 ^ 64) c.loop-byte.number c.loop-byte.invariant.small
    ∙ sym (at_drop_all (λ xs. below (2 ^ 64) (digits_from c.args.base c.loop-byte.number xs)) ds c.loop-byte.byte-index
    c.loop-byte-test.false)
    ∙ c.loop-byte.invariant.read ∙ ap (below (2 ^ 64)) (sym (digits_in-some c.args.base ds some))
