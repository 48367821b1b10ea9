use Rattle.std.proofs.{Common.{◌≡◌, ◌<◌, ◌^◌, ℕ, Ok, arith}, lemmas.{Grind.common_steps, Str.Pattern.strip_prefix_char}}
use Rattle.diagnostics.{specs.Marks.mark, proofs.MarkTexts.{begins, read_back}}
use Rattle.diagnostics.proofs.marking.parse_mark_start.Goals as goal
use Rattle.diagnostics.proofs.marking.parse_mark_start.Goals.{After-parse}

pub returns-in_err-digits : goal.returns-in_err-digits
returns-in_err-digits c =
    let parts = strip_prefix_char 64 c.args.text.now c.strip_prefix.result c.strip_prefix.ensures.cases (omega arith) in
    λ start small is. absurd (begins start c.args.text.now is (rw c.in_err-digits.was at parts))

back : (c : After-parse) (start : ℕ) → start < 2 ^ 64 → c.args.text.now ≡ mark start → c.parse.result ≡ Ok start
back c start small is =
    let parts = strip_prefix_char 64 c.args.text.now c.strip_prefix.result c.strip_prefix.ensures.cases (omega arith) in
    read_back start c.args.text.now c.in_ok-digits.digits.now c.parse.result small is (rw c.in_ok-digits.was at parts) c.parse.ensures.value.0

pub returns-in_err-start : goal.returns-in_err-start
returns-in_err-start c = λ start small is. let read = back (goal.at.returns-in_err-start c).After-parse start small is in grind (arith, common_steps)

pub returns : goal.returns
returns c = λ start small is. let read = back (goal.at.returns c).After-parse start small is in grind (arith, common_steps)
