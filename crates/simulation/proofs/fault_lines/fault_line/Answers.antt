use Rattle.std.{proofs.Common.{ap, ◌++◌, ◌∙◌, lit<, arith}, specs.Prelude.codes}
use Rattle.simulation.proofs.FaultNumbers.{assembled}
use Rattle.simulation.proofs.fault_lines.fault_line.Goals as goal

pub returns : goal.returns
returns c = assembled c.args.fault c.number-number.result c.words.result.now _ _ _ _ _ _ _ _ _ _
    c.number-number.ensures c.words.ensures
    (c.push_str.ensures.bytes ∙ ap (λ l. l ++ codes "pciguest: fault ") c.new-line.ensures)
    (c.push.ensures.ascii (omega (arith, c.last_decimal_digit.ensures))) c.last_decimal_digit.ensures
    (c.push-2.ensures.ascii (omega (arith, c.last_decimal_digit-2.ensures))) c.last_decimal_digit-2.ensures
    (c.push-3.ensures.ascii (omega (arith, c.last_decimal_digit-3.ensures))) c.last_decimal_digit-3.ensures
    (c.push-4.ensures.ascii (lit< tt))
    c.push_str-2.ensures.bytes
    (c.push-5.ensures.ascii (lit< tt))
