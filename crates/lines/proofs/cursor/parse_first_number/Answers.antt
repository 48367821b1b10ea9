use Rattle.std.proofs.Common.{◌∙◌, ap, sym, arith}
use Rattle.lines.{specs.Cursors.numbered, proofs.{Splitting.rest_is, Cursors.{numbered-hexadecimal, numbered-decimal, numbered-read}}}
use Rattle.lines.proofs.cursor.parse_first_number.Goals as goal

pub returns-then-starts_with_hex_prefix : goal.returns-then-starts_with_hex_prefix
returns-then-starts_with_hex_prefix c =
    let word = c.trim_leading_blanks-word.result.now in
    let known = sym c.starts_with_hex_prefix.ensures ∙ c.if-starts_with_hex_prefix.true in
    numbered-read c.parse_digits_through_blank.result _ _ _
    (ap numbered (sym c.trim_leading_blanks-word.ensures.words) ∙ numbered-hexadecimal word c.trim_leading_blanks-word.ensures.start known)
    (rw rest_is at c.parse_digits_through_blank.ensures)

pub returns-else-starts_with_hex_prefix : goal.returns-else-starts_with_hex_prefix
returns-else-starts_with_hex_prefix c = grind (arith, numbered-read, numbered-decimal)
