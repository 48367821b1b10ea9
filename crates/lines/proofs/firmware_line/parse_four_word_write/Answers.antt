use Rattle.std.proofs.Common.{◌∙◌, rules}
use Rattle.lines.proofs.WriteForms.{write_of_iw, write_of_mw}
use Rattle.lines.proofs.firmware_line.parse_four_word_write.Goals as goal

pub returns-then-eq : goal.returns-then-eq
returns-then-eq c = c.parse_write_at.ensures ∙ write_of_iw c.args.op.now c.args.at.now c.args.width.now c.args.bits.now c.parse_port_access.ensures (search rules)

pub returns-then-eq-2 : goal.returns-then-eq-2
returns-then-eq-2 c =
    c.parse_write_at-then-eq-2.ensures ∙ write_of_mw c.args.op.now c.args.at.now c.args.width.now c.args.bits.now c.parse_memory_access.ensures (search rules) (search rules)
