use Rattle.std.proofs.Common.{◌∙◌, rules}
use Rattle.lines.proofs.WriteForms.{write_of_cw}
use Rattle.lines.proofs.firmware_line.parse_five_word_write.Goals as goal

pub returns-then-eq : goal.returns-then-eq
returns-then-eq c = c.parse_write_at.ensures ∙ write_of_cw c.args.op.now c.args.bdf.now c.args.width.now c.args.bits.now c.args.off.now c.parse_config_access.ensures (search rules)
