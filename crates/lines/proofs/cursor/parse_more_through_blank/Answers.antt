use Rattle.std.proofs.Common.{◌^◌, ap, ◌∙◌, arith}
use Rattle.model_guests.specs.Numbers.{below}
use Rattle.lines.proofs.Cursors.{no_longer, one_longer}
use Rattle.lines.proofs.cursor.parse_more_through_blank.Goals as goal

pub returns-in_default : goal.returns-in_default
returns-in_default c = grind (arith, no_longer)

pub loop-i-preserved : goal.loop-i-preserved
loop-i-preserved c =
    let more = one_longer (2 ^ 64) c.args.base c.loop-i.number c.in-Some.longer c.loop-i.i c.args.text.now (omega arith) c.in-Some.ensures in
    record {
      read = ap (below (2 ^ 64)) more.read ∙ c.loop-i.invariant.read;
      after = more.after ∙ c.loop-i.invariant.after;
      small = more.small;
    }
