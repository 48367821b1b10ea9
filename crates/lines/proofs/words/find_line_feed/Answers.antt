use Rattle.std.proofs.Common.{◌==◌}
use Rattle.lines.proofs.LineEnds.{first_is_position}
use Rattle.lines.proofs.words.find_line_feed.Goals as goal

pub returns : goal.returns
returns c = first_is_position (λ b. b == 10) c.args.script.now c.memchr.result c.memchr.ensures
