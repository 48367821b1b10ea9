use Rattle.std.proofs.{Common.{append-nil, arith}, lemmas.List.map-append}
use Rattle.findings.proofs.StoppedFrom.{map_reverse}
use Rattle.findings.proofs.stopping.causes_of.Goals as goal

pub returns : goal.returns
returns c = grind (arith, map_reverse, map-append, append-nil)
