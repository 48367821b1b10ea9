use Rattle.std.proofs.Common.{arith}
use Rattle.bars.specs.Kinds.{named_space}
use Rattle.findings.proofs.HeldRegions.{why_by_rows}
use Rattle.findings.proofs.address_why.why_address.Goals as goal

pub returns : goal.returns
returns c =
    why_by_rows c.args.host.now.state.functions (named_space c.args.space) c.args.addr c.claimant.result c.in_ok-held.held.items _ _ _
    (grind arith) (grind arith) (grind arith) (grind arith) (grind arith)
