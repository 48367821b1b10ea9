use Rattle.std.proofs.Common.{subst}
use Rattle.window_packing.{specs.Readies.IsReady, proofs.SetUps.own_claims}
use Rattle.window_packing.proofs.ready.Ready.into_parts.Goals as goal

pub returns-clause-claims : goal.returns-clause-claims
returns-clause-claims c = own_claims c.args.self (subst IsReady c.self.view_is c.self.invariant)
