use Rattle.std.proofs.Common.{Some, sym, ap, refl, ◌∙◌}
use Rattle.bars.specs.Kinds.{named_space}
use Rattle.host_bridge.proofs.ByIndex.{claim_stands, claim_by_path}
use Rattle.host_bridge.proofs.route.Route.claimed_bar_offset.Goals as goal

pub returns-in_err-index-clause-claim : goal.returns-in_err-index-clause-claim
returns-in_err-index-clause-claim g c =
    let first = sym c.in_ok-path.ensures ∙ ap Some (sym c.path.view_is) in
    absurd (claim_stands c.args.host.now.state.functions (named_space c.args.space) c.args.addr _ first (sym c.in_err-index.ensures.function))

pub returns-clause-claim : goal.returns-clause-claim
returns-clause-claim g c =
    let first = sym c.in_ok-path.ensures ∙ ap Some (sym c.path.view_is) in
    claim_by_path c.args.host.now.state.functions (named_space c.args.space) c.args.addr _ (record { index = c.in_ok-index.index; region = c.path.inside.region; offset = c.path.inside.offset }) first
    c.in_ok-index.ensures.function refl refl
