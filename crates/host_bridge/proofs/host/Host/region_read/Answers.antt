use Rattle.std.proofs.Common.{◌∙◌, refl, ap, sym, rules}
use Rattle.model_board.specs.{Claims.first_claim, Ports.claim_reply}
use Rattle.host_bridge.{specs.HostState.HostState, proofs.{Lent.distinct_paths, ClaimedAccesses.{lies_in_word, number_read}, ByIndex.{located, some_nth, endpoint_there_nth, kept_nth}}}
use Rattle.host_bridge.proofs.host.Host.region_read.Goals as goal

pub enables_of-enables-requires : goal.enables_of-enables-requires
enables_of-enables-requires c =
    let lands = c.requires.landing in
    let is = located c.args.self.now c.args.self.now lands.space lands.address c.args.from refl lands.claim lands.within in
    lies_in_word _ _ _ _ _ is.claimed c.requires.width lands.aligned

pub unreachable-requires : goal.unreachable-requires
unreachable-requires c =
    let lands = c.requires.landing in
    let is = located _ _ lands.space lands.address c.args.from c.self.view_is lands.claim lands.within in
    some_nth _ _ _ _ is (distinct_paths _ c.endpoint_nth.ensures.in_order) (sym c.in-None.ensures.value)

pub returns-clause-value : goal.returns-clause-value
returns-clause-value c =
    let lands = c.requires.landing in
    let is = located _ _ lands.space lands.address c.args.from c.self.view_is lands.claim lands.within in
    let within = lies_in_word _ _ _ _ _ is.claimed c.requires.width lands.aligned in
    let there = endpoint_there_nth _ _ _ _ _ is (distinct_paths _ c.endpoint_nth.ensures.in_order) (sym c.in-Some.ensures.value) in
    number_read _ _ _ _ _ is.claimed _ _ _ _ within there c.enables_of-enables.ensures c.read.ensures c.shift_lanes_down.ensures
    ∙ ap (λ (h : HostState). claim_reply h.state.functions c.args.width (first_claim h.state.functions lands.space lands.address)) c.self.view_is
    ∙ ap (claim_reply c.args.self.now.state.functions c.args.width) (sym lands.claim)

pub returns-clause-after : goal.returns-clause-after
returns-clause-after c = search (rules, distinct_paths, kept_nth)
