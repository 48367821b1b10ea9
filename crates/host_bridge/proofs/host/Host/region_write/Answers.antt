use Rattle.std.proofs.Common.{refl, sym}
use Rattle.host_bridge.proofs.{Lent.distinct_paths, ClaimedAccesses.{lies_in_word, number_written}, ByIndex.{located, some_nth, endpoint_there_nth, with_nth}}
use Rattle.host_bridge.proofs.host.Host.region_write.Goals as goal

pub enables_of-enables-requires : goal.enables_of-enables-requires
enables_of-enables-requires c =
    let lands = c.requires.landing in
    let is = located c.args.self.now c.args.self.now lands.space lands.address c.args.to refl lands.claim lands.within in
    lies_in_word _ _ _ _ _ is.claimed c.requires.width lands.aligned

pub unreachable-requires : goal.unreachable-requires
unreachable-requires c =
    let lands = c.requires.landing in
    let is = located _ _ lands.space lands.address c.args.to c.self.view_is lands.claim lands.within in
    some_nth _ _ _ _ is (distinct_paths _ c.endpoint_nth.ensures.in_order) (sym c.in-None.ensures.value)

pub returns : goal.returns
returns c =
    let lands = c.requires.landing in
    let is = located _ _ lands.space lands.address c.args.to c.self.view_is lands.claim lands.within in
    let within = lies_in_word _ _ _ _ _ is.claimed c.requires.width lands.aligned in
    let distinct = distinct_paths _ c.endpoint_nth.ensures.in_order in
    let there = endpoint_there_nth _ _ _ _ _ is distinct (sym c.in-Some.ensures.value) in
    let written = number_written _ _ _ _ _ is.claimed _ _ _ _ _ distinct within there c.enables_of-enables.ensures c.to_lanes-data.ensures c.write.ensures in
    rw (lands.claim, ← c.self.view_is, with_nth is.function c.write.new.self c.self.inside.root c.args.to.index distinct is.there, written) refl
