-- The guests of a world over a board that was given: lawful, alone with what they have, and as after set-up.
use Rattle.std.proofs.Common.{arith, rules}
use Rattle.model_guests.{specs.{Text.{Text, lines}, Guests.guests_at_first, World.World, WorldNow.WorldNow, Inputs.inputs, Isolation.{IsDecidedBy, AgreeOn}}, proofs.Isolation.isolated_over}
use Rattle.model_handoff.{specs.{AfterSetUp.world_at_first, Handoffs.taken_over}, proofs.{AfterSetUp.set_up_isolates, Alike.taken_lawful, Keeping.keeps_problems, Kept.lawful_along}}
use Rattle.model_findings.proofs.Witnesses.{problems_are_real_and_complete}
use Rattle.model_lines.specs.GivenLaws.{AreAlike, GivenIsolated, GivenAlike, GivenAsSetUp, GivenStays, OrderlyStays}

pub given_isolated : GivenIsolated
given_isolated w s m given name script there = grind (arith, isolated_over w given.lawful.guests.lawful_names (taken_over w s) name script there)

-- what the same inputs over the same functions decide
alike : (name : Text) (v w : World) (m n : WorldNow) (one other : Text) → AgreeOn name v w one other
    → IsDecidedBy (inputs (guests_at_first v) name (lines one)) v m name one → IsDecidedBy (inputs (guests_at_first w) name (lines other)) w n name other
    → AreAlike name m n one other
alike name v w m n one other agree first second = grind arith

pub given_alike : GivenAlike
given_alike v s m a w t n b name one other agree = search (rules, alike, given_isolated)

pub given_as_set_up : GivenAsSetUp
given_as_set_up w s m given name script there =
    grind (arith, alike name w w m (world_at_first w) script script, given_isolated w s m given name script there, set_up_isolates w given.lawful.guests.lawful_names name script there)

pub given_stays : GivenStays
given_stays w s m given ls = grind (arith, taken_lawful w s given.handoff given.board given.lawful.guests given.can, lawful_along m ls)

pub orderly_stays : OrderlyStays
orderly_stays m lawful = grind (arith, keeps_problems m.handoff lawful.handoff.board m.guests lawful.seated, problems_are_real_and_complete m.handoff.functions)
