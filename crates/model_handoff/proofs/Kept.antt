-- Along a script guests stay seated and served.
use Rattle.std.proofs.Common.{[], ◌∷◌, arith}
use Rattle.model_board.specs.AtReset.{board_at}
use Rattle.model_guests.{specs.{Lines.{Meaning, nothing, guest_event, host_read, host_move, bad, meaning}, WorldNow.{WorldNow, names_now, guests_after, after_meaning, after_line}}, proofs.{SeatedFirst.seated_at_first, Along.seated_meaning}}
use Rattle.model_handoff.{specs.{Regions.AreServed, Kept.{IsLawfulOver, LawfulAtFirst, LawfulAfter, LawfulAlong}}, proofs.Served.{served_at_first, served_after_events, served_after_moves}}

pub lawful_at_first : LawfulAtFirst
lawful_at_first w s handoff same guests can = grind (arith, seated_at_first, served_at_first)

pub lawful_after_meaning : (w : WorldNow) (m : Meaning) → IsLawfulOver w → IsLawfulOver (after_meaning w m)
lawful_after_meaning w m h = grind (arith, seated_meaning (board_at w.handoff.functions) w.guests m h.seated, served, served m)
  where
    served : (m : Meaning) → AreServed w.handoff (guests_after w.guests m)
    served nothing = h.served
    served (guest_event name e) = served_after_events w.handoff w.guests h.served name e
    served (host_read r) = h.served
    served (host_move m) = served_after_moves w.handoff w.guests h.served m
    served (bad who n) = h.served

pub lawful_after : LawfulAfter
lawful_after w line h = lawful_after_meaning w (meaning (names_now w) line) h

pub lawful_along : LawfulAlong
lawful_along w [] h = h
lawful_along w (l ∷ ls) h = lawful_along (after_line w l) ls (lawful_after w l h)
