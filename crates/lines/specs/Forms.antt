-- What a guest's line asks, in the words of guests' definitions.
--     event_asked      an access or a raise
--     Placed, placed space ws      where an access goes, by the letter of its space, with the words after it
--     Operated, operated kind ws      what it does, by the letter of its kind, with the words after it
--     accessed space kind ws      an access
use Rattle.std.specs.Prelude.{ℕ, ◌^◌, ◌==◌, if◌then◌else◌, List, [], ◌∷◌, Option, None, Some, option_map, option_and_then}
use Rattle.model_guests.specs.{Accesses.{Event, access, raises, Target, configuration, port, address, Op, reads, writes}, Text.Text, Numbers.below}
use Rattle.lines.specs.{Cursors.{Numbered, numbered}, declared.forms.GuestRequest.GuestRequest}
use Rattle.accesses.specs.Accesses.{access_of, part_of}
use Rattle.lines.specs.declared.forms.GuestRequest.TheVariants as asked

abbrev pub event_asked : GuestRequest → Event
event_asked (asked.Access a) = access (access_of a)
event_asked (asked.Raise slot place off mask) =
    raises (record { slot = slot; part = part_of place; offset = off; mask = mask })

pub record Placed : Type 0 where
  pub target : Target
  pub rest : List Text

-- m ADDR, i PORT, c SLOT OFF
abbrev pub placed : ℕ → List Text → Option Placed
placed space ws =
    if space == 109
    then option_map (λ (a : Numbered). record { target = address a.number; rest = a.rest }) (numbered ws)
    else (if space == 105
    then option_map (λ (a : Numbered). record { target = port a.number; rest = a.rest }) (numbered ws)
    else (if space == 99
    then option_and_then (λ (s : Numbered). option_map (λ (o : Numbered).
    record { target = configuration s.number o.number; rest = o.rest }) (numbered s.rest)) (numbered ws)
    else None))

-- what is done, with the words after it
pub record Operated : Type 0 where
  pub op : Op
  pub rest : List Text

-- by the letter of a kind: r has no value, w V
abbrev pub operated : ℕ → List Text → Option Operated
operated kind ws =
    if kind == 114 then Some (record { op = reads; rest = ws })
    else (if kind == 119 then option_and_then (λ (v : Numbered). option_map (λ (n : ℕ).
    record { op = writes n; rest = v.rest }) (below (2 ^ 32) (Some v.number))) (numbered ws)
    else None)

-- no word is left over
abbrev pub ended : List Text → Event → Option Event
ended [] e = Some e
ended (w ∷ ws) e = None

-- an access by the letters of its space and of its kind: a place, a width, and a value where there is one
abbrev pub accessed : ℕ → ℕ → List Text → Option Event
accessed space kind ws =
    option_and_then (λ (p : Placed). option_and_then (λ (w : Numbered). option_and_then (λ (o : Operated).
    ended o.rest (access (record { target = p.target; width = w.number; op = o.op })))
    (operated kind w.rest)) (numbered p.rest)) (placed space ws)
