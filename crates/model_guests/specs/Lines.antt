-- The meaning of a script's lines.
--     move_of names ws      parses a move from the words of a host's line; both guests exist
--     Meaning, meaning names line      an event of a guest, a read or a move by the host, a refusal, or nothing
use Rattle.std.specs.{Prelude.{List, [], ◌∷◌, ℕ, ◌&&◌, if◌then◌else◌, Option, Some, None, codes}, Str.bytes_eq}
use Rattle.model_guests.specs.{Accesses.Event, Text.{Text, words}, Numbers.number_of, Grammar.{given, on_word, event_of, HostRead, host_read_of, Who, guest, host, nobody, has_name, is_comment, is_long}, Guests.Move}

abbrev pub between_guests : List Text → Move → Option Move
between_guests names m = if has_name names m.from && has_name names m.to then Some m else None

-- move A S B T
abbrev pub move_of : List Text → List Text → Option Move
move_of names (op ∷ a ∷ s ∷ b ∷ t ∷ []) =
    on_word op (codes "move") (given (number_of s) (λ slot. given (number_of t) (λ target.
    between_guests names (record { from = a; slot = slot; to = b; target = target }))))
move_of names _ = None

pub data Meaning : Type 0 where
  nothing : Meaning
  guest_event : Text → Event → Meaning
  host_read : HostRead → Meaning
  host_move : Move → Meaning
  bad : Who → ℕ → Meaning

abbrev pub event_or_bad : Text → Option Event → Meaning
event_or_bad name None = bad (guest name) 401
event_or_bad name (Some e) = guest_event name e

abbrev pub read_or_move : Option HostRead → Option Move → Meaning
read_or_move (Some r) m = host_read r
read_or_move None (Some m) = host_move m
read_or_move None None = bad host 401

-- by the first word: a comment, `host`, a guest's name, or nobody's
abbrev pub meaning_of_words : List Text → List Text → Meaning
meaning_of_words names [] = nothing
meaning_of_words names (w ∷ ws) =
    if is_comment w then nothing
    else (if bytes_eq w (codes "host") then read_or_move (host_read_of ws) (move_of names ws)
    else (if has_name names w then event_or_bad w (event_of ws) else bad nobody 402))

-- a long line is bad, whatever its words are
abbrev pub meaning : List Text → Text → Meaning
meaning names line = if is_long line then bad nobody 403 else meaning_of_words names (words line)
