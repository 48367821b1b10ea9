-- Firmware lines: the meaning and output of each, and the board after it.
--     host_access_of      parses the words of a line after `host`
--     Meaning, meaning      an access, a refusal, or nothing
--     text_by s m      the output of a line with this meaning
--     line_output, after_line      the output of a line, and the board after it
--     board_protocol      both as a protocol, to run several lines
use Rattle.std.specs.{Prelude.{List, [], ◌∷◌, ℕ, ◌^◌, if◌then◌else◌, Option, None, Some, codes, option_map, option_and_then}, Str.bytes_eq}
use Rattle.lists.specs.Elements.{first_of_two}
use Rattle.model_board.specs.{Cycles.BusAddress, State.State}
use Rattle.model_guests.specs.{Accesses.{Op, reads, writes, refused}, Text.{Text, words, text_of_lines}, Numbers.{below, number_of}, Grammar.{given, on_word, HostRead, host_configuration, host_port, host_address, host_at, bus_address, host_read_of, Who, host, nobody, is_comment, is_long}, Replies.line_text, LineRuns.Protocol}
use Rattle.model_lines.specs.HostAccesses.{HostAccess, answer, after_access}

-- an access with the target and width of a read
abbrev pub done_at : Op → Option HostRead → Option HostAccess
done_at op place = option_map (λ (r : HostRead). record { target = r.target; width = r.width; op = op }) place

-- BB:DD.F OFF W
abbrev pub config_place : Text → Text → Text → Option HostRead
config_place at off w = option_and_then (λ (b : BusAddress). host_at (host_configuration b) off w) (bus_address at)

-- a value of 32 bits
abbrev pub written_at : Text → Option HostRead → Option HostAccess
written_at v place = given (below (2 ^ 32) (number_of v)) (λ n. done_at (writes n) place)

-- host iw PORT W V, host mw ADDR W V; host cw BB:DD.F OFF W V
abbrev pub host_write_of : List Text → Option HostAccess
host_write_of (op ∷ a ∷ w ∷ v ∷ []) =
    if bytes_eq op (codes "iw") then written_at v (host_at host_port a w)
    else on_word op (codes "mw") (written_at v (host_at host_address a w))
host_write_of (op ∷ a ∷ b ∷ w ∷ v ∷ []) = on_word op (codes "cw") (written_at v (config_place a b w))
host_write_of _ = None

-- the host's reads in scripts, or one of these writes
abbrev pub host_access_of : List Text → Option HostAccess
host_access_of ws = first_of_two (done_at reads (host_read_of ws)) (host_write_of ws)

pub data Meaning : Type 0 where
  nothing : Meaning
  asked : HostAccess → Meaning
  bad : Who → ℕ → Meaning

abbrev pub access_or_bad : Option HostAccess → Meaning
access_or_bad None = bad host 401
access_or_bad (Some a) = asked a

-- by the first word: a comment, `host`, or an unknown name, because there are no guests
abbrev pub meaning_of_words : List Text → Meaning
meaning_of_words [] = nothing
meaning_of_words (w ∷ ws) =
    if is_comment w then nothing
    else (if bytes_eq w (codes "host") then access_or_bad (host_access_of ws) else bad nobody 402)

-- a long line is bad, whatever its words are
abbrev pub meaning : Text → Meaning
meaning line = if is_long line then bad nobody 403 else meaning_of_words (words line)

-- one line or none
abbrev pub written_by : State → Meaning → List Text
written_by s nothing = []
written_by s (asked a) = line_text host (answer s a) ∷ []
written_by s (bad who n) = line_text who (refused n) ∷ []

abbrev pub after_meaning : State → Meaning → State
after_meaning s nothing = s
after_meaning s (asked a) = after_access s a
after_meaning s (bad who n) = s

abbrev pub text_by : State → Meaning → Text
text_by s m = text_of_lines (written_by s m)

abbrev pub line_output : State → Text → Text
line_output s line = text_by s (meaning line)

abbrev pub after_line : State → Text → State
after_line s line = after_meaning s (meaning line)

abbrev pub board_protocol : Protocol State
board_protocol = record { writes = line_output; next = after_line }
