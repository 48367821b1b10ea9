-- The text that explains an address or a BDF: who answers, and a line for each cause.
--     window_text, hindrance_text, cause_text, causes_text      a window, the obstacle in a bridge, a cause, and all causes of a region
--     at_reset_lines      how many regions are as at reset, in one line
--     counted, whole_text ls      some lines, with a last line that counts them
--     why_text      the lines of an address
--     why_number_text      the lines of a BDF
use Rattle.std.specs.{Prelude.{List, [], ◌∷◌, ◌++◌, ℕ, ◌==◌, if◌then◌else◌, length, map, flat_map, codes, decimal, Option, Some, None}, Option.option_map_or}
use Rattle.model_registers.specs.Decoding.{Space}
use Rattle.model_board.specs.{Paths.Path, State.BoardFunction, Windows.Window, Claims.Claim, Cycles.BusAddress}
use Rattle.model_guests.specs.{Text.{Text, text_of_lines}, Replies.hex_digits, PathTexts.{hexadecimal, part_text, path_text}}
use Rattle.model_findings.specs.AuditText.{register_text, region_text, space_text, number_text}
use Rattle.model_lines.specs.{Why.{WindowName, for_io, for_memory, for_prefetchable, NamedWindow, BlockReason, closes, misses, Cause, closed_by, stopped_at, UnansweredRegion, Forwarder, Why, why}, Ways.{Missing, no_bridge, no_function, WhyNumber, why_number}}

abbrev pub disabled_text : ℕ → Text
disabled_text command = codes "decode is disabled (Command 0x" ++ hex_digits 4 command ++ codes ")"

abbrev pub decode_text : Space → ℕ → Text
decode_text space command = space_text space ++ codes " " ++ disabled_text command

abbrev pub name_text : WindowName → Text
name_text for_io = codes "I/O"
name_text for_memory = codes "memory"
name_text for_prefetchable = codes "prefetchable"

abbrev pub range_text : Window → Text
range_text w = hexadecimal w.first ++ codes "-" ++ hexadecimal w.last

abbrev pub window_text : NamedWindow → Text
window_text w = name_text w.name ++ codes " window " ++ option_map_or range_text w.window (codes "disabled")

-- a bridge has two at most
abbrev pub windows_text : List NamedWindow → Text
windows_text [] = codes "no window"
windows_text (w ∷ []) = window_text w
windows_text (w ∷ v ∷ ws) = window_text w ++ codes ", " ++ window_text v

abbrev pub hindrance_text : Space → BlockReason → Text
hindrance_text space (closes command) = decode_text space command
hindrance_text space (misses ws) = windows_text ws

abbrev pub cause_text : Space → Cause → Text
cause_text space (closed_by command) = decode_text space command
cause_text space (stopped_at p h) = codes "bridge " ++ path_text p ++ codes " doesn't forward it: " ++ hindrance_text space h

abbrev pub more_text : Space → List Cause → Text
more_text space cs = flat_map (λ c. codes "; " ++ cause_text space c) cs

abbrev pub causes_text : Space → List Cause → Text
causes_text space [] = codes "decodes it too"
causes_text space (c ∷ cs) = cause_text space c ++ more_text space cs

abbrev pub told_text : Space → UnansweredRegion → Text
told_text space t = region_text t.region ++ codes ": " ++ causes_text space t.causes

abbrev pub at_reset_lines : ℕ → List Text
at_reset_lines n =
    if n == 0 then []
    else (decimal n ++ (if n == 1 then codes " BAR" else codes " BARs")
    ++ codes " at 0x0 with decode disabled, as at reset") ∷ []

abbrev pub claim_text : Claim → Text
claim_text c = path_text c.path ++ register_text c.index ++ codes " responds at offset " ++ hexadecimal c.offset

abbrev pub forwarder_text : Forwarder → Text
forwarder_text g = codes "bridge " ++ path_text g.path ++ codes " forwards it to bus " ++ hex_digits 2 g.bus

-- a bridge that forwards it answers on its own bus
abbrev pub no_claim_text : List Forwarder → Text
no_claim_text [] = codes "nothing responds"
no_claim_text (g ∷ gs) = codes "no BAR responds"

abbrev pub why_line : Text → Text
why_line text = codes "why: " ++ text

-- at its end a script sees the end of the reply
abbrev pub total_text : ℕ → Text
total_text n = decimal n ++ (if n == 1 then codes " line" else codes " lines")

abbrev pub counted : List Text → List Text
counted ls = ls ++ total_text (length ls) ∷ []

abbrev pub whole_text : List Text → Text
whole_text ls = text_of_lines (map why_line (counted ls))

abbrev pub why_lines : Space → ℕ → Why → List Text
why_lines space n w =
    (space_text space ++ codes " " ++ hexadecimal n ++ codes ": "
    ++ option_map_or claim_text w.answer (no_claim_text w.forwarders))
    ∷ map forwarder_text w.forwarders ++ map (told_text space) w.told ++ at_reset_lines w.at_reset

abbrev pub why_text : List BoardFunction → Space → ℕ → Text
why_text fs space n = whole_text (why_lines space n (why fs space n))

-- ---- a BDF

-- [] names bus 0
abbrev pub bus_text : Path → Text
bus_text [] = codes "on bus 00"
bus_text (p ∷ ps) = codes "behind bridge " ++ path_text (p ∷ ps)

abbrev pub missing_text : Missing → Text
missing_text (no_bridge p n) = codes "no bridge " ++ bus_text p ++ codes " claims bus " ++ hex_digits 2 n
missing_text (no_function p t) = codes "no function " ++ part_text t ++ codes " " ++ bus_text p

abbrev pub taker_text : BusAddress → Path → Text
taker_text at p = codes "bridge " ++ path_text p ++ codes " claims bus " ++ hex_digits 2 at.bus

abbrev pub missing_lines : Option Missing → List Text
missing_lines None = []
missing_lines (Some m) = missing_text m ∷ []

abbrev pub not_found_text : Path → Text
not_found_text p = path_text p ++ codes " has this BDF but isn't reached"

abbrev pub number_lines : BusAddress → WhyNumber → List Text
number_lines at w =
    (number_text at ++ codes " reaches " ++ option_map_or path_text w.reached (codes "nothing"))
    ∷ map (taker_text at) w.bridges ++ missing_lines w.missing ++ map not_found_text w.not_found

abbrev pub why_number_text : List BoardFunction → BusAddress → Text
why_number_text fs at = whole_text (number_lines at (why_number fs at))
