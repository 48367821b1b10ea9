-- The text of an audit: a line for each problem, in the order of the problems, and a last line with their number.
--     region_text, agent_text      a region by its path, register and address; an agent by its path, and its register
--     space_text      the name of a space
--     number_text at      BB:DD.F, the BDF of the configuration cycles that look for a function
--     problem_text      a problem with its witness
--     total_text n      how many problems there are
--     audit_text ps, audit fs      the whole text of some problems, and of a register state
use Rattle.std.specs.{Prelude.{List, [], ◌∷◌, ◌++◌, ℕ, ◌==◌, if◌then◌else◌, map, length, codes, decimal}, Option.option_map_or}
use Rattle.model_registers.specs.Decoding.{Space, io, memory}
use Rattle.model_board.specs.{State.BoardFunction, Cycles.BusAddress}
use Rattle.model_set_up.specs.PlacedRegions.{PlacedRegion}
use Rattle.model_guests.specs.{Text.{Text, text_of_lines}, Replies.hex_digits, PathTexts.{hexadecimal, path_text}}
use Rattle.model_findings.specs.{Agents.Agent, Problems.{Problem, not_forwarded, contended, not_found, problems}}

abbrev pub register_text : ℕ → Text
register_text n = codes " bar" ++ decimal n

abbrev pub region_text : PlacedRegion → Text
region_text q =
    path_text q.path ++ register_text q.index ++ codes " at " ++ hexadecimal q.first ++ codes " size "
    ++ hexadecimal q.size

-- a bridge has no register
abbrev pub agent_text : Agent → Text
agent_text a = path_text a.path ++ option_map_or register_text a.register []

abbrev pub space_text : Space → Text
space_text io = codes "I/O"
space_text memory = codes "memory"

abbrev pub number_text : BusAddress → Text
number_text at =
    hex_digits 2 at.bus ++ codes ":" ++ hex_digits 2 at.part.device ++ codes "." ++ decimal at.part.function

abbrev pub problem_text : Problem → Text
problem_text (not_forwarded q bridge n) =
    region_text q ++ codes ": " ++ hexadecimal n ++ codes " is not forwarded by bridge " ++ path_text bridge
problem_text (contended a b n) =
    agent_text a ++ codes " and " ++ agent_text b ++ codes ": address conflict at " ++ space_text a.space ++ codes " "
    ++ hexadecimal n
problem_text (not_found p at instead) =
    path_text p ++ codes ": a configuration cycle to " ++ number_text at ++ codes " reaches "
    ++ option_map_or path_text instead (codes "nothing")

abbrev pub total_text : ℕ → Text
total_text n =
    if n == 0 then codes "ok" else decimal n ++ (if n == 1 then codes " problem" else codes " problems")

abbrev pub audit_line : Text → Text
audit_line text = codes "audit: " ++ text

abbrev pub audit_text : List Problem → Text
audit_text ps =
    text_of_lines (map (λ p. audit_line (problem_text p)) ps ++ audit_line (total_text (length ps)) ∷ [])

abbrev pub audit : List BoardFunction → Text
audit fs = audit_text (problems fs)
