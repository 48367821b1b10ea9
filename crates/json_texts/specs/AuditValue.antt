-- The problems and readiness issues of a register state as a JSON value: each with its witness, in their order. The members
-- of an object are in the order of their names.
--     path_value, path_or_null      a path; that of what is reached, null where nothing is
--     space_text      the name of a space, as in lines
--     live_bar_value      a region, with the path of its endpoint
--     agent_value      what answers an address, with its register, null of a bridge
--     bdf_value      a bus, device and function number
--     bridge_finding_value q bridge n kind      a finding of this kind, which blames a bridge for an address of a region
--     problem_value      a problem
--     problems_value, problems_json      the whole value; its text, and a line feed
--     issue_value      a readiness issue
--     readiness_value, readiness_json      problems and lacks; their text, and a line feed
use Rattle.std.specs.{Prelude.{List, [], ◌∷◌, ◌++◌, ℕ, Option, map, codes}, Option.option_map_or}
use Rattle.serde_json.specs.{Data.{Data, null, number, unsigned, string, array, object, member, no_members}, View.items_of, Written.compact_text}
use Rattle.model_registers.specs.Decoding.{Space, io, memory}
use Rattle.model_board.specs.{Paths.Path, Cycles.BusAddress}
use Rattle.model_set_up.specs.PlacedRegions.{PlacedRegion}
use Rattle.model_guests.specs.{Text.Text, PathTexts.path_text}
use Rattle.model_findings.specs.{Agents.Agent, Problems.{Problem, not_forwarded, contended, not_found}, ReadinessIssues.{ReadinessIssue, not_open, outside_apertures, prefetched_by, other_primary}}

abbrev pub natural : ℕ → Data
natural n = number (unsigned n)

abbrev pub path_value : Path → Data
path_value p = string (path_text p)

abbrev pub path_or_null : Option Path → Data
path_or_null o = option_map_or path_value o null

abbrev pub space_text : Space → Text
space_text io = codes "io"
space_text memory = codes "mem"

abbrev pub bar_index_or_null : Option ℕ → Data
bar_index_or_null o = option_map_or natural o null

abbrev pub live_bar_value : PlacedRegion → Data
live_bar_value q = object (
    member (codes "bar") (natural q.index) (
    member (codes "base") (natural q.first) (
    member (codes "path") (path_value q.path) (
    member (codes "size") (natural q.size) (
    member (codes "space") (string (space_text q.space)) no_members)))))

abbrev pub agent_value : Agent → Data
agent_value a = object (
    member (codes "bar") (bar_index_or_null a.register) (
    member (codes "path") (path_value a.path) no_members))

abbrev pub bdf_value : BusAddress → Data
bdf_value at = object (
    member (codes "bus") (natural at.bus) (
    member (codes "device") (natural at.part.device) (
    member (codes "function") (natural at.part.function) no_members)))

abbrev pub bridge_finding_value : PlacedRegion → Path → ℕ → Text → Data
bridge_finding_value q bridge n kind = object (
    member (codes "address") (natural n) (
    member (codes "bridge") (path_value bridge) (
    member (codes "region") (live_bar_value q) (
    member (codes "type") (string kind) no_members))))

abbrev pub problem_value : Problem → Data
problem_value (not_forwarded q bridge n) = bridge_finding_value q bridge n (codes "not forwarded")
problem_value (contended a b n) = object (
    member (codes "address") (natural n) (
    member (codes "agents") (array (items_of (agent_value a ∷ agent_value b ∷ []))) (
    member (codes "space") (string (space_text a.space)) (
    member (codes "type") (string (codes "contended")) no_members))))
problem_value (not_found p at instead) = object (
    member (codes "number") (bdf_value at) (
    member (codes "path") (path_value p) (
    member (codes "reached") (path_or_null instead) (
    member (codes "type") (string (codes "not found")) no_members))))

abbrev pub problems_value : List Problem → Data
problems_value ps = object (member (codes "problems") (array (items_of (map problem_value ps))) no_members)

abbrev pub problems_json : List Problem → Text
problems_json ps = compact_text (problems_value ps) ++ 10 ∷ []

abbrev pub issue_value : ReadinessIssue → Data
issue_value (not_open q) = object (
    member (codes "region") (live_bar_value q) (
    member (codes "type") (string (codes "closed")) no_members))
issue_value (outside_apertures q n) = object (
    member (codes "address") (natural n) (
    member (codes "region") (live_bar_value q) (
    member (codes "type") (string (codes "outside apertures")) no_members)))
issue_value (prefetched_by q bridge n) = bridge_finding_value q bridge n (codes "prefetched")
issue_value (other_primary p held n) = object (
    member (codes "bus") (natural n) (
    member (codes "path") (path_value p) (
    member (codes "primary") (natural held) (
    member (codes "type") (string (codes "other primary")) no_members))))

abbrev pub readiness_value : List Problem → List ReadinessIssue → Data
readiness_value ps ls = object (
    member (codes "lacks") (array (items_of (map issue_value ls))) (
    member (codes "problems") (array (items_of (map problem_value ps))) no_members))

abbrev pub readiness_json : List Problem → List ReadinessIssue → Text
readiness_json ps ls = compact_text (readiness_value ps ls) ++ 10 ∷ []
