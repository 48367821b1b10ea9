-- The explanation of an address, a port or a BDF as a JSON value, in the order of its lines. The members of an object are
-- in the order of their names.
--     window_or_null      the addresses of a window, null where it is shut
--     window_value, cause_value      a window; what keeps a region from answering
--     told_value, forwarder_value, claim_value      a region with its causes, a bridge that forwards, and what answers
--     address_explanation_value      of an address
--     missing_value, bdf_explanation_value      what is missing where a cycle ends, behind a bridge or, by null, on bus 0; of a number
--     port_use_or_null      what the latch makes of a port, null where it makes nothing of it
--     explanation_json u found      what is found beside that; its text, and a line feed
--     port_explanation_json s n u, host_explanation_json s t      of a port, of which the latch makes this; and of any place
use Rattle.std.specs.{Prelude.{[], ◌∷◌, ℕ, map, codes, Option}, Option.option_map_or}
use Rattle.serde_json.specs.Data.{Data, null, string, object, member, no_members}
use Rattle.model_registers.specs.Decoding.{io, memory}
use Rattle.model_board.specs.{Paths.Path, State.State, Windows.Window, Claims.Claim}
use Rattle.model_guests.specs.{Text.Text, Grammar.{HostTarget, host_configuration, host_port, host_address}}
use Rattle.model_lines.specs.{Why.{WindowName, for_io, for_memory, for_prefetchable, NamedWindow, closes, misses, Cause, closed_by, stopped_at, UnansweredRegion, Forwarder, Why, why}, Ways.{Missing, no_bridge, no_function, WhyNumber, why_number}, WhyPorts.{PortUse, holds_latch, shows_data, hides_data, like_others, port_use}}
use Rattle.json_texts.specs.{ReportValue.{array_of, range_value, value_line}, AuditValue.{natural, path_value, path_or_null, live_bar_value, bdf_value}}

-- ---- an address

abbrev pub name_text : WindowName → Text
name_text for_io = codes "io"
name_text for_memory = codes "mem"
name_text for_prefetchable = codes "prefetchable"

abbrev pub window_or_null : Option Window → Data
window_or_null w = option_map_or (λ (r : Window). range_value r.first r.last) w null

abbrev pub window_value : NamedWindow → Data
window_value w = object (
    member (codes "range") (window_or_null w.window) (
    member (codes "space") (string (name_text w.name)) no_members))

abbrev pub cause_value : Cause → Data
cause_value (closed_by command) = object (
    member (codes "command") (natural command) (
    member (codes "type") (string (codes "closed")) no_members))
cause_value (stopped_at p (closes command)) = object (
    member (codes "bridge") (path_value p) (
    member (codes "command") (natural command) (
    member (codes "type") (string (codes "bridge closed")) no_members)))
cause_value (stopped_at p (misses ws)) = object (
    member (codes "bridge") (path_value p) (
    member (codes "type") (string (codes "outside windows")) (
    member (codes "windows") (array_of (map window_value ws)) no_members)))

abbrev pub told_value : UnansweredRegion → Data
told_value t = object (
    member (codes "causes") (array_of (map cause_value t.causes)) (
    member (codes "region") (live_bar_value t.region) no_members))

abbrev pub forwarder_value : Forwarder → Data
forwarder_value g = object (
    member (codes "bus") (natural g.bus) (
    member (codes "path") (path_value g.path) no_members))

abbrev pub claim_value : Claim → Data
claim_value c = object (
    member (codes "bar") (natural c.index) (
    member (codes "offset") (natural c.offset) (
    member (codes "path") (path_value c.path) no_members)))

abbrev pub address_explanation_value : Why → Data
address_explanation_value w = object (
    member (codes "answer") (option_map_or claim_value w.answer null) (
    member (codes "at_reset") (natural w.at_reset) (
    member (codes "forwards") (array_of (map forwarder_value w.forwarders)) (
    member (codes "regions") (array_of (map told_value w.told)) no_members))))

-- ---- a configuration number

-- [] names bus 0
abbrev pub bridge_path_or_null : Path → Data
bridge_path_or_null [] = null
bridge_path_or_null (p ∷ ps) = path_value (p ∷ ps)

abbrev pub missing_value : Missing → Data
missing_value (no_bridge p n) = object (
    member (codes "behind") (bridge_path_or_null p) (
    member (codes "bus") (natural n) no_members))
missing_value (no_function p t) = object (
    member (codes "behind") (bridge_path_or_null p) (
    member (codes "device") (natural t.device) (
    member (codes "function") (natural t.function) no_members)))

abbrev pub bdf_explanation_value : WhyNumber → Data
bdf_explanation_value w = object (
    member (codes "missing") (option_map_or missing_value w.missing null) (
    member (codes "not_found") (array_of (map path_value w.not_found)) (
    member (codes "reached") (path_or_null w.reached) (
    member (codes "takers") (array_of (map path_value w.bridges)) no_members))))

-- ---- the whole

abbrev pub port_use_or_null : PortUse → Data
port_use_or_null holds_latch = object (member (codes "type") (string (codes "held")) no_members)
port_use_or_null (shows_data at off) = object (
    member (codes "number") (bdf_value at) (
    member (codes "offset") (natural off) (
    member (codes "type") (string (codes "selected")) no_members)))
port_use_or_null hides_data = object (member (codes "type") (string (codes "not enabled")) no_members)
port_use_or_null like_others = null

abbrev pub explanation_value : PortUse → Data → Data
explanation_value u found = object (
    member (codes "found") found (
    member (codes "latch") (port_use_or_null u) no_members))

abbrev pub explanation_json : PortUse → Data → Text
explanation_json u found = value_line (explanation_value u found)

abbrev pub port_explanation_json : State → ℕ → PortUse → Text
port_explanation_json s n holds_latch = explanation_json holds_latch (address_explanation_value (why s.functions io n))
port_explanation_json s n (shows_data at off) = explanation_json (shows_data at off) (bdf_explanation_value (why_number s.functions at))
port_explanation_json s n hides_data = explanation_json hides_data (address_explanation_value (why s.functions io n))
port_explanation_json s n like_others = explanation_json like_others (address_explanation_value (why s.functions io n))

-- of a number the offset is of no matter
abbrev pub host_explanation_json : State → HostTarget → Text
host_explanation_json s (host_configuration at off) = explanation_json like_others (bdf_explanation_value (why_number s.functions at))
host_explanation_json s (host_port n) = port_explanation_json s n (port_use s.latch n)
host_explanation_json s (host_address n) = explanation_json like_others (address_explanation_value (why s.functions memory n))
