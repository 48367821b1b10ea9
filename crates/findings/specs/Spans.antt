-- The addresses that agents answer, as one list of spans with a number for each bus and space.
--     bus_hash, bus_and_space_hash      a hash of a bus, and of an agent's bus and space
--     window_span, agent_spans, spans_from      the spans of a window, of an agent and of agents from an index on
--     place_of, key_of      a first address; the order of spans: by bus and space, then by first address
--     EndsBefore s t      a span ends before the next one begins, if that is of the same bus and space
--     contains_group groups g      one of some buses and spaces
--     AreApartBut groups spans      but in these, each span ends before the next one begins
--     is_crowded groups a      an agent there
use Rattle.std.specs.{Prelude.{List, [], ◌∷◌, ◌++◌, ◌≡◌, ℕ, ◌+◌, ◌-◌, ◌*◌, ◌%◌, ◌<◌, ◌==◌, Bool, IsFalse, min, map, length, slice_index_or}, List.list_any}
use Rattle.model_registers.specs.Decoding.{Space, io, memory}
use Rattle.model_board.specs.Paths.{Path, parent}
use Rattle.model_findings.specs.Agents.{Extent, Agent}
use Rattle.bridge_forward.specs.declared.routing.Window.{Window}
use Rattle.findings.specs.declared.span.Span.{Span}

abbrev pub bus_hash : Path → ℕ
bus_hash [] = 0
bus_hash (p ∷ ps) = (p.device * 8 + p.function + 1 + bus_hash ps * 131) % 0x100000000

abbrev pub space_key : Space → ℕ
space_key io = 0
space_key memory = 1

abbrev pub bus_and_space_hash : Agent → ℕ
bus_and_space_hash a = bus_hash (parent a.path) * 2 + space_key a.space

abbrev pub window_span : ℕ → ℕ → Window → Span
window_span agent group w = record { agent = agent; group = group; first = w.first; last = w.last }

abbrev pub extent_span : ℕ → ℕ → Extent → Span
extent_span agent group e = record { agent = agent; group = group; first = e.first; last = e.end - 1 }

abbrev pub agent_spans : ℕ → Agent → List Span
agent_spans n a = map (extent_span n (bus_and_space_hash a)) a.extents

abbrev pub spans_from : ℕ → List Agent → List Span
spans_from n [] = []
spans_from n (a ∷ bs) = agent_spans n a ++ spans_from (n + 1) bs

-- a first address, which is below 2^64
abbrev pub place_of : Span → ℕ
place_of s = min s.first 0xffffffffffffffff

abbrev pub sort_key : Span → ℕ
sort_key s = s.group * 0x10000000000000000 + place_of s

abbrev pub EndsBefore : Span → Span → Type 0
EndsBefore s t = s.group ≡ t.group → s.last < place_of t

abbrev pub contains_group : List ℕ → ℕ → Bool
contains_group groups g = list_any (λ h. h == g) groups

abbrev pub AreApartBut : List ℕ → List Span → Type 0
AreApartBut groups spans = (i : ℕ) (d : Span) → i + 1 < length spans
    → IsFalse (contains_group groups (slice_index_or spans (i + 1) d).group)
    → EndsBefore (slice_index_or spans i d) (slice_index_or spans (i + 1) d)

abbrev pub is_crowded : List ℕ → Agent → Bool
is_crowded groups a = contains_group groups (bus_and_space_hash a)
