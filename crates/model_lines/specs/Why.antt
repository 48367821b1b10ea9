-- Explains who answers an address, or that nobody does, in any register state: PCI Local Bus 3.0, chapter 6.2.5; PCI-to-PCI
-- Bridge Architecture 1.2, chapters 3.2.5 and 4.
--     NamedWindow, windows_now      the windows of a bridge in a space, each with its addresses or disabled
--     BlockReason, hindrance      the reason why a bridge doesn't forward an address
--     Cause      a region is disabled, or is behind a bridge that doesn't forward
--     closing, stops, causes_of      its Command, all such bridges, and both: the causes for the regions of a function
--     UnansweredRegion, told fs space n      each region that contains an address, except the one that answers, with all its causes
--     is_as_at_reset      the region was never placed, judging by its registers
--     apart, at_reset      the regions that aren't as at reset, and how many are
--     Forwarder, forwarders fs space n      each bridge that forwards an address to its secondary bus, down to the end of the route
--     Why, why fs space n      the answering region, the bridges that forward to it, the other regions, and how many are as at reset
use Rattle.std.specs.{Prelude.{List, [], ◌∷◌, ◌++◌, ℕ, Bool, true, false, ◌&&◌, ◌==◌, not, if◌then◌else◌, Option, Some, None, map, filter, count_by, flat_map, reverse}, Option.option_to_list}
use Rattle.model_registers.specs.{Registers.File, Declarations.{Bridge, IoDecode, no_io, io16, io32, PrefDecode, no_pref, pref32, pref64}, Decoding.{Space, io, memory, command_word, is_open}}
use Rattle.model_board.specs.{Paths.{Path, path_eq, is_ancestor_of}, Board.{endpoint, bridge}, State.BoardFunction, Windows.{Window, io_window, mem_window, pref_window, forwards}, Claims.{Claim, is_forwarded, first_claim}, Cycles.secondary_register, Routing.row_of}
use Rattle.model_set_up.specs.PlacedRegions.{PlacedRegion, holds}
use Rattle.model_findings.specs.OpenRegions.{regions_of}

-- ---- the windows of a bridge

pub data WindowName : Type 0 where
  for_io : WindowName
  for_memory : WindowName
  for_prefetchable : WindowName

-- none if the window is disabled, because its base is above its limit
pub record NamedWindow : Type 0 where
  pub name : WindowName
  pub window : Option Window

abbrev pub named : WindowName → Option Window → NamedWindow
named name w = record { name = name; window = w }

-- none if the bridge doesn't implement the window
abbrev pub io_windows : IoDecode → Option Window → List NamedWindow
io_windows no_io w = []
io_windows io16 w = named for_io w ∷ []
io_windows io32 w = named for_io w ∷ []

abbrev pub pref_windows : PrefDecode → Option Window → List NamedWindow
pref_windows no_pref w = []
pref_windows pref32 w = named for_prefetchable w ∷ []
pref_windows pref64 w = named for_prefetchable w ∷ []

abbrev pub windows_now : Bridge → File → Space → List NamedWindow
windows_now d file io = io_windows d.io (io_window d.io file)
windows_now d file memory = named for_memory (mem_window file) ∷ pref_windows d.pref (pref_window d.pref file)

-- ---- the causes that keep a region from answering

pub data BlockReason : Type 0 where
  -- Command disables the space
  closes : ℕ → BlockReason
  -- no window in the space contains the address
  misses : List NamedWindow → BlockReason

abbrev pub hindrance : Space → BoardFunction → BlockReason
hindrance space f = elim f.decl [
  | endpoint d ↦ misses []
  | bridge d ↦
      if is_open f.file space then misses (windows_now d f.file space) else closes (command_word f.file)
]

pub data Cause : Type 0 where
  -- this Command disables its space
  closed_by : ℕ → Cause
  -- a bridge above it that doesn't forward the address
  stopped_at : Path → BlockReason → Cause

abbrev pub closing : Space → BoardFunction → List Cause
closing space f = if is_open f.file space then [] else closed_by (command_word f.file) ∷ []

abbrev pub blocking_cause : Space → ℕ → Path → BoardFunction → Option Cause
blocking_cause space n p f =
    if is_ancestor_of f.path p && not (forwards space n f) then Some (stopped_at f.path (hindrance space f)) else None

-- the causes in the bridges above, from bus 0 down
abbrev pub blockers : List BoardFunction → Space → ℕ → Path → List Cause
blockers fs space n p = flat_map (λ f. option_to_list (blocking_cause space n p f)) fs

-- the nearest to the function first; a region without a cause would answer, if no other region did
abbrev pub causes_of : List BoardFunction → Space → ℕ → BoardFunction → List Cause
causes_of fs space n f = reverse (blockers fs space n f.path ++ closing space f)

-- ---- the reported regions

pub record UnansweredRegion : Type 0 where
  pub region : PlacedRegion
  pub causes : List Cause

abbrev pub is_answering_bar : Option Claim → PlacedRegion → Bool
is_answering_bar None q = false
is_answering_bar (Some c) q = path_eq c.path q.path && c.index == q.index

-- enabled or disabled
abbrev pub holders : Space → ℕ → BoardFunction → List PlacedRegion
holders space n f = filter (holds space n) (regions_of (row_of f))

abbrev pub told_of : List BoardFunction → Space → ℕ → BoardFunction → List UnansweredRegion
told_of fs space n f =
    map (λ q. record { region = q; causes = causes_of fs space n f })
    (filter (λ q. not (is_answering_bar (first_claim fs space n) q)) (holders space n f))

-- in path order, then by register
abbrev pub told : List BoardFunction → Space → ℕ → List UnansweredRegion
told fs space n = flat_map (told_of fs space n) fs

-- a Command is the nearest cause
abbrev pub is_closed : List Cause → Bool
is_closed [] = false
is_closed (closed_by command ∷ cs) = true
is_closed (stopped_at p h ∷ cs) = false

-- as at reset, its base is 0 and its function's Command disables its space
abbrev pub is_as_at_reset : UnansweredRegion → Bool
is_as_at_reset t = t.region.first == 0 && is_closed t.causes

-- only the number of those as at reset is reported
abbrev pub apart : List UnansweredRegion → List UnansweredRegion
apart ts = filter (λ t. not (is_as_at_reset t)) ts

abbrev pub at_reset : List UnansweredRegion → ℕ
at_reset ts = count_by is_as_at_reset ts

-- ---- the route of an address

-- a bridge, and its Secondary Bus Number
pub record Forwarder : Type 0 where
  pub path : Path
  pub bus : ℕ

abbrev pub forwarder : BoardFunction → Forwarder
forwarder f = record { path = f.path; bus = secondary_register f.file }

-- the bridges above it also forward the address
abbrev pub reaches_and_forwards : List BoardFunction → Space → ℕ → BoardFunction → Bool
reaches_and_forwards fs space n f = forwards space n f && is_forwarded fs f.path space n

-- in path order
abbrev pub forwarders : List BoardFunction → Space → ℕ → List Forwarder
forwarders fs space n = map forwarder (filter (reaches_and_forwards fs space n) fs)

pub record Why : Type 0 where
  pub answer : Option Claim
  pub forwarders : List Forwarder
  pub told : List UnansweredRegion
  pub at_reset : ℕ

abbrev pub why : List BoardFunction → Space → ℕ → Why
why fs space n =
    let ts = told fs space n in
    record {
      answer = first_claim fs space n;
      forwarders = forwarders fs space n;
      told = apart ts;
      at_reset = at_reset ts;
    }
