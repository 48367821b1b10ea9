-- Worked examples: register states that firmware might leave, and their problems.
--     between first last      a window
--     one_card, two_bridges      a bridge with a card of 1 MB behind it; the same behind each of two bridges
--     renumbered n      the main board after set-up, with another Secondary Bus Number in its bridge
use Rattle.std.specs.Prelude.{List, [], ◌∷◌, ◌≡◌, ℕ, ◌*◌, false, Option, Some, None, codes}
use Rattle.model_registers.specs.{Registers.{config, write}, ByteEnables.lanes, Declarations.mem32, EndpointTable.BaseAddress, Decoding.memory}
use Rattle.model_board.specs.{Paths.Path, State.{BoardFunction, with_file}, Examples.{part, main_board, main_apertures}, AtReset.reset_state, Windows.Window, Cycles.BusAddress, Routing.{RoutingRow, regions, windows, routing}}
use Rattle.model_set_up.specs.{SetUp.set_up_state, PlacedRegions.PlacedRegion}
use Rattle.model_guests.specs.Text.{text_of_lines}
use Rattle.model_findings.specs.{OpenRegions.{region_now, closed_regions}, Agents.{region_agent, bridge_agent}, Problems.{not_forwarded, contended, not_found, routing_problems, problems}, Notes.{idle, notes}, AuditText.{audit_text, audit}}

abbrev pub between : ℕ → ℕ → Option Window
between first last = Some (record { first = first; last = last })

-- a bridge in device d with two memory windows, and memory enabled
abbrev pub bridge_row : ℕ → Option Window → Option Window → RoutingRow
bridge_row d wmem wpref = record { path = part d 0 ∷ []; command = 2; ranges = windows None wmem wpref }

abbrev pub megabyte : ℕ → BaseAddress
megabyte first = record { index = 0; kind = mem32 false; size = 0x100000; base = first }

abbrev pub card : Path → ℕ → ℕ → RoutingRow
card p command first = record { path = p; command = command; ranges = regions (megabyte first ∷ []) }

abbrev pub on_root : ℕ → Path
on_root d = part d 0 ∷ []

abbrev pub behind : ℕ → ℕ → Path
behind d e = part d 0 ∷ part e 0 ∷ []

abbrev pub one_card : Option Window → Option Window → ℕ → ℕ → List RoutingRow
one_card wmem wpref command first = bridge_row 2 wmem wpref ∷ card (behind 2 0) command first ∷ []

abbrev pub two_bridges : Option Window → Option Window → List RoutingRow
two_bridges w v =
    bridge_row 2 w None ∷ card (behind 2 0) 2 0xc0000000 ∷ bridge_row 3 v None ∷ card (behind 3 0) 2 0xc0300000 ∷ []

abbrev pub card_at : Path → ℕ → PlacedRegion
card_at p first = region_now p (megabyte first)

-- a card two bridges down, with a window in each bridge
abbrev pub two_deep : Option Window → Option Window → List RoutingRow
two_deep w v =
    bridge_row 2 w None
    ∷ record { path = behind 2 0; command = 2; ranges = windows None v None }
    ∷ card (part 2 0 ∷ part 0 0 ∷ part 1 0 ∷ []) 2 0xc0000000 ∷ []

abbrev pub renumbered : ℕ → List BoardFunction
renumbered n =
    with_file (write (lanes 2) (256 * n) (config 0x18)) (on_root 2)
    (set_up_state main_board main_apertures).functions

abbrev pub at_bus : ℕ → ℕ → BusAddress
at_bus bus d = record { bus = bus; part = part d 0 }

pub record WorkedExamples : Type 0 where
  -- a card inside its bridge's window
  pub orderly : routing_problems (one_card (between 0xc0000000 0xc00fffff) None 2 0xc0000000) ≡ []
  -- the window ends one unit short, and the first byte after it is reported
  pub straddles :
      routing_problems (one_card (between 0xc0000000 0xc00fffff) None 2 0xc0080000)
      ≡ not_forwarded (card_at (behind 2 0) 0xc0080000) (on_root 2) 0xc0100000 ∷ []
  -- the rest is in the prefetchable window
  pub goes_on :
      routing_problems (one_card (between 0xc0000000 0xc00fffff) (between 0xc0100000 0xc01fffff) 2 0xc0080000) ≡ []
  -- the two windows of a bridge overlap: one agent
  pub one_agent :
      routing_problems (one_card (between 0xc0000000 0xc01fffff) (between 0xc0100000 0xc02fffff) 2 0xc0180000) ≡ []
  -- a gap between them
  pub hole :
      routing_problems (one_card (between 0xc0000000 0xc00fffff) (between 0xc0180000 0xc01fffff) 2 0xc0080000)
      ≡ not_forwarded (card_at (behind 2 0) 0xc0080000) (on_root 2) 0xc0100000 ∷ []
  -- neither bridge forwards the card, so the upper one is reported; if it does, the lower one is
  pub upper :
      routing_problems (two_deep None None)
      ≡ not_forwarded (card_at (part 2 0 ∷ part 0 0 ∷ part 1 0 ∷ []) 0xc0000000) (on_root 2) 0xc0000000 ∷ []
  pub lower :
      routing_problems (two_deep (between 0xc0000000 0xc00fffff) None)
      ≡ not_forwarded (card_at (part 2 0 ∷ part 0 0 ∷ part 1 0 ∷ []) 0xc0000000) (behind 2 0) 0xc0000000 ∷ []
  -- a disabled card conflicts with nothing, and is reported for information
  pub closed : routing_problems (one_card (between 0xc0000000 0xc00fffff) None 0 0xd0000000) ≡ []
  pub told :
      closed_regions (one_card (between 0xc0000000 0xc00fffff) None 0 0xd0000000)
      ≡ card_at (behind 2 0) 0xd0000000 ∷ []
  pub opens_on_nothing :
      notes (one_card (between 0xc0000000 0xc00fffff) None 0 0xd0000000)
      ≡ idle (on_root 2) memory (record { first = 0xc0000000; end = 0xc0100000 }) ∷ []
  -- two bridges on one bus with windows that share a unit, although no region is there
  pub overlap :
      routing_problems (two_bridges (between 0xc0000000 0xc02fffff) (between 0xc0200000 0xc03fffff))
      ≡ contended (bridge_agent (bridge_row 2 (between 0xc0000000 0xc02fffff) None) memory)
      (bridge_agent (bridge_row 3 (between 0xc0200000 0xc03fffff) None) memory) 0xc0200000 ∷ []
  pub apart : routing_problems (two_bridges (between 0xc0000000 0xc00fffff) (between 0xc0300000 0xc03fffff)) ≡ []
  -- two cards on bus 0 at one address
  pub same_place :
      routing_problems (card (on_root 1) 2 0xc0000000 ∷ card (on_root 2) 2 0xc0000000 ∷ [])
      ≡ contended (region_agent (card_at (on_root 1) 0xc0000000)) (region_agent (card_at (on_root 2) 0xc0000000))
      0xc0000000 ∷ []
  -- a board after set-up has no problem
  pub set_up : problems (set_up_state main_board main_apertures).functions ≡ []
  pub nothing_told : notes (routing (set_up_state main_board main_apertures).functions) ≡ []
  -- at reset the bridge's Secondary Bus Number is 0, so the functions behind it are looked for on bus 0
  pub lost :
      problems (reset_state main_board).functions
      ≡ not_found (behind 2 0) (at_bus 0 0) None ∷ not_found (behind 2 1) (at_bus 0 1) (Some (on_root 1)) ∷ []
  -- a Secondary Bus Number above the Subordinate: no cycle for that bus is claimed
  pub beyond :
      problems (renumbered 2) ≡ not_found (behind 2 0) (at_bus 2 0) None ∷ not_found (behind 2 1) (at_bus 2 1) None ∷ []
  -- the text of the audit
  pub text_of_none : audit (set_up_state main_board main_apertures).functions ≡ text_of_lines (codes "audit: ok" ∷ [])
  pub text_of_lost :
      audit (reset_state main_board).functions
      ≡ text_of_lines (
      codes "audit: 2.0/0.0: a configuration cycle to 00:00.0 reaches nothing"
      ∷ codes "audit: 2.0/1.0: a configuration cycle to 00:01.0 reaches 1.0"
      ∷ codes "audit: 2 problems" ∷ [])
  pub text_of_straddles :
      audit_text (routing_problems (one_card (between 0xc0000000 0xc00fffff) None 2 0xc0080000))
      ≡ text_of_lines (
      codes "audit: 2.0/0.0 bar0 at 0xc0080000 size 0x100000: 0xc0100000 is not forwarded by bridge 2.0"
      ∷ codes "audit: 1 problem" ∷ [])
  pub text_of_overlap :
      audit_text (routing_problems (two_bridges (between 0xc0000000 0xc02fffff) (between 0xc0200000 0xc03fffff)))
      ≡ text_of_lines (codes "audit: 2.0 and 3.0: address conflict at memory 0xc0200000" ∷ codes "audit: 1 problem" ∷ [])
