-- Worked examples: register states, and their readiness issues.
--     left      the main board after set-up
--     with_primary n      the same with another Primary Bus Number in its bridge
--     ReadyExamples      the reports on some states
use Rattle.std.specs.Prelude.{List, [], ◌∷◌, ◌≡◌, ℕ, true, false, None, codes}
use Rattle.model_registers.specs.{Registers.{config, write}, ByteEnables.lanes, Decoding.{Space, io, memory}}
use Rattle.model_board.specs.{Paths.Path, State.{BoardFunction, with_file}, AtReset.reset_state, Examples.{main_board, main_apertures}}
use Rattle.model_set_up.specs.{SetUp.set_up_state, PlacedRegions.PlacedRegion}
use Rattle.model_guests.specs.Text.{text_of_lines}
use Rattle.model_findings.specs.{Problems.routing_problems, AuditExamples.{between, card, card_at, on_root, behind, one_card}, ReadinessIssues.{not_open, outside_apertures, prefetched_by, other_primary, routing_issues, readiness_issues, is_ready}, ReadyText.ready_report}

abbrev pub left : List BoardFunction
left = (set_up_state main_board main_apertures).functions

abbrev pub with_primary : ℕ → List BoardFunction
with_primary n = with_file (write (lanes 1) n (config 0x18)) (on_root 2) left

-- a region at reset
abbrev pub at_zero : Path → ℕ → Space → ℕ → PlacedRegion
at_zero p n space size = record { path = p; index = n; space = space; first = 0; size = size }

pub record ReadyExamples : Type 0 where
  -- the main board is ready after set-up
  pub set_up : readiness_issues main_apertures left ≡ []
  pub ready : is_ready main_apertures left ≡ true
  -- at reset each region is disabled
  pub reset :
      readiness_issues main_apertures (reset_state main_board).functions
      ≡ not_open (at_zero (on_root 1) 0 io 32) ∷ not_open (at_zero (on_root 1) 1 memory 4096)
      ∷ not_open (at_zero (behind 2 0) 0 memory 0x100000) ∷ not_open (at_zero (behind 2 0) 1 io 8)
      ∷ not_open (at_zero (behind 2 1) 0 memory 0x1000000) ∷ []
  -- a disabled card has only that issue
  pub closed :
      routing_issues main_apertures (one_card (between 0xc0000000 0xc00fffff) None 0 0xd0000000)
      ≡ not_open (card_at (behind 2 0) 0xd0000000) ∷ []
  -- it starts before the aperture, or continues past its end
  pub before :
      routing_issues main_apertures (card (on_root 1) 2 0xbff80000 ∷ [])
      ≡ outside_apertures (card_at (on_root 1) 0xbff80000) 0xbff80000 ∷ []
  pub after :
      routing_issues main_apertures (card (on_root 1) 2 0xdff80000 ∷ [])
      ≡ outside_apertures (card_at (on_root 1) 0xdff80000) 0xe0000000 ∷ []
  -- a card that isn't prefetchable behind a prefetchable window: no problem, but a readiness issue
  pub routed : routing_problems (one_card None (between 0xc0000000 0xc00fffff) 2 0xc0000000) ≡ []
  pub prefetched :
      routing_issues main_apertures (one_card None (between 0xc0000000 0xc00fffff) 2 0xc0000000)
      ≡ prefetched_by (card_at (behind 2 0) 0xc0000000) (on_root 2) 0xc0000000 ∷ []
  -- the memory window takes precedence as far as it reaches
  pub goes_before :
      routing_issues main_apertures
      (one_card (between 0xc0000000 0xc01fffff) (between 0xc0000000 0xc02fffff) 2 0xc0080000)
      ≡ []
  pub ends_short :
      routing_issues main_apertures
      (one_card (between 0xc0000000 0xc00fffff) (between 0xc0000000 0xc01fffff) 2 0xc0080000)
      ≡ prefetched_by (card_at (behind 2 0) 0xc0080000) (on_root 2) 0xc0100000 ∷ []
  -- a Primary Bus Number that isn't the number of the bridge's bus
  pub primary : readiness_issues main_apertures (with_primary 7) ≡ other_primary (on_root 2) 7 0 ∷ []
  pub not_yet : is_ready main_apertures (with_primary 7) ≡ false
  -- the text of the report
  pub text_of_none : ready_report main_apertures left ≡ text_of_lines (codes "ready: ok" ∷ [])
  pub text_of_reset :
      ready_report main_apertures (reset_state main_board).functions
      ≡ text_of_lines (
      codes "audit: 2.0/0.0: a configuration cycle to 00:00.0 reaches nothing"
      ∷ codes "audit: 2.0/1.0: a configuration cycle to 00:01.0 reaches 1.0"
      ∷ codes "ready: 1.0 bar0 at 0x0 size 0x20: I/O decode is disabled"
      ∷ codes "ready: 1.0 bar1 at 0x0 size 0x1000: memory decode is disabled"
      ∷ codes "ready: 2.0/0.0 bar0 at 0x0 size 0x100000: memory decode is disabled"
      ∷ codes "ready: 2.0/0.0 bar1 at 0x0 size 0x8: I/O decode is disabled"
      ∷ codes "ready: 2.0/1.0 bar0 at 0x0 size 0x1000000: memory decode is disabled"
      ∷ codes "ready: 2 problems, 5 left to do" ∷ [])
