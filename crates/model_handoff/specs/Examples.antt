-- Worked examples: handoffs of the main board as firmware other than set-up may leave it, and the guests' accesses over them.
--     written_to p w off v s      a state after a write to a configuration register
--     other_handoff      another bus number, another address for a region, and an Interrupt Line that is set
--     closed_handoff      the same, with decoding disabled in the Command of an assigned function
--     lost_handoff      the same, with a Secondary Bus Number above the Subordinate Bus Number
use Rattle.std.specs.Prelude.{[], ◌∷◌, ◌≡◌, ℕ, Some, None, codes}
use Rattle.model_registers.specs.{Registers.{config, write, all_bytes}, Decoding.memory}
use Rattle.model_board.specs.{Paths.Path, Claims.first_claim, Cycles.BusAddress, Ports.config_reply, State.State, Examples.{part, main_board, main_apertures}}
use Rattle.model_set_up.specs.{PlacedRegions.PlacedRegion, SetUp.set_up_state}
use Rattle.model_findings.specs.{Found.current_bdf, Problems.{not_found, problems}}
use Rattle.model_guests.specs.{Text.text_of_lines, Examples.{main_world, on_bus_0, behind}, Guests.guests_at_first, AgreedBoard.{state_over, with_change_at}, WorldNow.{world_over, output}}
use Rattle.model_handoff.specs.Regions.{in_disorder, closed_region, closed_given, first_fault}

abbrev pub written_to : Path → ℕ → ℕ → ℕ → State → State
written_to p w off v s = with_change_at (write (all_bytes w) v (config off)) p s

-- bus 5 instead of bus 1; the first endpoint's memory at D0000000h; line 11 for the second endpoint
abbrev pub other_handoff : State
other_handoff =
    written_to (on_bus_0 2) 2 0x19 0x0505
    (written_to (on_bus_0 1) 4 0x14 0xd0000000
    (written_to (behind 2 0) 1 0x3c 0x0b (set_up_state main_board main_apertures)))

abbrev pub closed_handoff : State
closed_handoff = written_to (behind 2 1) 2 4 0 other_handoff

abbrev pub lost_handoff : State
lost_handoff = written_to (on_bus_0 2) 1 0x19 6 closed_handoff

-- the third endpoint's region
abbrev pub closed_one : PlacedRegion
closed_one = record { path = behind 2 1; index = 0; space = memory; first = 0x400000000; size = 0x1000000 }

abbrev pub on_bus : ℕ → ℕ → BusAddress
on_bus bus d = record { bus = bus; part = part d 0 }

pub record WorkedExamples : Type 0 where
  -- an audit finds no problem, and its functions may be assigned
  pub passes : problems other_handoff.functions ≡ []
  pub may_be_given : first_fault main_world other_handoff ≡ None
  pub number : current_bdf other_handoff.functions (behind 2 0) ≡ on_bus 5 0
  -- the region is claimed at its address in the handoff, and not at the address where set-up would have placed it
  pub claimed :
      first_claim (state_over other_handoff (guests_at_first main_world)).functions memory 0xd0000010
      ≡ Some (record { path = on_bus_0 1; index = 1; offset = 0x10 })
  pub left :
      first_claim (state_over other_handoff (guests_at_first main_world)).functions memory 0xc0100010 ≡ None
  -- an assigned function starts at reset, whatever firmware wrote to its Interrupt Line
  pub line_before : config_reply other_handoff.functions (on_bus 5 0) 0x3c (all_bytes 1) ≡ 0x0b
  pub line_at_first :
      config_reply (state_over other_handoff (guests_at_first main_world)).functions (on_bus 5 0) 0x3c (all_bytes 1) ≡ 0
  -- the guest gets the same replies as after set-up; the host finds the bytes at the handoff's address
  pub dialogue :
      output (world_over main_world other_handoff)
      (codes "a cw 0 4 2 2" ∷ codes "a cw 0 0x14 4 0x80000000" ∷ codes "a mw 0x80000010 4 0x12345678"
      ∷ codes "a mr 0x80000010 4" ∷ codes "host mr 0xd0000010 4" ∷ codes "host mr 0xc0100010 4"
      ∷ codes "host cr 05:00.0 0 4" ∷ codes "host cr 01:00.0 0 4" ∷ codes "b cr 0 0x3c 1" ∷ [])
      ≡ text_of_lines (
      codes "a: ok" ∷ codes "a: ok" ∷ codes "a: ok" ∷ codes "a: 0x12345678" ∷ codes "host: 0x12345678"
      ∷ codes "host: 0xffffffff" ∷ codes "host: 0x00031234" ∷ codes "host: 0xffffffff" ∷ codes "b: 0x00" ∷ [])
  -- a disabled region is a fault only if its function is assigned to a guest
  pub closed : closed_given main_world closed_handoff ≡ closed_one ∷ []
  pub refused : first_fault main_world closed_handoff ≡ Some (closed_region closed_one)
  pub given_to_none : first_fault (record main_world { guests = [] }) closed_handoff ≡ None
  -- a problem is reported before a disabled region
  pub lost :
      first_fault main_world lost_handoff ≡ Some (in_disorder (not_found (behind 2 0) (on_bus 6 0) None))
