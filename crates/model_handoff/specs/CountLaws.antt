-- Laws of the count of events that may move a guest's regions.
--     RegionsStayAlong      if no action changes the guest, its answers stay the same
--     ChangesTouchSlots      a call that changes the guest involves one of its slots
--     CountsGrow      a guest's count grows by one with each action that changes it
--     AnswersStay      so while the count is the same, the answers are the same, along fewer than 2^64 changes
use Rattle.std.specs.Prelude.{◌≡◌, ◌<◌, ◌+◌, ◌^◌, ◌%◌, ℕ, true, List, Some, IsSome, slice_get}
use Rattle.model_guests.specs.{Text.Text, Guests.{guest_named, lone_of}, Calls.Call, WorldNow.{WorldNow, names_now}}
use Rattle.model_handoff.specs.{GuestRegions.region_answer, StayLaws.moves_regions, Kept.IsLawfulOver, Actions.{Action, calls, after_actions}, Changes.{changes, changes_along, MachineNow, after_all_on_machine}}

-- for each slot and each register
abbrev pub HaveSameAnswers : WorldNow → WorldNow → Text → Type 0
HaveSameAnswers w v name =
    (slot register : ℕ) → region_answer (lone_of v.guests name) slot register ≡ region_answer (lone_of w.guests name) slot register

abbrev pub RegionsStayAlong : Type 0
RegionsStayAlong = (w : WorldNow) → IsLawfulOver w → (name : Text) → IsSome (guest_named w.guests name)
    → (actions : List Action) → changes_along name w actions ≡ 0 → HaveSameAnswers w (after_actions w actions) name

-- in the sense in which an answer may change
abbrev pub ChangesTouchSlots : Type 0
ChangesTouchSlots = (name : Text) (w : WorldNow) (c : Call) → changes name w (calls c) ≡ true
    → (slot : ℕ) × (moves_regions name slot w.guests c ≡ true)

-- the guest at this index has this name and this count
pub record IsCounted (m : MachineNow) (i : ℕ) (name : Text) (n : ℕ) : Type 0 where
  pub named : slice_get (names_now m.world) i ≡ Some name
  pub counted : slice_get m.counts i ≡ Some n
  pub fits : n < 2 ^ 64

abbrev pub CountsGrow : Type 0
CountsGrow = (m : MachineNow) (i : ℕ) (name : Text) (n : ℕ) → IsCounted m i name n → (actions : List Action)
    → IsCounted (after_all_on_machine m actions) i name ((n + changes_along name m.world actions) % 2 ^ 64)

abbrev pub AnswersStay : Type 0
AnswersStay = (m : MachineNow) → IsLawfulOver m.world → (i : ℕ) (name : Text) (n : ℕ) → IsCounted m i name n
    → (actions : List Action) → changes_along name m.world actions < 2 ^ 64
    → IsCounted (after_all_on_machine m actions) i name n
    → HaveSameAnswers m.world (after_all_on_machine m actions).world name
