-- Laws of requests in lawful worlds, and of the count of events that may move a guest's regions.
--     LawfulAlongRequests      requests whose images fit keep the world lawful
--     changes_by, changes_along      a request changes the guest: an action that does, and each load or restart of the guest
--     after_request_on_machine, after_all_requests      a machine after a request, and after requests
--     AnswersStayAlong      if no request changes the guest, each of its answers stays the same
--     RequestCountsGrow      a guest's count grows by one with each request that changes it
--     AnswersStayByCount      so while the count is the same, the answers are the same, along fewer than 2^64 changes
use Rattle.std.specs.{Prelude.{◌≡◌, ◌<◌, ◌+◌, ◌^◌, ◌%◌, ℕ, Bool, List, [], ◌∷◌, if◌then◌else◌, IsSome}, Str.bytes_eq}
use Rattle.model_guests.specs.{Text.Text, Guests.guest_named, WorldNow.{WorldNow, names_now}}
use Rattle.model_handoff.specs.{Kept.IsLawfulOver, Changes.{changes, counts_where, MachineNow}, CountLaws.{HaveSameAnswers, IsCounted}}
use Rattle.model_images.specs.{Requests.{Request, acts, loads, restarts, after_request, after_requests}, FitLaws.AreFittingRequests}

abbrev pub LawfulAlongRequests : Type 0
LawfulAlongRequests = (w : WorldNow) → IsLawfulOver w → (requests : List Request) → AreFittingRequests w requests
    → IsLawfulOver (after_requests w requests)

-- ---- counts

abbrev pub changes_by : Text → WorldNow → Request → Bool
changes_by name w (acts a) = changes name w a
changes_by name w (loads n i) = bytes_eq n name
changes_by name w (restarts n) = bytes_eq n name

abbrev pub changes_along : Text → WorldNow → List Request → ℕ
changes_along name w [] = 0
changes_along name w (r ∷ more) =
    (if changes_by name w r then 1 else 0) + changes_along name (after_request w r) more

abbrev pub after_request_on_machine : MachineNow → Request → MachineNow
after_request_on_machine m r = record {
  world = after_request m.world r;
  counts = counts_where (λ name. changes_by name m.world r) (names_now m.world) m.counts;
}

abbrev pub after_all_requests : MachineNow → List Request → MachineNow
after_all_requests m [] = m
after_all_requests m (r ∷ more) = after_all_requests (after_request_on_machine m r) more

abbrev pub AnswersStayAlong : Type 0
AnswersStayAlong = (w : WorldNow) → IsLawfulOver w → (name : Text) → IsSome (guest_named w.guests name)
    → (requests : List Request) → AreFittingRequests w requests → changes_along name w requests ≡ 0
    → HaveSameAnswers w (after_requests w requests) name

abbrev pub RequestCountsGrow : Type 0
RequestCountsGrow = (m : MachineNow) (i : ℕ) (name : Text) (n : ℕ) → IsCounted m i name n → (requests : List Request)
    → IsCounted (after_all_requests m requests) i name ((n + changes_along name m.world requests) % 2 ^ 64)

abbrev pub AnswersStayByCount : Type 0
AnswersStayByCount = (m : MachineNow) → IsLawfulOver m.world → (i : ℕ) (name : Text) (n : ℕ) → IsCounted m i name n
    → (requests : List Request) → AreFittingRequests m.world requests → changes_along name m.world requests < 2 ^ 64
    → IsCounted (after_all_requests m requests) i name n
    → HaveSameAnswers m.world (after_all_requests m requests).world name
