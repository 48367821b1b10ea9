-- The explanations of addresses and BDFs are true and complete: PCI Local Bus 3.0, chapter
-- 6.2.5; PCI-to-PCI Bridge Architecture 1.2, chapters 3 and 4.
--     IsTrueHindrance, IsStopped, IsTrueCause      the meaning of a cause
--     IsTrueTold      a reported region contains the address, doesn't answer, and has exactly these causes
--     IsAnswering      the meaning of a claim that answers
--     IsForwarding      the meaning of a bridge that forwards the address
--     IsExplained, AddressesExplained      the answering region, each bridge that forwards, and each region that contains the address
--     OrderlyAnswersAlone      in an orderly state no other region would answer too
--     ReadyTellsNothing      in a ready state nothing else is reported: a region that contains an address answers
--     IsWay, IsPassed      each bridge claims the cycle on the bus behind the one before; a bus on which it is claimed
--     IsMissing, IsNumberExplained, NumbersExplained      where a cycle ends, who claims it, and what is missing there
use Rattle.std.specs.Prelude.{List, [], ◌∷◌, ◌++◌, ◌≡◌, ℕ, ◌-◌, Option, Some, None, IsTrue, IsFalse, ◌⊎◌, ◌==◌, ⊤}
use Rattle.model_registers.specs.{Apertures.Apertures, Decoding.{Space, command_word, is_open}}
use Rattle.lists.specs.Elements.{IsIn, Each}
use Rattle.model_board.specs.{Board.{endpoint, bridge}, Paths.{Path, is_ancestor_of, parent}, State.BoardFunction, Windows.{is_in, forwards}, Claims.{Claim, is_forwarded, claims, first_claim}, Cycles.{secondary_register, covers, taker, BusAddress, reached}, Routing.{row_of, routing}}
use Rattle.model_set_up.specs.PlacedRegions.{PlacedRegion, holds}
use Rattle.model_findings.specs.{OpenRegions.regions_of, Agents.{bridge_agent, answers}, Orderly.{IsOrderly, IsStateOfBoard}, ReadinessIssues.IsReady}
use Rattle.model_lines.specs.{Why.{NamedWindow, windows_now, BlockReason, closes, misses, hindrance, Cause, closed_by, stopped_at, UnansweredRegion, is_answering_bar, told, is_as_at_reset, apart, at_reset, Forwarder, forwarder, why}, Ways.{bridges_on_way, takers_on_way, end_of, reached_at, Missing, no_bridge, no_function, missing, WhyNumber, why_number}}
use Rattle.model_findings.specs.Problems as audit

-- ---- an address

-- a disabled window contains nothing
abbrev pub LiesOutside : ℕ → NamedWindow → Type 0
LiesOutside n w = IsFalse (is_in n w.window)

-- the windows that a bridge has in the space; an endpoint has none
abbrev pub windows_at : Space → BoardFunction → List NamedWindow
windows_at space f = elim f.decl [ endpoint d ↦ [] | bridge d ↦ windows_now d f.file space ]

abbrev pub IsTrueHindrance : Space → ℕ → BoardFunction → BlockReason → Type 0
IsTrueHindrance space n f (closes command) = (command ≡ command_word f.file) × IsFalse (is_open f.file space)
IsTrueHindrance space n f (misses ws) = (ws ≡ windows_at space f) × Each (LiesOutside n) ws

-- a bridge above the path that doesn't forward the address
pub record IsStopped (fs : List BoardFunction) (space : Space) (n : ℕ) (p bridge : Path) (h : BlockReason) : Type 0 where
  pub function : BoardFunction
  pub there : IsIn function fs
  pub bridge_is : function.path ≡ bridge
  pub above : IsTrue (is_ancestor_of bridge p)
  pub blockers : IsFalse (forwards space n function)
  pub hindrance_is : IsTrueHindrance space n function h

abbrev pub claim_there : ℕ → PlacedRegion → Claim
claim_there n q = record { path = q.path; index = q.index; offset = n - q.first }

abbrev pub IsTrueCause : List BoardFunction → Space → ℕ → BoardFunction → Cause → Type 0
IsTrueCause fs space n f (closed_by command) = (command ≡ command_word f.file) × IsFalse (is_open f.file space)
IsTrueCause fs space n f (stopped_at p h) = IsStopped fs space n f.path p h

pub record IsTrueTold (fs : List BoardFunction) (space : Space) (n : ℕ) (t : UnansweredRegion) : Type 0 where
  pub function : BoardFunction
  pub there : IsIn function fs
  pub region : IsIn t.region (regions_of (row_of function))
  pub byte : IsTrue (holds space n t.region)
  pub other : IsFalse (is_answering_bar (first_claim fs space n) t.region)
  pub causes : Each (IsTrueCause fs space n function) t.causes
  -- all of them
  pub command : IsFalse (is_open function.file space) → IsIn (closed_by (command_word function.file)) t.causes
  pub bridges : (g : BoardFunction) → IsIn g fs → IsTrue (is_ancestor_of g.path function.path) → IsFalse (forwards space n g)
      → IsIn (stopped_at g.path (hindrance space g)) t.causes
  -- without a cause it would answer
  pub too : t.causes ≡ [] → IsIn (claim_there n t.region) (claims fs space n)
  pub at_reset : IsTrue (is_as_at_reset t) → (t.region.first ≡ 0) × IsFalse (is_open function.file space)

-- an enabled region that contains the address, with each bridge above forwarding it
pub record IsAnswering (fs : List BoardFunction) (space : Space) (n : ℕ) (c : Claim) : Type 0 where
  pub function : BoardFunction
  pub there : IsIn function fs
  pub region : PlacedRegion
  pub declared : IsIn region (regions_of (row_of function))
  pub byte : IsTrue (holds space n region)
  pub opened : IsTrue (is_open function.file space)
  pub forwarded : IsTrue (is_forwarded fs function.path space n)
  pub claim_is : c ≡ claim_there n region

-- a bridge that forwards the address, as does each bridge above it
pub record IsForwarding (fs : List BoardFunction) (space : Space) (n : ℕ) (g : Forwarder) : Type 0 where
  pub function : BoardFunction
  pub there : IsIn function fs
  pub forwarder_is : g ≡ forwarder function
  pub forwards_it : IsTrue (forwards space n function)
  pub forwarded : IsTrue (is_forwarded fs function.path space n)

pub record IsExplained (fs : List BoardFunction) (space : Space) (n : ℕ) : Type 0 where
  pub answer : (why fs space n).answer ≡ first_claim fs space n
  pub answering : (c : Claim) → (why fs space n).answer ≡ Some c → IsAnswering fs space n c
  pub forwarding : Each (IsForwarding fs space n) (why fs space n).forwarders
  -- an agent that answers the address in an audit is reported if bridges forward it there: 'answers' has one meaning
  pub all_forwarding : (f : BoardFunction) → IsIn f fs → IsTrue (answers space n (bridge_agent (row_of f) space))
      → IsTrue (is_forwarded fs f.path space n) → IsIn (forwarder f) (why fs space n).forwarders
  pub true_each : Each (IsTrueTold fs space n) (told fs space n)
  -- a region that contains the address answers or is reported
  pub complete : (f : BoardFunction) → IsIn f fs → (q : PlacedRegion) → IsIn q (regions_of (row_of f))
      → IsTrue (holds space n q)
      → IsTrue (is_answering_bar (first_claim fs space n) q) ⊎ ((t : UnansweredRegion) × IsIn t (told fs space n) × (t.region ≡ q))
  -- those that aren't as at reset are reported one by one, the others are only counted
  pub one_by_one : (why fs space n).told ≡ apart (told fs space n)
  pub by_number : (why fs space n).at_reset ≡ at_reset (told fs space n)
  -- if nobody answers, each has a cause
  pub nobody : first_claim fs space n ≡ None → Each (λ t. t.causes ≡ [] → ⊥) (told fs space n)

abbrev pub AddressesExplained : Type 0
AddressesExplained = (fs : List BoardFunction) (space : Space) (n : ℕ) → IsExplained fs space n

abbrev pub OrderlyAnswersAlone : Type 0
OrderlyAnswersAlone = (fs : List BoardFunction) → IsStateOfBoard fs → IsOrderly (routing fs)
    → (space : Space) (n : ℕ) → Each (λ t. t.causes ≡ [] → ⊥) (told fs space n)

abbrev pub ReadyTellsNothing : Type 0
ReadyTellsNothing = (a : Apertures) (fs : List BoardFunction) → IsStateOfBoard fs → IsReady a fs
    → (space : Space) (n : ℕ) → told fs space n ≡ []

-- ---- a BDF

-- from a bus down, each is the first on its bus that claims the cycle
abbrev pub IsWay : List BoardFunction → ℕ → Path → List BoardFunction → Type 0
IsWay fs n bus [] = ⊤
IsWay fs n bus (f ∷ gs) = (taker fs bus n ≡ Some f) × IsWay fs n f.path gs

-- the bus behind the last of some bridges
abbrev pub bus_after : Path → List BoardFunction → Path
bus_after bus [] = bus
bus_after bus (f ∷ fs) = bus_after f.path fs

-- the first bus, and each bus behind a bridge on the route, except the bus with the number
abbrev pub IsPassed : ℕ → Path → List BoardFunction → Path → Type 0
IsPassed n bus ws p =
    (p ≡ bus) ⊎ ((w : BoardFunction) × IsIn w ws × (w.path ≡ p) × IsFalse (secondary_register w.file == n))

-- a bridge that claims the cycle on a bus of its route
pub record IsTaking (fs : List BoardFunction) (n : ℕ) (bus : Path) (ws : List BoardFunction) (f : BoardFunction) : Type 0 where
  pub there : IsIn f fs
  pub takes : IsTrue (covers n f)
  pub passed : IsPassed n bus ws (parent f.path)

-- the functions that an audit doesn't find by a BDF
abbrev pub IsUnfound : List BoardFunction → BusAddress → WhyNumber → Path → Type 0
IsUnfound fs at w p = IsIn (audit.not_found p at w.reached) (audit.numbering_problems fs)

abbrev pub IsMissing : List BoardFunction → BusAddress → Missing → Type 0
IsMissing fs at (no_bridge p n) =
    (n ≡ at.bus) × (p ≡ bus_after [] (bridges_on_way fs at)) × Each (λ f. parent f.path ≡ p → IsFalse (covers n f)) fs
IsMissing fs at (no_function p t) =
    (t ≡ at.part) × (p ≡ bus_after [] (bridges_on_way fs at)) × Each (λ f. f.path ≡ p ++ t ∷ [] → ⊥) fs

pub record IsNumberExplained (fs : List BoardFunction) (at : BusAddress) : Type 0 where
  pub way : IsWay fs at.bus [] (bridges_on_way fs at)
  -- all bridges that claim the cycle, and no others
  pub taking : Each (IsTaking fs at.bus [] (bridges_on_way fs at)) (takers_on_way fs at)
  pub all_taking : (f : BoardFunction) → IsFalse (at.bus == 0) → IsTaking fs at.bus [] (bridges_on_way fs at) f
      → IsIn f (takers_on_way fs at)
  pub reached_is : reached fs at ≡ reached_at fs (end_of fs at) at.part
  pub missing_is : (m : Missing) → missing fs at (reached fs at) ≡ Some m → (reached fs at ≡ None) × IsMissing fs at m
  -- exactly the functions that an audit reports as not found by the BDF
  pub unfound : Each (IsUnfound fs at (why_number fs at)) (why_number fs at).not_found
  pub all_unfound : (p : Path) (instead : Option Path) → IsIn (audit.not_found p at instead) (audit.numbering_problems fs)
      → IsIn p (why_number fs at).not_found

abbrev pub NumbersExplained : Type 0
NumbersExplained = (fs : List BoardFunction) → IsStateOfBoard fs → (at : BusAddress) → IsNumberExplained fs at
