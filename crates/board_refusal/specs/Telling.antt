-- What is told of a board file that is refused.
--     HasPlace text ms t      its place, where it is known, is that of its value, and so are those of its cause and of the other entry
--     ArePlaced text ms problems told      these problems with their places, in the order of their lines
--     AreOfCheck text ms check told      all that break a rule of a check
--     checks_reported_with fault      the checks that are made together with that of the fault
--     AreProblems text ms fault told      all that break a rule of these, check after check
--     IsPlaceIn bytes p      a part of the text, with its line
use Rattle.std.specs.{Prelude.{◌≡◌, ◌≤◌, ℕ, List, [], ◌∷◌, ◌++◌, length, map, option_map, IfSome, unwrap_or, IsPermutation}, List.Sorted.{IsNonDecreasingBy, IsStableByKey}, Ordering.nat_cmp}
use Rattle.toml.specs.Data.{Members}
use Rattle.lists.specs.Elements.{Each}
use Rattle.board_file.specs.{declared.{fault.BoardFault.BoardFault, finding.Violation.Violation}, Problems.found_of, KeyProblems.problems_of, Meaning.file_checks}
use Rattle.diagnostics.specs.{declared.text_place.TextPlace.TextPlace, LineNumbers.line_of, EntryPlaces.IsPlaceOf}
use Rattle.board_refusal.specs.declared.placed_breach.PlacedBreach.{PlacedBreach}
use Rattle.board_file.specs.declared.fault.BoardFault.TheVariants as fault

-- ---- places

abbrev pub problem_of : PlacedBreach → Violation
problem_of t = t.problem

pub record HasPlace (text : List ℕ) (ms : Members) (t : PlacedBreach) : Type 0 where
  pub own : IfSome t.place (IsPlaceOf text ms t.problem.entry t.problem.key.now)
  pub cause : IfSome t.cause (λ o. IfSome o.place (IsPlaceOf text ms o.entry t.cause_key.now))
  pub other : IfSome t.other (λ o. IfSome o.place (IsPlaceOf text ms o.entry t.problem.key.now))

-- a part of the text, with its line
pub record IsPlaceIn (bytes : List ℕ) (p : TextPlace) : Type 0 where
  pub begins : p.start ≤ p.end
  pub ends : p.end ≤ length bytes
  pub is_line : p.line ≡ line_of p.start bytes

-- ---- the order of lines

-- the line of a problem, or 0 where none is known
abbrev pub line_or_zero : PlacedBreach → ℕ
line_or_zero t = unwrap_or (option_map (λ p. p.line) t.place) 0

-- those without a line come first, and those of one line keep the order of the file's entries
pub record ArePlaced (text : List ℕ) (ms : Members) (problems : List Violation) (told : List PlacedBreach) : Type 0 where
  pub found : List PlacedBreach
  pub are_all : map problem_of found ≡ problems
  pub have_places : Each (HasPlace text ms) found
  pub are_same : IsPermutation found told
  pub in_order : IsNonDecreasingBy line_or_zero told
  pub is_stable : IsStableByKey line_or_zero nat_cmp found told

-- ---- all that is wrong

pub record AreOfCheck (text : List ℕ) (ms : Members) (check : BoardFault) (told : List PlacedBreach) : Type 0 where
  pub problems : List Violation
  pub are_all : map found_of problems ≡ problems_of ms check
  pub are_placed : ArePlaced text ms problems told

-- a list of two parts
pub record AreBoth (First Rest : List PlacedBreach → Type 0) (told : List PlacedBreach) : Type 0 where
  pub front : List PlacedBreach
  pub back : List PlacedBreach
  pub are_all : told ≡ front ++ back
  pub first : First front
  pub rest : Rest back

abbrev pub AreOfChecks : List ℕ → Members → List BoardFault → List PlacedBreach → Type 0
AreOfChecks text ms [] told = told ≡ []
AreOfChecks text ms (f ∷ fs) told = AreBoth (AreOfCheck text ms f) (AreOfChecks text ms fs) told

-- keys, and then values; patterns are judged last, since their lengths go by those of blocks
abbrev pub checks_reported_with : BoardFault → List BoardFault
checks_reported_with fault.Key = fault.Key ∷ fault.UnknownKey ∷ []
checks_reported_with fault.UnknownKey = fault.Key ∷ fault.UnknownKey ∷ []
checks_reported_with fault.CellMasks = fault.CellMasks ∷ []
checks_reported_with _ = file_checks

abbrev pub AreProblems : List ℕ → Members → BoardFault → List PlacedBreach → Type 0
AreProblems text ms fault told = AreOfChecks text ms (checks_reported_with fault) told
