-- What elements give, from an index on.
use Rattle.std.{proofs.{Common.{arith, ◌≡◌, ℕ, zero, suc, ◌+◌, List, [], ◌∷◌, ◌++◌, map, drop, refl, sym, ap, append-nil, append_assoc, add-one}, lemmas.List.map-append}, specs.{Prelude.{flat_map, slice_get}, Option.option_to_list}}
use Rattle.model_board.specs.State.{BoardFunction}
use Rattle.model_findings.specs.ReadinessIssues.{primary_bus_issue}
use Rattle.findings.specs.{Findings.issue_of, declared.readiness_issue.ReadinessIssue.ReadinessIssue}

flat_next : {A B : Type 0} (f : A → List B) (xs : List A) (i : ℕ) → flat_map f (drop i xs) ≡ flat_map f (option_to_list (slice_get xs i)) ++ flat_map f (drop (suc i) xs)
flat_next f [] zero = refl
flat_next f [] (suc i) = refl
flat_next f (x ∷ xs) zero = ap (λ ys. ys ++ flat_map f xs) (sym (append-nil (f x)))
flat_next f (x ∷ xs) (suc i) = flat_next f xs i

pub flat_step : {A B : Type 0} (f : A → List B) (xs : List A) (i : ℕ) → flat_map f (drop i xs) ≡ flat_map f (option_to_list (slice_get xs i)) ++ flat_map f (drop (i + 1) xs)
flat_step f xs i = rw add-one (flat_next f xs i)

-- ---- what is told of the bridge at an index

pub told_step : (fs : List BoardFunction) (told now : List ReadinessIssue) (l : ReadinessIssue) (i : ℕ) → now ≡ told ++ l ∷ [] → issue_of l ∷ [] ≡ flat_map (primary_bus_issue fs) (option_to_list (slice_get fs i))
    → map issue_of now ++ flat_map (primary_bus_issue fs) (drop (i + 1) fs) ≡ map issue_of told ++ flat_map (primary_bus_issue fs) (drop i fs)
told_step fs told now l i e told_is = grind (arith, map-append, append_assoc, flat_step)

pub none_step : (fs : List BoardFunction) (told now : List ReadinessIssue) (i : ℕ) → now ≡ told → [] ≡ flat_map (primary_bus_issue fs) (option_to_list (slice_get fs i))
    → map issue_of now ++ flat_map (primary_bus_issue fs) (drop (i + 1) fs) ≡ map issue_of told ++ flat_map (primary_bus_issue fs) (drop i fs)
none_step fs told now i e none = grind (arith, flat_step)
