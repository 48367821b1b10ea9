-- A document that is refused has a problem of its fault, and one with a problem of a fault fails its check.
use Rattle.std.proofs.Common.{◌≡◌, ◌≢◌, ℕ, true, false, List, [], ◌∷◌, Option, Some, Err, refl, sym, ap, ◌∙◌, arith}
use Rattle.board_file.{specs.{Entries.file, KeyProblems.problems_of, Meaning.unless, Problems.{none, problems_in}, RefusalLaws.{RefusalsHaveProblems, ProblemsBreakChecks}}, proofs.{FirstBroken.{broken_at, from_number, alone}, Tests.nothing_listed}}
use Rattle.board_file.specs.declared.fault.BoardFault.TheVariants as fault

some_there : {A : Type 0} (xs : List A) → none xs ≡ false → xs ≢ []
some_there xs h empty = let wrong : true ≡ false = ap none (sym empty) ∙ h in cc

nothing : {A : Type 0} (xs : List A) → none xs ≡ true → xs ≡ []
nothing [] h = refl
nothing (x ∷ xs) h = absurd (cc)

not_none : {A : Type 0} (xs : List A) → xs ≢ [] → none xs ≡ false
not_none [] h = absurd (h refl)
not_none (x ∷ xs) h = refl

broken_of : {A : Type 0} (o : Option ℕ) (x : A) (n : ℕ) → unless o x ≡ Err n → o ≡ Some n
broken_of o x n h = grind arith

pub refusals_have_problems : RefusalsHaveProblems
refusals_have_problems ms fault.NotToml h = grind (arith, broken_at, broken_of)
refusals_have_problems ms fault.Memory h = grind (arith, broken_at, broken_of)
refusals_have_problems ms told h = grind (arith, some_there, alone, broken_at, broken_of)

pub problems_break_checks : ProblemsBreakChecks
unfolding problems_of
problems_break_checks ms fault.NotToml h = absurd (h (nothing (problems_in (file ms) fault.NotToml) (simp nothing_listed)))
problems_break_checks ms fault.Memory h = absurd (h (nothing (problems_in (file ms) fault.Memory) (simp nothing_listed)))
problems_break_checks ms told h = grind (arith, from_number, not_none)
