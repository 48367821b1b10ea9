-- The rows of functions are used up where the shorter of two lists ends.
use Rattle.std.proofs.{Common.{◌≡◌, ℕ, List, [], ◌∷◌, length, drop, min, refl, arith}, lemmas.{List.drop_all, Bool.cases_lt}}
use Rattle.model_set_up.specs.{FunctionTable.TableRow, SetUpWrites.FunctionProgram}
use Rattle.model_handoff.specs.FoundReport.{functions_text}

functions_text_nil : (rs : List TableRow) → functions_text rs [] ≡ []
functions_text_nil [] = refl
functions_text_nil (r ∷ rs) = refl

pub functions_text_end : (rs : List TableRow) (ss : List FunctionProgram) (n : ℕ) → n ≡ min (length rs) (length ss) → functions_text (drop n rs) (drop n ss) ≡ []
functions_text_end rs ss n e = grind (arith, drop_all, functions_text_nil, cases_lt)
