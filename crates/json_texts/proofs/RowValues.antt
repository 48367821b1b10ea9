-- The rows of functions are used up where the shorter of two lists ends.
use Rattle.std.proofs.{Common.{◌≡◌, ℕ, List, [], ◌∷◌, length, drop, min, refl, arith}, lemmas.{List.drop_all, Bool.cases_lt}}
use Rattle.model_board.specs.State.{BoardFunction}
use Rattle.model_set_up.specs.{FunctionTable.TableRow, SetUpWrites.FunctionProgram}
use Rattle.json_texts.specs.FoundValue.{function_values}

function_values_nil : (fs : List BoardFunction) (k : ℕ) (rs : List TableRow) → function_values fs k rs [] ≡ []
function_values_nil fs k [] = refl
function_values_nil fs k (r ∷ rs) = refl

pub function_values_end : (fs : List BoardFunction) (k : ℕ) (rs : List TableRow) (ss : List FunctionProgram) (n : ℕ) → n ≡ min (length rs) (length ss) → function_values fs k (drop n rs) (drop n ss) ≡ []
function_values_end fs k rs ss n e = grind (arith, drop_all, function_values_nil, cases_lt)
