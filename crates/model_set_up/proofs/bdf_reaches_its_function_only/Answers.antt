use Rattle.model_set_up.proofs.{Routes.{only_named, one_route, bdf_reaches_its_function_only}, SetUpNumbers.set_up_has_numbers}
use Rattle.std.proofs.Common.{[]}
use Rattle.model_set_up.proofs.bdf_reaches_its_function_only.Goals as goal

pub returns : goal.returns
returns c = record {
  named = bdf_reaches_its_function_only;
  only_named = only_named;
  set_up = set_up_has_numbers;
  one_route = λ fs n t p q h k e d. one_route fs n t p q [] h k e d;
}
