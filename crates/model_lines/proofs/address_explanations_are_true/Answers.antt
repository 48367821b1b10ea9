use Rattle.model_lines.proofs.{Why.address_explanations_are_true, Answers.{orderly_answers_alone, ready_tells_nothing}}
use Rattle.model_lines.proofs.address_explanations_are_true.Goals as goal

pub returns : goal.returns
returns c = record { each = address_explanations_are_true; orderly = orderly_answers_alone; ready = ready_tells_nothing }
