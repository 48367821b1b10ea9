use Rattle.model_images.proofs.Counts.{lawful_along_requests, answers_stay_along, request_counts_grow, answers_stay_by_count}
use Rattle.model_images.proofs.unchanged_count_keeps_answers.Goals as goal

pub returns : goal.returns
returns c = search (lawful_along_requests, answers_stay_along, request_counts_grow, answers_stay_by_count)
