use Rattle.std.proofs.{Common.rules, lemmas.List.Sorted.IsNonDecreasingBy-from_sort_by_key}
use Rattle.findings.specs.Spans.{sort_key}
use Rattle.findings.proofs.span.sorted_spans.Goals as goal

pub returns-clause-rising : goal.returns-clause-rising
returns-clause-rising c = IsNonDecreasingBy-from_sort_by_key sort_key _ c.sort_unstable_by_key.ensures.sorted (λ a r q k. search rules)
