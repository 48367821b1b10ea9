use Rattle.std.proofs.{Common.rules, lemmas.List.Sorted.IsNonDecreasingBy-from_sort_by_key}
use Rattle.claim_table.specs.declared.region_entry.RegionEntry.{RegionEntry}
use Rattle.claim_table.proofs.open_regions.enabled_regions_sorted.Goals as goal

pub returns-clause-rising : goal.returns-clause-rising
returns-clause-rising c = IsNonDecreasingBy-from_sort_by_key (λ (e : RegionEntry). e.first) _ c.sort_unstable_by_key.ensures.sorted (λ a r q k. search rules)
