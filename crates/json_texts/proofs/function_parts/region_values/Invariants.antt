use Rattle.std.proofs.Common.{◌≡◌, ◌++◌, drop, map}
use Rattle.serde_json.specs.View.{view}
use Rattle.bars.specs.Slots.{bases_from}
use Rattle.json_texts.specs.ReportValue.{region_value}
use Rattle.json_texts.proofs.function_parts.region_values.Given as goal

abbrev pub invariant-loop-index : goal.invariant-loop-index
invariant-loop-index l =
    map view l.values.items ++ map region_value (bases_from l.index (drop l.index l.bases)) ≡ map region_value (bases_from 0 l.bases)
