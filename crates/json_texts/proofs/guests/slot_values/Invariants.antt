use Rattle.std.proofs.Common.{◌≡◌, ◌++◌, drop, map}
use Rattle.serde_json.specs.View.{view}
use Rattle.json_texts.specs.ReportValue.{slot_values}
use Rattle.json_texts.proofs.guests.slot_values.Given as goal

abbrev pub invariant-loop-slot : goal.invariant-loop-slot
invariant-loop-slot l = map view l.values.items ++ slot_values l.slot (drop l.slot l.paths) ≡ slot_values 0 l.paths
