use Rattle.std.proofs.Common.{◌≡◌, ◌++◌, drop, map}
use Rattle.serde_json.specs.View.{view}
use Rattle.json_texts.proofs.has_value.values.Given as goal

abbrev pub invariant-loop-one : goal.invariant-loop-one
invariant-loop-one g l = map view l.values.items ++ map g.T.HasValue.shown (map g.T.HasValue.told (drop l.one-index l.all)) ≡ map g.T.HasValue.shown (map g.T.HasValue.told l.all)
