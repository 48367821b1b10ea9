use Rattle.std.proofs.Common.{◌≡◌, ◌++◌, drop, length, map}
use Rattle.serde_json.specs.View.{view}
use Rattle.json_texts.specs.FoundValue.{function_values}
use Rattle.json_texts.proofs.functions.function_values.Given as goal

abbrev pub invariant-loop-row : goal.invariant-loop-row
invariant-loop-row l =
    (length l.values.items ≡ length l.yielded)
    × (map view l.values.items ++ function_values l.host.state.functions (length l.yielded) (drop (length l.yielded) l.rows) (drop (length l.yielded) l.settings)
    ≡ function_values l.host.state.functions 0 l.rows l.settings)
