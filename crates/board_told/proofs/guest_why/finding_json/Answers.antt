use Rattle.std.proofs.Common.{ap, ◌∙◌}
use Rattle.serde_json.specs.Written.{has_float}
use Rattle.board_told.{specs.GuestFindings.finding_told, proofs.NoFloats.none_in_finding}
use Rattle.board_told.proofs.guest_why.finding_json.Goals as goal

pub explanation_json-requires : goal.explanation_json-requires
explanation_json-requires c = ap has_float c.in_ok-found.ensures ∙ none_in_finding (finding_told c.args.finding.now)

pub explanation_json-requires-in-Config : goal.explanation_json-requires-in-Config
explanation_json-requires-in-Config c = ap has_float c.in_ok-found.ensures ∙ none_in_finding (finding_told c.args.finding.now)
