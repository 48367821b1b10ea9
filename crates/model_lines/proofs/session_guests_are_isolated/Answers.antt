use Rattle.model_lines.proofs.HandoverLines.{given_by, isolated_sessions}
use Rattle.model_lines.proofs.session_guests_are_isolated.Goals as goal

pub returns : goal.returns
returns c = record { given = given_by; isolated = isolated_sessions }
