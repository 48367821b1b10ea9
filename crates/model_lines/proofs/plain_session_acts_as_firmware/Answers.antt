use Rattle.model_lines.proofs.SessionLines as lines
use Rattle.model_lines.proofs.plain_session_acts_as_firmware.Goals as goal

pub returns : goal.returns
returns c = record { plain = lines.plain_session_acts_as_firmware; firmware = lines.driven_is_firmware; script = lines.given_is_script }
