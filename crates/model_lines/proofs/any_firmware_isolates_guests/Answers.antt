use Rattle.model_lines.proofs.GivenBoards.{given_isolated, given_alike, given_as_set_up, given_stays, orderly_stays}
use Rattle.model_lines.proofs.any_firmware_isolates_guests.Goals as goal

pub returns : goal.returns
returns c = record {
  isolated = given_isolated;
  alike = given_alike;
  set_up = given_as_set_up;
  stays = given_stays;
  orderly = orderly_stays;
}
