use Rattle.model_lines.proofs.{Requests.{host_words_are_no_form, requests_are_no_form}, SessionLines.{questions_change_nothing, refused_stays}}
use Rattle.model_lines.proofs.only_handover_request_acts.Goals as goal

pub returns : goal.returns
returns c = record {
  no_form = host_words_are_no_form;
  requests_no_form = requests_are_no_form;
  nothing = questions_change_nothing;
  refused = refused_stays;
}
