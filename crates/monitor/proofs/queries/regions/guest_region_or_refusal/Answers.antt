use Rattle.monitor.proofs.QuerySteps.{answer_there, answer_refused}
use Rattle.monitor.proofs.queries.regions.guest_region_or_refusal.Goals as goal

pub returns-in-Err : goal.returns-in-Err
returns-in-Err c = λ w i is. answer_refused is c.deref.ensures.value c.args.slot c.args.bar c.in-Err.ensures.refused

pub returns-in-Some : goal.returns-in-Some
returns-in-Some c = λ w i is. answer_there is c.deref.ensures.value c.args.slot c.args.bar c.in-Ok.ensures.there c.in-Some.ensures

pub returns-in-None : goal.returns-in-None
returns-in-None c = λ w i is. answer_there is c.deref.ensures.value c.args.slot c.args.bar c.in-Ok.ensures.there c.in-None.ensures
