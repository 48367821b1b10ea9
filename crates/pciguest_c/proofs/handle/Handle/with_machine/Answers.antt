use Rattle.std.{proofs.Common.{rules, Option, ap}, specs.Prelude.option_and_then}
use Rattle.model_lines.specs.Sessions.{SessionNow}
use Rattle.session.specs.Stages.{machine_in}
use Rattle.pciguest_c.{specs.Handles.session_of, proofs.Options.where_lent}
use Rattle.pciguest_c.proofs.handle.Handle.with_machine.Goals as goal

pub returns-clause-asked : goal.returns-clause-asked
returns-clause-asked g c =
    where_lent machine_in _ (session_of c.args.self.now) _ _ c.in-Some-monitor.machine.now c.in-Some.ensures.session c.deref_mut.ensures.value c.in-Some-monitor.ensures.machine (
      c.question-answer.new.arg2,
      search rules,
      ap (λ (o : Option SessionNow). option_and_then machine_in o) c.of-2.ensures,
    )
