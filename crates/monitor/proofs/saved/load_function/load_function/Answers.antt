use Rattle.std.proofs.Common.{◌∙◌, ap, subst}
use Rattle.model_registers.specs.Registers.{File}
use Rattle.model_images.{specs.StepLaws.steps, proofs.Steps.loads_by_steps}
use Rattle.monitor.{specs.Loadings.{Becomes, filled_with}, proofs.LoadSteps.its_lawful}
use Rattle.monitor.proofs.saved.load_function.load_function.Goals as goal

-- what is loaded a guest and its device could have brought about themselves
pub returns-clause-loaded : goal.returns-clause-loaded
returns-clause-loaded c = λ k l.
    let values = c.args.values.now in
    subst (λ (file : File). Becomes k file c.load_registers.new.host c.load_registers.new.guests)
    (ap (steps k.f.decl values) l.at_reset ∙ loads_by_steps (filled_with values k.f) (its_lawful k) l.bytes l.fits)
    (c.load_registers.ensures.becomes k l)
