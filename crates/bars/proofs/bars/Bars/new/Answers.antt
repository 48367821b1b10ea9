use Rattle.std.proofs.Common.{subst, sym}
use Rattle.model_registers.specs.EndpointTable.{HasLawfulBases}
use Rattle.bars.proofs.Regions.{reset_lawful}
use Rattle.bars.proofs.bars.Bars.new.Goals as goal

pub invariant_of-result : goal.invariant_of-result
invariant_of-result c = subst HasLawfulBases (sym c.new.ensures) (reset_lawful c.args.decls c.requires)
