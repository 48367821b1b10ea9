use Rattle.std.proofs.Common.{subst, arith}
use Rattle.model_registers.{specs.EndpointTable.HasLawfulBases, proofs.Bases.reads_of_bases}
use Rattle.bars.proofs.Splits.{lawful_part, read_part, read_unused}
use Rattle.bars.proofs.bars.Bars.read.Goals as goal

pub register_value-requires : goal.register_value-requires
register_value-requires c = lawful_part c.self.inside.slots c.self.invariant c.args.reg c.in-Some.part c.in-Some.ensures.used

pub returns-in-Some-clause-word : goal.returns-in-Some-clause-word
returns-in-Some-clause-word c = grind (arith, read_part, reads_of_bases)

pub returns-in-None-clause-word : goal.returns-in-None-clause-word
returns-in-None-clause-word c = grind (arith, read_unused, reads_of_bases)

pub returns-in-Some-clause-lawful : goal.returns-in-Some-clause-lawful
returns-in-Some-clause-lawful c = subst HasLawfulBases c.self.view_is c.self.invariant

pub returns-in-None-clause-lawful : goal.returns-in-None-clause-lawful
returns-in-None-clause-lawful c = subst HasLawfulBases c.self.view_is c.self.invariant
