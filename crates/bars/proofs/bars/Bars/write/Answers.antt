use Rattle.std.proofs.Common.{◌≡◌, map, sym, subst, arith}
use Rattle.model_registers.{specs.{ByteEnables.lanes, EndpointTable.HasLawfulBases, BaseLaws.rewritten}, proofs.Bases.writes_of_bases}
use Rattle.bars.{specs.Slots.bases_from, proofs.Splits.{lawful_part, stored_part, still_stored, write_unused, still_lawful, still_opened}}
use Rattle.bars.proofs.bars.Bars.write.Goals as goal

pub written-region-requires : goal.written-region-requires
written-region-requires c = lawful_part c.self.inside.slots c.self.invariant c.args.reg c.in-Some.part c.in-Some.ensures.used

-- the slots after the write
stored : (c : goal.After-store_region)
    → bases_from 0 c.store_region.new.self ≡ map (rewritten c.args.reg (lanes c.args.enables) c.args.value) (bases_from 0 c.self.inside.slots)
stored c = grind (arith, stored_part)

pub invariant_of-self : goal.invariant_of-self
invariant_of-self c = subst HasLawfulBases (sym (stored c)) (still_lawful c.args.reg (lanes c.args.enables) c.args.value (bases_from 0 c.self.inside.slots) c.self.invariant)

pub returns-then-region-part-clause-cells : goal.returns-then-region-part-clause-cells
returns-then-region-part-clause-cells c = grind (arith, stored, writes_of_bases)

pub returns-then-region-part-clause-regions : goal.returns-then-region-part-clause-regions
returns-then-region-part-clause-regions c = grind (arith, stored, still_opened)

pub returns-in_default-clause-cells : goal.returns-in_default-clause-cells
returns-in_default-clause-cells c = grind (arith, write_unused, writes_of_bases)

-- no region moved
unmoved : (c : goal.Else-region-part)
    → map (rewritten c.args.reg (lanes c.args.enables) c.args.value) (bases_from 0 c.self.inside.slots) ≡ bases_from 0 c.self.inside.slots
unmoved c =
    still_stored c.self.inside.slots c.self.invariant c.args.reg (lanes c.args.enables) c.args.value c.in-Some.part c.in-Some.ensures.used
    (grind arith) (grind arith) c.written-region.result (grind arith) (grind arith)

pub returns-else-region-part-clause-cells : goal.returns-else-region-part-clause-cells
returns-else-region-part-clause-cells c = grind (arith, unmoved, writes_of_bases)
