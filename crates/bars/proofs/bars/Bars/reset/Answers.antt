use Rattle.std.proofs.Common.{◌≡◌, subst, sym, map, ap, ◌∙◌}
use Rattle.model_registers.specs.EndpointTable.{HasLawfulBases}
use Rattle.bars.{specs.{Resets.with_no_base, Slots.bases_from}, proofs.Regions.{no_base_lawful, no_base_from}}
use Rattle.bars.proofs.bars.Bars.reset.Goals as goal

-- the slots after the reset
cleared : (c : goal.After-clear_bases) → bases_from 0 c.clear_bases.new.self ≡ map with_no_base (bases_from 0 c.self.inside.slots)
cleared c = ap (bases_from 0) c.clear_bases.ensures ∙ no_base_from c.self.inside.slots 0

pub invariant_of-self : goal.invariant_of-self
invariant_of-self c = subst HasLawfulBases (sym (cleared c)) (no_base_lawful (bases_from 0 c.self.inside.slots) c.self.invariant)

pub returns : goal.returns
returns c = cleared c ∙ ap (map with_no_base) c.self.view_is
