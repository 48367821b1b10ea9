use Rattle.std.proofs.Common.{◌≡◌, List, false, map, subst, sym, ap, ◌∙◌}
use Rattle.bars.proofs.Regions.{no_base_opened}
use Rattle.model_registers.{specs.{Declarations.HasLawfulRegions, EndpointTable.{BaseAddress, endpoint_reset, opened}, OwnCopies.{OwnCopies, HoldsOwn}}, proofs.Owned.reset_holds_own}
use Rattle.guest_functions.proofs.ResetCopies.{closed_as_opened}
use Rattle.guest_functions.proofs.virtual_function.VirtualFunction.reset.Goals as goal

-- the registers open what they opened
same_regions : (c : goal.After-reset) → map opened c.reset.new.self ≡ map opened c.self.inside.bars
same_regions c = ap (map opened) c.reset.ensures ∙ no_base_opened c.self.inside.bars

pub invariant_of-self : goal.invariant_of-self
invariant_of-self c = subst HasLawfulRegions (sym (same_regions c)) c.self.invariant

pub returns-clause-regions : goal.returns-clause-regions
returns-clause-regions c = same_regions c ∙ ap (λ (own : OwnCopies). map opened own.bases) c.self.view_is

pub returns-clause-reset : goal.returns-clause-reset
returns-clause-reset c = λ d blocks same.
    let was : map opened c.args.self.now.bases ≡ map opened c.self.inside.bars = sym (ap (λ (own : OwnCopies). map opened own.bases) c.self.view_is) in
    subst (λ (bs : List BaseAddress). HoldsOwn (endpoint_reset d false) (record { command = 0; bases = bs }))
    (closed_as_opened d.regions c.self.inside.bars (same ∙ was) ∙ sym c.reset.ensures) (reset_holds_own d blocks)
