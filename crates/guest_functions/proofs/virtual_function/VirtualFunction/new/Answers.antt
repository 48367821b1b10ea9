use Rattle.std.proofs.Common.{List, false, subst, sym, ◌∙◌}
use Rattle.model_registers.{specs.{EndpointTable.{BaseAddress, endpoint_reset}, OwnCopies.HoldsOwn}, proofs.Owned.reset_holds_own}
use Rattle.guest_functions.proofs.virtual_function.VirtualFunction.new.Goals as goal

pub returns-clause-reset : goal.returns-clause-reset
returns-clause-reset c = λ d blocks same.
    subst (λ (bs : List BaseAddress). HoldsOwn (endpoint_reset d false) (record { command = 0; bases = bs })) (same ∙ sym c.new.ensures) (reset_holds_own d blocks)
