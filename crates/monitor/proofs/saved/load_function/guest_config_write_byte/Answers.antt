use Rattle.std.{proofs.Common.{◌∙◌, ℕ, ap, subst, sym}, specs.Prelude.IsSome}
use Rattle.model_registers.specs.ByteEnables.{enables_of, to_lanes}
use Rattle.bridge_forward.specs.Lending.{endpoint_nth}
use Rattle.host_bridge.specs.Landings.{IsReached}
use Rattle.monitor.proofs.{LoadSteps.{its_endpoint, its_guest, its_slot, wrote_one}, Reached.reached_held}
use Rattle.monitor.proofs.saved.load_function.guest_config_write_byte.Goals as goal

pub config_write_nth-requires-clause-there : goal.config_write_nth-requires-clause-there
config_write_nth-requires-clause-there c =
    let k = c.requires in
    let written = c.write_guest_copies_and_count-index.ensures.written k.holds in
    subst (λ (x : ℕ). IsSome (endpoint_nth c.args.host.now.state.functions x)) (sym written.slots.index) (its_endpoint k)

pub config_write_nth-requires-clause-reached : goal.config_write_nth-requires-clause-reached
config_write_nth-requires-clause-reached c =
    let k = c.requires in
    let written = c.write_guest_copies_and_count-index.ensures.written k.holds in
    subst (λ (x : ℕ). IsReached c.args.host.now.state.functions x) (sym written.slots.index) (reached_held (its_guest k) (its_slot k))

pub returns-clause-becomes : goal.returns-clause-becomes
returns-clause-becomes c = λ k.
    wrote_one k c.args.off c.args.value
    (c.enables_of-enables.ensures ∙ ap (λ x. enables_of x 1) c.from-from.ensures)
    (c.to_lanes-moved.ensures ∙ ap (λ x. to_lanes x c.from.result) c.from-from.ensures ∙ ap (λ v. to_lanes c.args.off v) c.from.ensures)
    c.write_guest_copies_and_count-index.ensures.written c.config_write_nth.ensures
