use Rattle.std.{proofs.Common.{ℕ, None, Some, Option, ap, ◌∙◌}, specs.Prelude.unwrap_or}
use Rattle.model_guests.specs.WorldNow.{board_state}
use Rattle.pciguest_c.proofs.FoundRegisters.{number_found}
use Rattle.pciguest_c.proofs.values.interrupts.board_register_or_zero.Goals as goal

pub returns-in-Some : goal.returns-in-Some
returns-in-Some c =
    c.unwrap_or.ensures ∙ ap (λ (o : Option ℕ). unwrap_or o 0) c.peek_config_nth.ensures
    ∙ number_found _ (board_state c.args.machine.now.world) c.args.path.now (Some c.in-Some.index) c.args.offset c.args.width
    c.in-Some.ensures.function c.host-host.ensures.state

pub returns-in-None : goal.returns-in-None
returns-in-None c =
    number_found _ (board_state c.args.machine.now.world) c.args.path.now None c.args.offset c.args.width c.in-None.ensures.function
    c.host-host.ensures.state
