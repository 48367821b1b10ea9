use Rattle.std.proofs.Common.{ℕ, List, ap₂}
use Rattle.model_registers.specs.{EndpointTable.BaseAddress, OwnCopies.OwnCopies}
use Rattle.model_board.specs.Ports.{file_at}
use Rattle.monitor.proofs.OwnStanding.{six_standing}
use Rattle.monitor.proofs.queries.own_registers.own_registers_of_function.Goals as goal

pub returns : goal.returns
returns c = λ s p f held lawful.
    let own = c.args.held.now in
    ap₂ (λ (k : ℕ) (bs : List BaseAddress). let o : OwnCopies = record { command = k; bases = bs } in o)
    (c.guest_command.ensures f.file held.own)
    (six_standing (file_at s.functions p) f.file f.decl.regions own.placed c.bar_with_guest_base.ensures.six held.placed _ _ _ _ _ _
    (c.bar_with_guest_base.ensures.told s p f held lawful)
    (c.bar_with_guest_base-2.ensures.told s p f held lawful)
    (c.bar_with_guest_base-3.ensures.told s p f held lawful)
    (c.bar_with_guest_base-4.ensures.told s p f held lawful)
    (c.bar_with_guest_base-5.ensures.told s p f held lawful)
    (c.bar_with_guest_base-6.ensures.told s p f held lawful))
