use Rattle.std.proofs.Common.{ℕ, ◌+◌, List, Bool, sym, subst, ap, ap₂, ◌∙◌, arith}
use Rattle.model_registers.{specs.{Registers.{config, read}, ByteEnables.lanes, OwnCopies.{OwnCopies, own_file, HoldsOwn}}, proofs.Owned.own_reads}
use Rattle.guest_functions.proofs.Copies.{is_away, at_command, at_base, at_away}
use Rattle.guest_functions.proofs.virtual_function.VirtualFunction.config_read.Goals as goal

pub returns-clause-own : goal.returns-clause-own
returns-clause-own c = grind (arith, at_command, at_base, at_away, is_away)

pub returns-clause-together : goal.returns-clause-together
returns-clause-together c = λ file holds.
    let own : OwnCopies = record { command = c.self.inside.command; bases = c.self.inside.bars } in
    own_reads own c.self.invariant file (subst (HoldsOwn file) (sym c.self.view_is) holds) (config c.args.off) (lanes c.args.enables)
    ∙ ap₂ (λ (n : ℕ) (ons : List Bool). n + read file (config c.args.off) ons)
    (ap (λ (o : OwnCopies). read (own_file o) (config c.args.off) (lanes c.args.enables)) c.self.view_is ∙ sym (returns-clause-own c)) (sym c.forwarded_byte_enables.ensures.others)
