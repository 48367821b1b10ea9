use Rattle.std.proofs.Common.{List, Bool, cond, sym, subst, ap, ap₂, ◌∙◌, arith}
use Rattle.model_registers.{specs.{Registers.{config, File, cell_at, write}, ByteEnables.lanes, OwnCopies.{is_own, OwnCopies, own_file, HoldsOwn}}, proofs.Owned.own_writes}
use Rattle.guest_functions.proofs.Copies.{is_away, store_command, store_base, store_away}
use Rattle.guest_functions.proofs.virtual_function.VirtualFunction.config_write.Goals as goal

pub returns-clause-own : goal.returns-clause-own
returns-clause-own c = grind (arith, store_command, store_base, store_away, is_away)

pub returns-clause-together : goal.returns-clause-together
returns-clause-together c = λ file holds p.
    let own : OwnCopies = record { command = c.self.inside.command; bases = c.self.inside.bars } in
    own_writes own file (subst (HoldsOwn file) (sym c.self.view_is) holds) (config c.args.off) p (lanes c.args.enables) c.args.value
    ∙ ap₂ (λ (f : File) (ons : List Bool). cond (is_own p) (cell_at f p) (cell_at (write ons c.args.value (config c.args.off) file) p))
    (ap (λ (o : OwnCopies). write (lanes c.args.enables) c.args.value (config c.args.off) (own_file o)) c.self.view_is ∙ sym (returns-clause-own c)) (sym c.forwarded_byte_enables.ensures.others)
