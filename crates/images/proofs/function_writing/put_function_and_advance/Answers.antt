use Rattle.std.proofs.Common.{◌≡◌, ◌+◌, ◌≤◌, ◌∙◌, List, ℕ, length, ap, sym, subst, arith}
use Rattle.model_registers.specs.Declarations.{Endpoint}
use Rattle.model_images.specs.ImageBytes.{declaration_bytes}
use Rattle.images.{specs.{Puts.put, Shown.shown_values}, proofs.{Puts.next, ShownValues.{function_is, length_is}}}
use Rattle.images.proofs.function_writing.put_function_and_advance.Goals as goal

pub put_declaration_and_advance-next-requires : goal.put_declaration_and_advance-next-requires
put_declaration_and_advance-next-requires c =
    let e = c.args.endpoint.now in
    let same = ap (λ (d : Endpoint). length (declaration_bytes d)) c.decl.ensures in
    let whole = length_is e c.args.own.now c.requires.places in
    omega (arith, c.requires.room)

pub put_all_values_and_advance-requires : goal.put_all_values_and_advance-requires
put_all_values_and_advance-requires c = grind (arith, length_is)

pub returns-clause-end : goal.returns-clause-end
returns-clause-end c = grind (arith, length_is)

pub returns-clause-bytes : goal.returns-clause-bytes
returns-clause-bytes c =
    let e = c.args.endpoint.now in
    let own = c.args.own.now in
    let is = function_is e own c.put_all_values_and_advance.ensures.lawful c.requires.places in
    let first : c.put_declaration_and_advance-next.new.out ≡ put c.args.at (declaration_bytes e.decl) c.args.out.now = grind arith in
    let end : c.put_declaration_and_advance-next.result ≡ c.args.at + length (declaration_bytes e.decl) = grind arith in
    let room = subst (λ (xs : List ℕ). c.args.at + length xs ≤ length c.args.out.now) (sym is) c.requires.room in
    let a = next c.args.at c.put_declaration_and_advance-next.result (declaration_bytes e.decl) (shown_values e own e.decl) c.args.out.now c.put_declaration_and_advance-next.new.out first end room in
    c.put_all_values_and_advance.ensures.bytes ∙ a.bytes ∙ ap (λ (xs : List ℕ). put c.args.at xs c.args.out.now) is
