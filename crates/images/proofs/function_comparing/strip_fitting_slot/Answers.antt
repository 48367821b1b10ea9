use Rattle.std.{proofs.Common.{◌≡◌, ◌∙◌, Ok, Err, sym, ap, subst, arith, rules}, specs.Prelude.{IfErr, IfOk, false}}
use Rattle.model_registers.specs.{Declarations.Endpoint, EndpointTable.endpoint_reset}
use Rattle.model_images.specs.{ImageBytes.declaration_bytes, LoadedBytes.{Left, after_bytes, after_values}}
use Rattle.images.{specs.Faults.number_of, proofs.ComparedFunctions.{declaration_ends, tag_ends, values_decide}}
use Rattle.images.proofs.function_comparing.strip_fitting_slot.Goals as goal

pub returns-in_err-bytes-clause-refused : goal.returns-in_err-bytes-clause-refused
returns-in_err-bytes-clause-refused c = grind (arith, tag_ends)

pub returns-in_err-bytes-2-clause-refused : goal.returns-in_err-bytes-2-clause-refused
returns-in_err-bytes-2-clause-refused c =
    let e =
    declaration_ends c.args.endpoint.now.decl c.args.bytes.now c.in_ok-bytes.bytes.now c.in_ok-bytes.ensures.left (number_of c.in_err-bytes-2.field-0.0)
    (ap (λ (d : Endpoint). after_bytes 906 (declaration_bytes d) c.in_ok-bytes.bytes.now) (sym c.decl-decl.ensures) ∙ c.in_err-bytes-2.ensures.refused) in
    search rules

pub returns-clause-left : goal.returns-clause-left
returns-clause-left c =
    subst (λ (x : Left). IfOk c.strip_fitting_values_of_endpoint.result (λ rest. x ≡ Ok rest.now))
    (ap (λ (d : Endpoint). after_values (endpoint_reset d false) c.in_ok-bytes-2.bytes.now) c.decl-decl.ensures
    ∙ sym (values_decide c.args.endpoint.now.decl c.args.bytes.now c.in_ok-bytes.bytes.now c.in_ok-bytes.ensures.left c.in_ok-bytes-2.bytes.now
    (ap (λ (d : Endpoint). after_bytes 906 (declaration_bytes d) c.in_ok-bytes.bytes.now) (sym c.decl-decl.ensures) ∙ c.in_ok-bytes-2.ensures.left)))
    c.strip_fitting_values_of_endpoint.ensures.left

pub returns-clause-refused : goal.returns-clause-refused
returns-clause-refused c =
    subst (λ (x : Left). IfErr c.strip_fitting_values_of_endpoint.result (λ why. x ≡ Err (number_of why)))
    (ap (λ (d : Endpoint). after_values (endpoint_reset d false) c.in_ok-bytes-2.bytes.now) c.decl-decl.ensures
    ∙ sym (values_decide c.args.endpoint.now.decl c.args.bytes.now c.in_ok-bytes.bytes.now c.in_ok-bytes.ensures.left c.in_ok-bytes-2.bytes.now
    (ap (λ (d : Endpoint). after_bytes 906 (declaration_bytes d) c.in_ok-bytes.bytes.now) (sym c.decl-decl.ensures) ∙ c.in_ok-bytes-2.ensures.left)))
    c.strip_fitting_values_of_endpoint.ensures.refused
