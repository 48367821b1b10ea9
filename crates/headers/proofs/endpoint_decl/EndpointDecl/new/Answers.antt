-- The sort puts the regions into register order, and leaves a lawful declaration.
use Rattle.std.{proofs.{Common.{◌≡◌, List, None, Ok, sym, ap, ◌∙◌, subst, rules, arith}, lemmas.List.Sorted.IsNonDecreasingBy-from_sort_by_key}, specs.List.Sorted.IsNonDecreasingBy}
use Rattle.lists.specs.Elements.{Each}
use Rattle.model_registers.{specs.{Declarations.{Region, Endpoint, IsLawfulSize}, DeclarationRules.{first_broken, endpoint_rules, with_ordered_regions, IsLawfulEndpoint}}, proofs.{LawfulDeclarations.{own_registers, sorted_is_lawful, lawful_breaks_none}, RegisterOrder.{sorted_is_in_register_order, lawful_are_in_register_order}}}
use Rattle.headers.specs.Values.{endpoint_of}
use Rattle.headers.proofs.endpoint_decl.EndpointDecl.new.Goals as goal

sorted : (c : goal.After-sort_unstable_by_key) → IsNonDecreasingBy (λ (r : Region). r.index) c.sort_unstable_by_key.new.self.items
sorted c = IsNonDecreasingBy-from_sort_by_key (λ (r : Region). r.index) _ c.sort_unstable_by_key.ensures.sorted (λ a r q k. search rules)

lawful : (c : goal.After-sort_unstable_by_key) → IsLawfulEndpoint (record (endpoint_of c.values-2.inside) { regions = c.sort_unstable_by_key.new.self.items })
lawful c =
    let d = endpoint_of c.values-2.inside in
    let ys : List Region = c.sort_unstable_by_key.new.self.items in
    let same : c.args.values ≡ d = sym c.values-2.view_is in
    let none : first_broken (endpoint_rules c.args.values) ≡ None = sym c.in_default.ensures.first in
    let sizes : Each (λ (r : Region). IsLawfulSize r.kind r.size) c.args.values.regions = c.in_default.ensures.sizes in
    sorted_is_lawful d ys c.values-2.invariant
    (subst (λ (e : Endpoint). Each (λ (r : Region). IsLawfulSize r.kind r.size) e.regions) same sizes)
    (subst (λ (e : Endpoint). first_broken (endpoint_rules e) ≡ None) same none)
    c.sort_unstable_by_key.ensures.permutation (sorted c)

declared : (c : goal.After-sort_unstable_by_key) → record (endpoint_of c.values-2.inside) { regions = c.sort_unstable_by_key.new.self.items } ≡ with_ordered_regions c.args.values
declared c =
    let d = endpoint_of c.values-2.inside in
    let same : c.args.values ≡ d = sym c.values-2.view_is in
    let none : first_broken (endpoint_rules c.args.values) ≡ None = sym c.in_default.ensures.first in
    let ordered = sorted_is_in_register_order d.regions c.sort_unstable_by_key.new.self.items c.sort_unstable_by_key.ensures.permutation (sorted c)
    (own_registers d (subst (λ (e : Endpoint). first_broken (endpoint_rules e) ≡ None) same none)) in
    ap (λ (rs : List Region). record d { regions = rs }) ordered ∙ ap with_ordered_regions (sym same)

pub invariant_of-result : goal.invariant_of-result
invariant_of-result c = lawful c

pub returns-clause-lawful : goal.returns-clause-lawful
returns-clause-lawful c = lawful c

-- the parts of a lawful declaration stand in order already
pub returns-clause-complete : goal.returns-clause-complete
returns-clause-complete c h =
    let v = c.args.values in
    ap Ok (declared c ∙ ap (λ (rs : List Region). record v { regions = rs }) (lawful_are_in_register_order v.regions h.regions))

pub returns-in-Some-clause-complete : goal.returns-in-Some-clause-complete
returns-in-Some-clause-complete c h = grind (arith, lawful_breaks_none)

pub returns-clause-declared : goal.returns-clause-declared
returns-clause-declared c = declared c
