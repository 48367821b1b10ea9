use Rattle.std.proofs.{Common.arith, lemmas.List.Elements.same_from_all_zip}
use Rattle.headers.proofs.endpoint_decl.EndpointDeclClone.clone.Goals as goal

pub invariant_of-result : goal.invariant_of-result
invariant_of-result c = grind (arith, same_from_all_zip)
