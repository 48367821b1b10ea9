use Rattle.std.proofs.Common.{refl, rules}
use Rattle.bridge_forward.proofs.Known.{kept_at_first, unknown_at_first}
use Rattle.bridge_forward.proofs.routes.Routes.new_empty.Goals as goal

pub invariant_of-result : goal.invariant_of-result
invariant_of-result c = kept_at_first c.in_ok-bridges.bridges.items 256 (c.in_ok-bridges.ensures.items_if_clones_equal (λ y h. search rules)) refl

pub returns : goal.returns
returns c = unknown_at_first c.in_ok-bridges.bridges.items 256 (c.in_ok-bridges.ensures.items_if_clones_equal (λ y h. search rules))
