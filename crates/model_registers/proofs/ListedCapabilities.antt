-- An endpoint lists the structures that were declared.
use Rattle.std.{proofs.{Common.{◌≡◌, ◌<◌, List, [], ◌∷◌, ◌++◌, refl, arith}, lemmas.{Bool.{Decides.nat_tests}, Nat.{and_or_self}}}, specs.Prelude.map}
use Rattle.lists.specs.Elements.{Each}
use Rattle.model_registers.specs.{Declarations.ConfigBlock, Capabilities.{Capability, first_offset_or_zero, structures, capabilities_linked_forward, as_listed, ListsDeclared}}

none_after : (more : List ConfigBlock) → capabilities_linked_forward 0 more ≡ []
none_after [] = refl
none_after (b ∷ bs) = none_after bs

all_listed : (cs : List Capability) (more : List ConfigBlock) → Each (λ (c : Capability). 0 < c.offset) cs
    → capabilities_linked_forward (first_offset_or_zero cs) (structures cs ++ more) ≡ map as_listed cs
all_listed [] more h = none_after more
all_listed (c ∷ cs) more h = grind (arith, nat_tests, all_listed cs more h.1)

pub lists_declared : ListsDeclared
lists_declared d c cs h = rw (and_or_self 0x10 d.status) (all_listed (c ∷ cs) d.blocks h)
