-- The last address of a unit.
use Rattle.std.proofs.{lemmas.{Grind.common_steps, Bool.Decides.nat_tests, Nat.{mod-mul-add, mod_below, div-add-mod'}}, Common.{◌≡◌, ℕ, ◌+◌, ◌-◌, ◌%◌, ◌<◌, eqb, arith}}

-- an address is the last of a unit where the next begins one
pub ends_unit : (l u : ℕ) → 0 < u → eqb (l % u) (u - 1) ≡ eqb ((l + 1) % u) 0
ends_unit l u some = grind (arith, common_steps, mod_below, div-add-mod', mod-mul-add, nat_tests)
