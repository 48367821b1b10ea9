-- What is told of a place is what an access there does.
use Rattle.std.{proofs.Common.{◌≡◌, ℕ, Bool, false, cond, sym, subst, arith}, specs.Prelude.◌==◌}
use Rattle.lists.proofs.Tests.{and_false}
use Rattle.model_registers.specs.ConfigAddress.{is_address_port}
use Rattle.model_guests.specs.{Accesses.{Target, configuration, port, address, Op}, Slots.effect, Lone.{LoneGuest, Destination, own_latch, no_function, at_target, ordinary, nowhere, in_slot, Select, by_select, select_at, destination, after_access_at}}
use Rattle.model_handoff.specs.{Located.{landing_at, is_latch_access}, QueryLaws.{AccessLands, NothingHit}}

-- no byte is CONFIG_ADDRESS
no_byte : (a : ℕ) → is_address_port a 1 ≡ false
no_byte a = and_false (a == 0xcf8)

-- every other access goes where a byte goes
pub same_destination : (latch w : ℕ) (t : Target) → is_latch_access t w ≡ false → destination latch w t ≡ destination latch 1 t
same_destination latch w t other = grind (arith, no_byte)

-- a byte never goes to the latch
pub data Goes : Destination → Type 0 where
  goes_nowhere : Goes no_function
  goes_to : (t : Target) → Goes (at_target t)

by_selection : (t : Target) (s : Select) → Goes (by_select t s)
by_selection t ordinary = goes_to t
by_selection t nowhere = goes_nowhere
by_selection t (in_slot n off) = goes_to (configuration n off)

pub byte_goes : (latch : ℕ) (t : Target) → Goes (destination latch 1 t)
byte_goes latch (configuration slot off) = goes_to (configuration slot off)
byte_goes latch (address a) = goes_to (address a)
byte_goes latch (port a) = subst (λ (b : Bool). Goes (cond b own_latch (by_select (port a) (select_at latch a)))) (sym (no_byte a)) (by_selection (port a) (select_at latch a))

pub changed_there : (g : LoneGuest) (op : Op) (w : ℕ) (d : Destination) → Goes d → after_access_at g op w d ≡ record g { slots = effect op w g.slots (landing_at g d) }
changed_there g op w d goes = grind arith

pub access_lands : AccessLands
access_lands g t w op passed other = grind (arith, same_destination, byte_goes, changed_there)

pub nothing_hit : NothingHit
nothing_hit g t w v none other passed = grind (arith, access_lands)
