-- The first slot whose region decodes an address.
use Rattle.std.{proofs.{Common.{◌≡◌, ℕ, ◌+◌, ◌<◌, ◌^◌, true, false, not, List, [], ◌∷◌, ◌++◌, map, refl, eqb, arith}, Math.Nat.mod-eq_of_lt, lemmas.Bool.{eq-eqb, ne_eqb}}, specs.Prelude.{Option, Some, None, bit_and}}
use Rattle.lists.specs.Elements.{first_some}
use Rattle.model_registers.{specs.{EndpointTable.{BaseAddress, command_cells, base_file, opened, HasLawfulBases}, Decoding.{Space, command_bit, hit_at, first_hit}}, proofs.{Hits.{hits_by_bases, hits_of_registers}, RegisterFiles.field_reads}}
use Rattle.bars.specs.{declared.region.BarWithBase.BarWithBase, Slots.bases_from, Hits.hit_from}

closed_each : (command : ℕ) (space : Space) (a : ℕ) → not (eqb (bit_and command (command_bit space)) 0) ≡ false → (bs : List BaseAddress) → first_some (hit_at command space a) bs ≡ None
closed_each command space a shut [] = refl
closed_each command space a shut (b ∷ bs) = rw shut (closed_each command space a shut bs)

-- a space that Command closes is not decoded
pub closed : (command : ℕ) → command < 2 ^ 16 → (space : Space) (a : ℕ) (bs : List BaseAddress) → bit_and command (command_bit space) ≡ 0 → first_hit (command_cells command ++ base_file bs) (map opened bs) space a ≡ None
closed command small space a bs none = grind (arith, field_reads, mod-eq_of_lt, eq-eqb, hits_by_bases, closed_each)

open_from : (command : ℕ) (space : Space) (a n : ℕ) (slots : List (Option BarWithBase)) → not (eqb (bit_and command (command_bit space)) 0) ≡ true
    → first_some (hit_at command space a) (bases_from n slots) ≡ hit_from space a n slots
open_from command space a n [] free = refl
open_from command space a n (None ∷ slots) free = open_from command space a (n + 1) slots free
open_from command space a n (Some r ∷ slots) free = grind (arith, open_from command space a (n + 1) slots free)

-- the hit of an open space, of which `bit` is the bit in Command
pub opened_hit : (command : ℕ) → command < 2 ^ 16 → (space : Space) (a bit : ℕ) (slots : List (Option BarWithBase)) (bs : List BaseAddress) → HasLawfulBases (bases_from 0 slots) → bases_from 0 slots ≡ bs
    → bit ≡ command_bit space → (bit_and command bit ≡ 0 → ⊥) → first_hit (command_cells command ++ base_file bs) (map opened bs) space a ≡ hit_from space a 0 slots
opened_hit command small space a bit slots bs lawful view e some = grind (arith, ne_eqb, hits_of_registers, open_from)

-- no address is decoded that lies in no region, whatever Command opens
pub outside_hit : (command : ℕ) → command < 2 ^ 16 → (space : Space) (a : ℕ) (slots : List (Option BarWithBase)) (bs : List BaseAddress) → HasLawfulBases (bases_from 0 slots) → bases_from 0 slots ≡ bs
    → hit_from space a 0 slots ≡ None → first_hit (command_cells command ++ base_file bs) (map opened bs) space a ≡ None
outside_hit command small space a slots bs lawful view none = grind (arith, hits_of_registers, open_from, closed_each)
