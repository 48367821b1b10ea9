-- One region: its base in 64 bits, and at reset.
use Rattle.std.{proofs.{Common.{◌≡◌, ℕ, ◌+◌, ◌-◌, ◌^◌, ◌<◌, ◌≤◌, List, [], ◌∷◌, map, refl, sym, subst, ap, ap₂, ◌∙◌, arith, rules}, Math.Nat.mod-eq_of_lt, lemmas.Nat.{and_block, pow_pos}}, specs.Prelude.{Option, Some, None, bit_and}}
use Rattle.lists.specs.Elements.{Each}
use Rattle.model_registers.specs.{Declarations.{Kind, Bar, Region, IsLawfulSize, IsLawfulRegion, HasLawfulRegions}, EndpointTable.{base_width, BaseAddress, opened, IsLawfulBase, HasLawfulBases}, BaseLaws.overwritten}
use Rattle.bars.specs.{declared.region.BarWithBase.BarWithBase, Slots.{placed, bases_from, with_no_base_in}, Resets.{reset_from, at_reset, with_no_base}}

-- a mask of 64 bits clears the same bits of a number of 32 bits
pub and_narrow : (v m : ℕ) → v < 2 ^ 32 → m < 2 ^ 32 → bit_and v (2 ^ 64 - 1 - m) ≡ bit_and v (2 ^ 32 - 1 - m)
and_narrow v m hv hm =
    ap₂ bit_and (omega arith) (omega arith) ∙ and_block 32 0 (2 ^ 32 - 1) v (2 ^ 32 - 1 - m) hv (omega arith) ∙ omega arith

pub written_in_64 : (kind : Kind) (v x m : ℕ) → v < 2 ^ base_width kind → m < 2 ^ base_width kind → overwritten 64 v x m ≡ overwritten (base_width kind) v x m
written_in_64 kind v x m hv hm = search (rules, and_narrow)

pub width_limit : (kind : Kind) → 2 ^ base_width kind ≤ 2 ^ 64
width_limit kind = grind arith

-- ---- at reset

pub size_positive : (kind : Kind) (size : ℕ) → IsLawfulSize kind size → 0 < size
size_positive kind size h = grind arith

reset_each : (n : ℕ) (bars : List (Option Bar)) → Each IsLawfulRegion (map opened (reset_from n bars)) → Each IsLawfulBase (reset_from n bars)
reset_each n [] h = tt
reset_each n (None ∷ bars) h = reset_each (n + 1) bars h
reset_each n (Some b ∷ bars) h = (record { size_is_lawful = h.0.size_is_lawful; aligned = mod-eq_of_lt (size_positive b.kind b.size h.0.size_is_lawful); fits = pow_pos (base_width b.kind) }, reset_each (n + 1) bars h.1)

pub reset_lawful : (bars : List (Option Bar)) → HasLawfulRegions (map opened (at_reset bars)) → HasLawfulBases (at_reset bars)
reset_lawful bars h = record { regions = h; each = reset_each 0 bars h.each }

pub no_base_opened : (bs : List BaseAddress) → map opened (map with_no_base bs) ≡ map opened bs
no_base_opened [] = refl
no_base_opened (b ∷ bs) = ap (λ (rs : List Region). opened b ∷ rs) (no_base_opened bs)

no_base_each : (bs : List BaseAddress) → Each IsLawfulBase bs → Each IsLawfulBase (map with_no_base bs)
no_base_each [] h = tt
no_base_each (b ∷ bs) h = grind (arith, mod-eq_of_lt, size_positive, pow_pos, no_base_each bs)

pub no_base_lawful : (bs : List BaseAddress) → HasLawfulBases bs → HasLawfulBases (map with_no_base bs)
no_base_lawful bs h = record { regions = subst HasLawfulRegions (sym (no_base_opened bs)) h.regions; each = no_base_each bs h.each }

pub no_base_from : (slots : List (Option BarWithBase)) (n : ℕ) → bases_from n (map with_no_base_in slots) ≡ map with_no_base (bases_from n slots)
no_base_from [] n = refl
no_base_from (None ∷ slots) n = no_base_from slots (n + 1)
no_base_from (Some r ∷ slots) n = ap (λ (bs : List BaseAddress). with_no_base (placed n r) ∷ bs) (no_base_from slots (n + 1))
