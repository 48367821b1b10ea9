-- The part of a region's BAR that a four-byte register holds.
--     IsPartAt slots reg p      register reg holds the part p
--     IsUnused slots reg      register reg belongs to no region
use Rattle.std.specs.Prelude.{◌≡◌, ℕ, ◌+◌, List, Option, Some, None, ◌⊎◌}
use Rattle.model_registers.specs.Declarations.{registers_of}
use Rattle.bars.specs.{declared.{region.BarWithBase.BarWithBase, base_registers.ShownPart.ShownPart}, Slots.slot_at}

abbrev pub IsLowerPart : ℕ → ShownPart → Type 0
IsLowerPart reg p = (p.slot ≡ reg) × (p.shift ≡ 0)

abbrev pub IsUpperPart : ℕ → ShownPart → Type 0
IsUpperPart reg p = (p.slot + 1 ≡ reg) × (p.shift ≡ 32) × (registers_of p.region.decl.kind ≡ 2)

pub record IsPartAt (slots : List (Option BarWithBase)) (reg : ℕ) (p : ShownPart) : Type 0 where
  pub region : slot_at slots p.slot ≡ Some p.region
  pub half : IsLowerPart reg p ⊎ IsUpperPart reg p

pub record IsUnused (slots : List (Option BarWithBase)) (reg : ℕ) : Type 0 where
  pub own : slot_at slots reg ≡ None
  pub below : (i : ℕ) (r : BarWithBase) → i + 1 ≡ reg → slot_at slots i ≡ Some r → registers_of r.decl.kind ≡ 2 → ⊥
