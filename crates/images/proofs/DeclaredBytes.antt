-- The bytes of a declaration, put together from those of its parts.
use Rattle.std.{proofs.Common.{◌≡◌, ℕ, List, [], ◌∷◌, ◌++◌, refl, ap, ap₂, arith}, specs.Prelude.flat_map}
use Rattle.model_registers.specs.{Cell.Cell, Declarations.{Region, ConfigBlock}}
use Rattle.model_images.specs.ImageBytes.{cell_layout, region_layout, block_layout}
use Rattle.images.specs.Parts.{cell_bytes, endpoint_head, region_head, block_head, region_bytes, block_bytes, DeclaredBytes}

cells_are : (cs : List Cell) → flat_map cell_bytes cs ≡ flat_map cell_layout.bytes cs
unfolding cell_bytes
cells_are [] = refl
cells_are (c ∷ cs) = ap (λ (xs : List ℕ). cell_layout.bytes c ++ xs) (cells_are cs)

region_is : (r : Region) → region_bytes r ≡ region_layout.bytes r
unfolding region_head
region_is r = ap (λ (xs : List ℕ). region_head r ++ xs) (cells_are r.cells)

block_is : (b : ConfigBlock) → block_bytes b ≡ block_layout.bytes b
unfolding block_head
block_is b = ap (λ (xs : List ℕ). block_head b ++ xs) (cells_are b.cells)

all_are : {A : Type 0} (f g : A → List ℕ) → ((x : A) → f x ≡ g x) → (xs : List A) → flat_map f xs ≡ flat_map g xs
all_are f g same [] = refl
all_are f g same (x ∷ xs) = ap₂ (λ (y ys : List ℕ). y ++ ys) (same x) (all_are f g same xs)

pub declared_is : DeclaredBytes
unfolding endpoint_head
declared_is d = grind (arith, all_are, region_is, block_is)
