-- How long the parts of a declaration are.
use Rattle.std.{proofs.Common.{◌≡◌, ◌+◌, ◌*◌, ◌≤◌, ℕ, zero, suc, false, List, [], ◌∷◌, ◌/◌, length, refl, sym, ap, ◌∙◌, subst, arith, length-append}, specs.Prelude.flat_map}
use Rattle.lists.specs.Elements.{Each, EachPair}
use Rattle.model_registers.{specs.{Cell.Cell, Declarations.{Kind, io_kind, mem32, mem64, registers_of, Region, IsLawfulRegion, ConfigBlock, Endpoint}, EndpointTable.{block_cells, endpoint_reset, region_cells}, Registers.{Place, config, after, File, field}, DeclarationRules.IsLawfulEndpoint}, proofs.Bases.registers_positive}
use Rattle.model_images.proofs.{BlockCounts.{many_cells, cell_count, block_count}, Savable.{all_above, region_count}}
use Rattle.images.specs.Parts.{cell_bytes, endpoint_head, region_head, block_head, region_bytes, block_bytes, declared_bytes}

cells_length : (cs : List Cell) → length (flat_map cell_bytes cs) ≡ 3 * length cs
unfolding cell_bytes
cells_length [] = refl
cells_length (c ∷ cs) = let more = cells_length cs in omega arith

head_length : (r : Region) → length (region_head r) ≡ 12
unfolding region_head
head_length r = refl

block_head_length : (b : ConfigBlock) → length (block_head b) ≡ 2
unfolding block_head
block_head_length b = refl

endpoint_head_length : (d : Endpoint) → length (endpoint_head d) ≡ 18
unfolding endpoint_head
endpoint_head_length d = refl

pub region_length : (r : Region) → length (region_bytes r) ≡ 12 + 3 * length r.cells
region_length r = let a = length-append (region_head r) (flat_map cell_bytes r.cells) in let b = head_length r in let c = cells_length r.cells in omega arith

pub block_length : (b : ConfigBlock) → length (block_bytes b) ≡ 2 + 3 * length b.cells
block_length b = let a = length-append (block_head b) (flat_map cell_bytes b.cells) in let h = block_head_length b in let c = cells_length b.cells in omega arith

-- the first of a list
pub first_length : {A : Type 0} (f : A → List ℕ) (x : A) (left rest : List A) → left ≡ x ∷ rest → length (flat_map f left) ≡ length (f x) + length (flat_map f rest)
first_length f x left rest first = ap (λ (l : List _). length (flat_map f l)) first ∙ length-append (f x) (flat_map f rest)

pub parts_length : (d : Endpoint) (rs : List Region) (bs : List ConfigBlock) → rs ≡ d.regions → bs ≡ d.blocks
    → 19 + length (flat_map region_bytes rs) + length (flat_map block_bytes bs) ≡ length (declared_bytes d)
parts_length d rs bs regions blocks = grind (arith, length-append, endpoint_head_length)

-- how many there are

pub few_regions : (d : Endpoint) (rs : List Region) → IsLawfulEndpoint d → rs ≡ d.regions → length rs ≤ 6
few_regions d rs h same = let few = region_count d h in let as_many = ap (λ (l : List Region). length l) same in omega arith

-- ---- how many cells

pub first_cells : {A : Type 0} (f : A → File) (x : A) (left rest : List A) → left ≡ x ∷ rest → length (flat_map f left) ≡ length (f x) + length (flat_map f rest)
first_cells f x left rest first = ap (λ (l : List _). length (flat_map f l)) first ∙ length-append (f x) (flat_map f rest)

pub field_count : (p : Place) (w v rw w1c : ℕ) → length (field p w v rw w1c) ≡ w
field_count p zero v rw w1c = refl
field_count p (suc w) v rw w1c = ap suc (field_count (after p) w (v / 256) (rw / 256) (w1c / 256))

pub few_registers : (k : Kind) → registers_of k ≤ 2
few_registers io_kind = omega arith
few_registers (mem32 pref) = omega arith
few_registers (mem64 pref) = omega arith

pub region_cell_count : (r : Region) → length (region_cells (λ x. 0) r) ≡ 4 * registers_of r.kind + length r.cells
region_cell_count r = grind (arith, field_count, many_cells)

pub cells_count : (d : Endpoint) (rs : List Region) (bs : List ConfigBlock) → rs ≡ d.regions → bs ≡ d.blocks
    → 23 + length (flat_map block_cells bs) + length (flat_map (region_cells (λ r. 0)) rs) ≡ length (endpoint_reset d false)
cells_count d rs bs regions blocks = grind (arith, length-append)

-- ---- how many at most

-- a block has two bytes, and three for each cell
blocks_length : (bs : List ConfigBlock) → length (flat_map block_bytes bs) ≡ 2 * length bs + 3 * length (flat_map block_cells bs)
blocks_length [] = refl
blocks_length (b ∷ bs) = grind (arith, length-append, block_length b, many_cells (config b.offset) b.cells, blocks_length bs)

pub few_block_bytes : (d : Endpoint) (bs : List ConfigBlock) → IsLawfulEndpoint d → bs ≡ d.blocks → length (flat_map block_bytes bs) ≤ 965
few_block_bytes d bs h same =
    let few : length (flat_map block_bytes d.blocks) ≤ 965 = omega (arith, blocks_length d.blocks, block_count d h, cell_count d h) in
    subst (λ (l : List ConfigBlock). length (flat_map block_bytes l) ≤ 965) (sym same) few

pub few_block_cells : (d : Endpoint) (bs : List ConfigBlock) → IsLawfulEndpoint d → bs ≡ d.blocks → length (flat_map block_cells bs) ≤ 193
few_block_cells d bs h same = subst (λ (l : List ConfigBlock). length (flat_map block_cells l) ≤ 193) (sym same) (cell_count d h)

-- a region has 4100 for each of its registers at most
cells_from_register : (n : ℕ) (rs : List Region) → n ≤ 6 → Each IsLawfulRegion rs → Each (λ r. length r.cells ≤ 4096) rs → EachPair (λ r s. r.index + registers_of r.kind ≤ s.index) rs → Each (λ r. n ≤ r.index) rs
    → length (flat_map (region_cells (λ r. 0)) rs) + 4100 * n ≤ 24600
cells_from_register n [] low all short order above = omega arith
cells_from_register n (r ∷ rs) low all short order above = grind (arith, length-append, region_cell_count, registers_positive, cells_from_register (r.index + registers_of r.kind) rs)

pub few_region_cells : (d : Endpoint) (rs : List Region) → IsLawfulEndpoint d → rs ≡ d.regions → length (flat_map (region_cells (λ r. 0)) rs) ≤ 24600
few_region_cells d rs h same =
    let few = cells_from_register 0 d.regions (omega arith) h.regions.each h.region_blocks h.regions.in_order (all_above d.regions) in
    subst (λ (l : List Region). length (flat_map (region_cells (λ r. 0)) l) ≤ 24600) (sym same) (omega (arith, few))
