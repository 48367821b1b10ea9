-- A guest's copies have no bits that a device raises, at reset.
use Rattle.std.{proofs.{Common.{◌≡◌, ℕ, zero, suc, ◌+◌, ◌/◌, ◌≤◌, Bool, true, false, not, ◌||◌, List, [], ◌∷◌, refl, ap, ◌∙◌, arith, eqb}, lemmas.Bool.{eqb-true, Decides.nat_tests}}, specs.{Prelude.{flat_map, ⊤, MatchOption, bit_and, bit_or}, Int.Bits.{or_zero_r, and_zero_r}}}
use Rattle.model_registers.{specs.{Cell.{Cell, raised}, Registers.{Place, config, block, PlacedCell, File, raise, field, cells_from}, Declarations.{Region, ConfigBlock, Endpoint}, DeclarationRules.IsLawfulEndpoint, EndpointTable.{region_cells, block_cells, endpoint_reset}, OwnCopies.is_own}, proofs.RegisterFiles.place_same}
use Rattle.lists.{specs.Elements.Each, proofs.{Tests.{left_true, right_true}, EachLemmas.each_append}}
use Rattle.model_board.specs.{Paths.Path, Board.Board, Lawful.IsLawfulDecl}
use Rattle.model_guests.{specs.World.declared, proofs.DistinctPlaces.own_blocks}

-- no bit of the cell rises where the guest has a copy
abbrev pub stays_low : PlacedCell → Bool
stays_low e = not (is_own e.place) || eqb e.cell.clearable 0

abbrev pub StaysLow : File → Type 0
StaysLow file = Each (λ e. stays_low e ≡ true) file

-- where no bit rises, a raise changes nothing
low_cell : (m : ℕ) (e : PlacedCell) → is_own e.place ≡ true → stays_low e ≡ true → record e { cell = raised m e.cell } ≡ e
low_cell m e own low =
    let test : eqb e.cell.clearable 0 ≡ true = rw own at low in
    let none : e.cell.clearable ≡ 0 = eqb-true e.cell.clearable 0 test in
    let value : bit_or e.cell.value (bit_and m e.cell.clearable) ≡ e.cell.value = ap (λ n. bit_or e.cell.value (bit_and m n)) none ∙ ap (bit_or e.cell.value) (and_zero_r m) ∙ or_zero_r e.cell.value in
    ap (λ n. record e { cell = record e.cell { value = n } }) value

pub not_raised : (m : ℕ) (p : Place) → is_own p ≡ true → (file : File) → StaysLow file → raise m p file ≡ file
not_raised m p own [] low = refl
not_raised m p own (e ∷ es) low = grind (arith, not_raised m p own es, low_cell, place_same)

-- ---- files at reset

cells_low : (a : ℕ) (cs : List Cell) → 0x34 ≤ a → StaysLow (cells_from (config a) cs)
cells_low a [] h = tt
cells_low a (c ∷ cs) h = grind (arith, cells_low (a + 1) cs, nat_tests)

blocks_low : (bs : List ConfigBlock) → Each (λ b. 0x34 ≤ b.offset) bs → StaysLow (flat_map block_cells bs)
blocks_low [] h = tt
blocks_low (b ∷ bs) h = each_append (λ e. stays_low e ≡ true) (block_cells b) (flat_map block_cells bs) (cells_low b.offset b.cells h.0) (blocks_low bs h.1)

registers_low : (w a v m : ℕ) → StaysLow (field (config a) w v m 0)
registers_low zero a v m = tt
registers_low (suc w) a v m = grind (arith, registers_low w (a + 1) (v / 256) (m / 256))

region_block_low : (n a : ℕ) (cs : List Cell) → StaysLow (cells_from (block n a) cs)
region_block_low n a [] = tt
region_block_low n a (c ∷ cs) = (refl, region_block_low n (a + 1) cs)

regions_low : (rs : List Region) → StaysLow (flat_map (region_cells (λ r. 0)) rs)
regions_low [] = tt
regions_low (r ∷ rs) = grind (arith, regions_low rs, each_append, region_block_low, registers_low)

pub reset_low : (d : Endpoint) → IsLawfulEndpoint d → StaysLow (endpoint_reset d false)
reset_low d lawful = grind (arith, each_append, blocks_low, own_blocks, regions_low, left_true, right_true)

-- ---- declarations of a lawful board

pub declared_lawful : (b : Board) → Each (λ r. IsLawfulDecl r.decl) b → (p : Path) → MatchOption (declared b p) ⊤ IsLawfulEndpoint
declared_lawful [] lawful p = tt
declared_lawful (r ∷ rs) lawful p = grind (arith, declared_lawful rs)
