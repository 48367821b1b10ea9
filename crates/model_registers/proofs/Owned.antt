-- A function's file, parted into a guest's own copies and all other cells.
use Rattle.std.{proofs.{Common.{◌≡◌, ℕ, zero, suc, ◌+◌, ◌*◌, ◌/◌, ◌%◌, ◌<◌, ◌≤◌, ◌⊎◌, Bool, true, false, ◌&&◌, ◌||◌, cond, List, [], ◌∷◌, ◌++◌, length, map, refl, sym, ap, ◌∙◌, subst, arith, eqb, leb, ltb, append_assoc, ◌-◌, ◌^◌}, lemmas.Bool.{cases_lt, cases_Bool, or_parts, and_cases, eqb-false, leb-false, ltb-false, or_right, and_from, le-leb, lt-ltb, or_cases, and_parts, eqb-true, leb-true, ltb-true, ne_eqb, and_right}}, specs.{Prelude.{bit_and, bit_or, flat_map}, Int.Bits.{or_zero_r, and_zero_r}}}
use Rattle.lists.specs.Elements.{Each}
use Rattle.model_registers.{specs.{Cell.{Cell, no_cell, written, raised}, Registers.{Place, config, block, place_eq, after, File, cell_at, read, write, all_bytes, field, cells_from}, Declarations.{ConfigBlock, Kind, Region, registers_of, IsLawfulRegion}, EndpointTable.{BaseAddress, base_width, type_bits, base_file, command_cells, opened, closed, region_cells, block_cells, command_mask}, Decoding.{base, base_address}, OwnCopies.{is_own, OwnCopies, own_file, HoldsOwn, forwarded_byte_enables, IsLawfulOwn, OwnReads, OwnWrites, OwnStay, bare, OwnHits, ResetHoldsOwn}, CopiedFiles.with_copies}, proofs.{ConstantCells.{no_cell_stays, raised_none}, RegisterFiles.{place_same, change_at_place, above}, Hits.hits_by_bases, Parts.{IsOutside, cell_outside}}}

-- ---- the guest's copies put in

pub other_cell : (copies file : File) (p : Place) → is_own p ≡ false → cell_at (with_copies copies file) p ≡ cell_at file p
other_cell copies [] p h = refl
other_cell copies (e ∷ es) p h = grind (arith, other_cell copies es p h, place_same)

-- ---- writes

-- a cell after a write, by its place
after_write : List Bool → ℕ → Place → Place → Cell → Cell
after_write [] x p q c = c
after_write (on ∷ ons) x p q c = after_write ons (x / 256) (after p) q (cond (on && place_eq p q) (written (x % 256) c) c)

cell_after : (ons : List Bool) (x : ℕ) (p q : Place) (file : File) → cell_at (write ons x p file) q ≡ after_write ons x p q (cell_at file q)
unfolding after_write
cell_after [] x p q file = refl
cell_after (true ∷ ons) x p q file = grind (arith, after_write, change_at_place, no_cell_stays, cell_after ons (x / 256))
cell_after (false ∷ ons) x p q file = cell_after ons (x / 256) (after p) q file

other_after : (ons : List Bool) (x : ℕ) (p q : Place) (c : Cell) → is_own q ≡ false → after_write ons x p q c ≡ after_write (forwarded_byte_enables p ons) x p q c
unfolding after_write
other_after [] x p q c other = refl
other_after (on ∷ ons) x p q c other = grind (arith, other_after ons (x / 256) (after p) q (cond (on && place_eq p q) (written (x % 256) c) c) other, after_write, cases_Bool, place_same, and_right)

pub own_writes : OwnWrites
own_writes own file holds p q ons x = grind (arith, cell_after, after_write, other_after)

-- ---- reads

block_outside : (w a v m c n q : ℕ) (rest : File) → cell_at (field (config a) w v m c ++ rest) (block n q) ≡ cell_at rest (block n q)
block_outside zero a v m c n q rest = refl
block_outside (suc w) a v m c n q rest = block_outside w (a + 1) (v / 256) (m / 256) (c / 256) n q rest

pub base_outside : (b : BaseAddress) (q : ℕ) → b.index + registers_of b.kind ≤ 6 → (q < 0x10) ⊎ (0x28 ≤ q) → IsOutside q (0x10 + 4 * b.index) (4 * registers_of b.kind)
base_outside b q within low = grind arith

pub no_base : (bs : List BaseAddress) → Each IsLawfulRegion (map opened bs) → (q : ℕ) → (q < 0x10) ⊎ (0x28 ≤ q) → cell_at (base_file bs) (config q) ≡ no_cell
no_base [] lawful q h = refl
no_base (b ∷ bs) lawful q h = grind (arith, no_base bs, cell_outside, base_outside)

no_block : (bs : List BaseAddress) (n q : ℕ) → cell_at (base_file bs) (block n q) ≡ no_cell
no_block [] n q = refl
no_block (b ∷ bs) n q = block_outside (4 * registers_of b.kind) (0x10 + 4 * b.index) (b.base + type_bits b.kind) (2 ^ base_width b.kind - b.size) 0 n q (base_file bs) ∙ no_block bs n q

-- own copies have no other cell
pub none_else : (own : OwnCopies) → IsLawfulOwn own → (p : Place) → is_own p ≡ false → cell_at (own_file own) p ≡ no_cell
none_else own lawful p other = grind (arith, block_outside, no_block, cell_outside, no_base, or_parts, cases_lt, above, eqb-false, and_cases, leb-false, ltb-false)

pub own_reads : OwnReads
own_reads own lawful file holds p [] = refl
own_reads own lawful file holds p (on ∷ ons) = grind (arith, own_reads own lawful file holds (after p) ons, none_else)

-- ---- raises

-- no bit of the cell rises
IsStill : Cell → Type 0
IsStill c = c.clearable ≡ 0

still_unraised : (m : ℕ) (c : Cell) → IsStill c → raised m c ≡ c
unfolding IsStill
still_unraised m c h = ap (λ n. record c { value = n }) (ap (λ t. bit_or c.value (bit_and m t)) h ∙ ap (bit_or c.value) (and_zero_r m) ∙ or_zero_r c.value)

still_field : (w a v m : ℕ) (rest : File) (p : Place) → IsStill (cell_at rest p) → IsStill (cell_at (field (config a) w v m 0 ++ rest) p)
unfolding IsStill
still_field zero a v m rest p h = h
still_field (suc w) a v m rest p h = grind (arith, still_field w (a + 1) (v / 256) (m / 256) rest p h)

still_bases : (bs : List BaseAddress) (p : Place) → IsStill (cell_at (base_file bs) p)
unfolding IsStill
still_bases [] p = refl
still_bases (b ∷ bs) p = still_field (4 * registers_of b.kind) (0x10 + 4 * b.index) (b.base + type_bits b.kind) (2 ^ base_width b.kind - b.size) (base_file bs) p (still_bases bs p)

still_own : (own : OwnCopies) (p : Place) → IsStill (cell_at (own_file own) p)
still_own own p = still_field 2 4 own.command command_mask (base_file own.bases) p (still_bases own.bases p)

pub same_cell : (t : Bool) (c d : Cell) → (t ≡ true → c ≡ d) → cond t c d ≡ d
same_cell t c d h = grind arith

pub own_stay : OwnStay
own_stay own file holds p q m mine =
    change_at_place (raised m) (raised_none m) file p q
    ∙ same_cell (place_eq p q) (raised m (cell_at file q)) (cell_at file q)
    (λ same. still_unraised m (cell_at file q) (subst IsStill (sym (holds q (subst (λ (x : Place). is_own x ≡ true) (place_same p q same) mine))) (still_own own q)))

-- ---- decoding

pub base_is_own : (q : ℕ) → 0x10 ≤ q → q < 0x28 → is_own (config q) ≡ true
base_is_own q low high = or_right (eqb q 4 || eqb q 5 || eqb q 0x0e) (leb 0x10 q && ltb q 0x28) (and_from (leb 0x10 q) (ltb q 0x28) (le-leb 0x10 q low) (lt-ltb q 0x28 high))

same_number : (own : OwnCopies) (file : File) → HoldsOwn file own → (ons : List Bool) (q : ℕ) → 0x10 ≤ q → q + length ons ≤ 0x28 → read file (config q) ons ≡ read (own_file own) (config q) ons
same_number own file holds [] q low high = refl
same_number own file holds (on ∷ ons) q low high = grind (arith, base_is_own, same_number own file holds ons (q + 1))

same_base : (own : OwnCopies) (file : File) → HoldsOwn file own → (kind : Kind) (n : ℕ) → n + registers_of kind ≤ 6 → base file n kind ≡ base (own_file own) n kind
same_base own file holds kind n h = grind (arith, same_number own file holds (all_bytes 4) (0x10 + 4 * n), same_number own file holds (all_bytes 8) (0x10 + 4 * n))

same_standing : (own : OwnCopies) (file : File) → HoldsOwn file own → (bs : List BaseAddress) → Each IsLawfulRegion (map opened bs) → map (base_address file) (map opened bs) ≡ map (base_address (own_file own)) (map opened bs)
same_standing own file holds [] lawful = refl
same_standing own file holds (b ∷ bs) lawful = grind (arith, same_base, same_standing own file holds bs lawful.1)

standing_bare : (file : File) (rs : List Region) → map (base_address file) rs ≡ map (base_address file) (map bare rs)
standing_bare file [] = refl
standing_bare file (r ∷ rs) = ap (λ (more : List BaseAddress). base_address file r ∷ more) (standing_bare file rs)

pub own_hits : OwnHits
own_hits own lawful file holds rs same space a = grind (arith, hits_by_bases, standing_bare, same_standing)

-- ---- at reset

-- what stands behind cells is seen as far as they are not there
behind : (pre one two : File) (p : Place) → cell_at one p ≡ cell_at two p → cell_at (pre ++ one) p ≡ cell_at (pre ++ two) p
behind [] one two p h = h
behind (e ∷ es) one two p h = ap (cond (place_eq e.place p) e.cell) (behind es one two p h)

pub cells_above : (cs : List Cell) (a q : ℕ) (rest : File) → q < a → cell_at (cells_from (config a) cs ++ rest) (config q) ≡ cell_at rest (config q)
cells_above [] a q rest h = refl
cells_above (c ∷ cs) a q rest h = grind (arith, above, cells_above cs (a + 1) q rest)

pub cells_elsewhere : (cs : List Cell) (n a q : ℕ) (rest : File) → cell_at (cells_from (block n a) cs ++ rest) (config q) ≡ cell_at rest (config q)
cells_elsewhere [] n a q rest = refl
cells_elsewhere (c ∷ cs) n a q rest = cells_elsewhere cs n (a + 1) q rest

blocks_above : (bs : List ConfigBlock) → Each (λ (b : ConfigBlock). 0x34 ≤ b.offset) bs → (q : ℕ) → q < 0x34 → (rest : File) → cell_at (flat_map block_cells bs ++ rest) (config q) ≡ cell_at rest (config q)
blocks_above [] h q low rest = refl
blocks_above (b ∷ bs) h q low rest = grind (arith, blocks_above bs, append_assoc, cells_above)

bases_of_regions : (rs : List Region) (q : ℕ) → cell_at (flat_map (region_cells (λ r. 0)) rs) (config q) ≡ cell_at (base_file (map closed rs)) (config q)
bases_of_regions [] q = refl
bases_of_regions (r ∷ rs) q = grind (arith, append_assoc, behind, cells_elsewhere, bases_of_regions rs q)

-- no cell of the file stands at a base address register
is_outside : Place → Bool
is_outside (config q) = ltb q 0x10 || leb 0x28 q
is_outside (block n q) = true

lies_outside : File → Bool
lies_outside [] = true
lies_outside (e ∷ es) = is_outside e.place && lies_outside es

outside_apart : (p : Place) (q : ℕ) → is_outside p ≡ true → 0x10 ≤ q → q < 0x28 → place_eq p (config q) ≡ false
unfolding is_outside
outside_apart p q h low high = grind (arith, or_cases, ne_eqb, ltb-true, above, leb-true)

passed_by : (file : File) (q : ℕ) (rest : File) → lies_outside file ≡ true → 0x10 ≤ q → q < 0x28 → cell_at (file ++ rest) (config q) ≡ cell_at rest (config q)
unfolding lies_outside
passed_by [] q rest h low high = refl
passed_by (e ∷ es) q rest h low high = grind (arith, and_parts, outside_apart, passed_by es q rest)

command_outside : (command : ℕ) → lies_outside (command_cells command) ≡ true
unfolding lies_outside is_outside
command_outside command = refl

low_base : (bs : List BaseAddress) (q : ℕ) → q < 0x10 → cell_at (base_file bs) (config q) ≡ no_cell
low_base [] q h = refl
low_base (b ∷ bs) q h = grind (arith, cell_outside, low_base bs q h)

pub reset_holds_own : ResetHoldsOwn
reset_holds_own d blocks (block n q) mine = cc
reset_holds_own d blocks (config q) mine = grind (arith, or_cases, leb-true, and_parts, ltb-true, eqb-true, low_base, append_assoc, passed_by, blocks_above, bases_of_regions, command_outside)
