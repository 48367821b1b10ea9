-- No two cells of a header and of blocks that lie apart have one offset.
use Rattle.std.{proofs.{Common.{◌≡◌, ◌≢◌, ℕ, ◌+◌, ◌<◌, ◌≤◌, Bool, true, ◌&&◌, ltb, List, [], ◌∷◌, ◌++◌, length, eqb, refl, sym, subst, arith}, lemmas.Bool.{Decides.nat_tests}}, specs.Prelude.{IsTrue, ◌⊎◌, flat_map, not}}
use Rattle.lists.{specs.Elements.{Each, EachPair, all_pairs}, proofs.EachLemmas.{each_map, each_test, pairs_test, each_append, pairs_map}}
use Rattle.model_registers.proofs.LawfulDeclarations.{byte_in_place}
use Rattle.model_registers.specs.{Cell.Cell, Registers.{config, offset_of, PlacedCell, File, cells_from}, Declarations.{ConfigBlock, Endpoint, Bridge}, BridgeTable.bridge_reset, DeclarationRules.{blocks_apart, IsConfigBlock, IsLawfulEndpoint}, EndpointTable.{block_cells, header_cells, config_reset}}
use Rattle.config_bytes.specs.CellFile.{HasDistinctOffsets, file_of}

abbrev at : PlacedCell → ℕ
at e = offset_of e.place

abbrev Differ : PlacedCell → PlacedCell → Type 0
Differ e f = at e ≢ at f

pairs_append : (xs ys : File) → EachPair Differ xs → EachPair Differ ys → Each (λ (e : PlacedCell). Each (Differ e) ys) xs → EachPair Differ (xs ++ ys)
pairs_append [] ys h k cross = k
pairs_append (x ∷ xs) ys h k cross = (each_append (Differ x) xs ys h.0 cross.0, pairs_append xs ys h.1 k cross.1)

-- ---- one block

abbrev Within : ℕ → ℕ → PlacedCell → Type 0
Within low high e = (low ≤ at e) × (at e < high)

block_within : (a : ℕ) (cs : List Cell) → Each (Within a (a + length cs)) (cells_from (config a) cs)
block_within a [] = tt
block_within a (c ∷ cs) = grind (arith, each_map, block_within (a + 1) cs)

block_distinct : (a : ℕ) (cs : List Cell) → EachPair Differ (cells_from (config a) cs)
block_distinct a [] = tt
block_distinct a (c ∷ cs) = grind (arith, each_map, block_within, block_distinct (a + 1) cs)

-- ---- blocks that lie apart

abbrev Outside : ConfigBlock → PlacedCell → Type 0
Outside b e = (at e < b.offset) ⊎ (b.offset + length b.cells ≤ at e)

all_outside : (b : ConfigBlock) (cs : List ConfigBlock) → Each (λ (c : ConfigBlock). IsTrue (blocks_apart b c)) cs → Each (Outside b) (flat_map block_cells cs)
all_outside b [] h = tt
all_outside b (c ∷ cs) h = grind (arith, all_outside b cs, each_append, each_map, block_within, nat_tests)

blocks_distinct : (bs : List ConfigBlock) → EachPair (λ (b c : ConfigBlock). IsTrue (blocks_apart b c)) bs → EachPair Differ (flat_map block_cells bs)
blocks_distinct [] h = tt
blocks_distinct (b ∷ bs) h = grind (arith, blocks_distinct bs, pairs_append, block_distinct, each_map, all_outside, block_within, nat_tests)

-- at 40h or above, or the Capabilities Pointer
abbrev IsOwn : PlacedCell → Type 0
IsOwn e = (0x40 ≤ at e) ⊎ (at e ≡ 0x34)

blocks_own : (bs : List ConfigBlock) → Each IsConfigBlock bs → Each IsOwn (flat_map block_cells bs)
blocks_own [] h = tt
blocks_own (b ∷ bs) h =
    each_append IsOwn (block_cells b) (flat_map block_cells bs)
    (each_map (Within b.offset (b.offset + length b.cells)) IsOwn (block_cells b) (λ e w. byte_in_place b.offset (length b.cells) (at e) h.0.in_place w.0 w.1) (block_within b.offset b.cells))
    (blocks_own bs h.1)

-- ---- the header

abbrev differ : PlacedCell → PlacedCell → Bool
differ e f = not (eqb (at e) (at f))

differ_lem : (m n : ℕ) → not (eqb m n) ≡ true → m ≢ n
differ_lem m n h = grind (arith, nat_tests)

-- a table in which offsets are written out
distinct_by_test : (file : File) → all_pairs differ file ≡ true → EachPair Differ file
distinct_by_test file h = pairs_map (λ (e f : PlacedCell). IsTrue (differ e f)) Differ file (λ e f t. differ_lem (at e) (at f) t) (pairs_test differ file h)

-- no cell of the header is where a block may have one
abbrev is_elsewhere : PlacedCell → Bool
is_elsewhere e = ltb (at e) 0x40 && not (eqb (at e) 0x34)

elsewhere : (m n : ℕ) → (ltb m 0x40 && not (eqb m 0x34)) ≡ true → (0x40 ≤ n) ⊎ (n ≡ 0x34) → m ≢ n
elsewhere m n h own = grind (arith, nat_tests)

reset_distinct : (d : Endpoint) (multifunction : Bool) → Each IsConfigBlock d.blocks → EachPair (λ (b c : ConfigBlock). IsTrue (blocks_apart b c)) d.blocks → EachPair Differ (config_reset d multifunction)
reset_distinct d multifunction lawful apart =
    let header : File = header_cells d multifunction 0 in
    let blocks : File = flat_map block_cells d.blocks in
    pairs_append header blocks (distinct_by_test header refl) (blocks_distinct d.blocks apart)
    (each_map (λ (e : PlacedCell). IsTrue (is_elsewhere e)) (λ e. Each (Differ e) blocks) header
    (λ e t. each_map IsOwn (Differ e) blocks (λ f own. elsewhere (at e) (at f) t own) (blocks_own d.blocks lawful))
    (each_test is_elsewhere header refl))

-- ---- as lists

each_listed : (P : ℕ → Type 0) (cs : List (ℕ × Cell)) → Each (λ (e : PlacedCell). P (at e)) (file_of cs) → Each (λ (c : ℕ × Cell). P c.0) cs
each_listed P [] h = tt
each_listed P (c ∷ cs) h = (h.0, each_listed P cs h.1)

listed : (cs : List (ℕ × Cell)) → EachPair Differ (file_of cs) → HasDistinctOffsets cs
listed [] h = tt
listed (c ∷ cs) h = (each_listed (λ n. c.0 ≢ n) cs h.0, listed cs h.1)

pub endpoint_offsets : (d : Endpoint) (multifunction : Bool) (cs : List (ℕ × Cell)) → IsLawfulEndpoint d → file_of cs ≡ config_reset d multifunction → HasDistinctOffsets cs
endpoint_offsets d multifunction cs lawful is = listed cs (subst (λ (f : File). EachPair Differ f) (sym is) (reset_distinct d multifunction lawful.config_blocks lawful.blocks_apart))

-- ---- a bridge

pub bridge_offsets : (d : Bridge) (multifunction : Bool) (cs : List (ℕ × Cell)) → file_of cs ≡ bridge_reset d multifunction → HasDistinctOffsets cs
bridge_offsets d multifunction cs is = grind (arith, listed, distinct_by_test)
