-- How many configuration blocks an endpoint has at most, and how many bytes they have together: no two share a byte.
use Rattle.std.{proofs.{Common.{◌≡◌, ℕ, zero, suc, ◌+◌, ◌-◌, ◌<◌, ◌≤◌, inl, inr, false, true, List, [], ◌∷◌, eqb, length, refl, ap, arith, length-append}, lemmas.{Bool.{eqb-true, Decides.nat_tests}, List.FromFn.length-range_with_len, Map.Steps.length-le_from_distinct_below}}, specs.{Prelude.{IsTrue, flat_map}, List.{list_any, range_with_len, AllByRecursion, IsDistinct}}}
use Rattle.lists.{specs.Elements.{IsIn, Each, EachPair}, proofs.Members.{each_in, each_from, from_any, from_flat_map, pairs_flat_map}}
use Rattle.model_registers.{specs.{Cell.Cell, Registers.{Place, config, after, cells_from}, Declarations.{ConfigBlock, Endpoint}, DeclarationRules.{blocks_apart, IsInPlace, IsConfigBlock, IsLawfulEndpoint}, EndpointTable.block_cells}, proofs.RegisterFiles.{below}}

-- the byte at 34h is number 0, and the bytes at 40h to FFh are numbers 1 to 192
abbrev numbers : ConfigBlock → List ℕ
numbers b = range_with_len (b.offset - 0x3f) (length b.cells)

abbrev Differ : ℕ → ℕ → Type 0
Differ x y = eqb x y ≡ false

in_range : (x a n : ℕ) → IsIn x (range_with_len a n) → (a ≤ x) × (x < a + n)
in_range x a zero m = absurd m
in_range x a (suc n) m = grind (arith, in_range x (a + 1) n)

range_differs : (a n : ℕ) → EachPair Differ (range_with_len a n)
range_differs a zero = tt
range_differs a (suc n) = (each_from (Differ a) (range_with_len (a + 1) n) (λ y m. below y a (omega (arith, (in_range y (a + 1) n m).0))), range_differs (a + 1) n)

-- a block that ends before another, or before 100h
ends_before : (a m b n : ℕ) → IsInPlace a m → IsInPlace b n → a + m ≤ b → a - 0x3f + m ≤ b - 0x3f
ends_before a m b n (inl low) k le = omega arith
ends_before a m b n (inr is) (inl low) le = omega (arith, is.0, is.1)
ends_before a m b n (inr is) (inr at) le = absurd (omega (arith, is.0, is.1, at.0))

blocks_differ : (b c : ConfigBlock) → IsConfigBlock b → IsConfigBlock c → IsTrue (blocks_apart b c) → (x y : ℕ) → IsIn x (numbers b) → IsIn y (numbers c) → Differ x y
blocks_differ b c h k apart x y m n =
    let i = in_range x (b.offset - 0x3f) (length b.cells) m in
    let j = in_range y (c.offset - 0x3f) (length c.cells) n in
    grind (arith, nat_tests, i, j, ends_before b.offset (length b.cells) c.offset (length c.cells) h.in_place k.in_place, ends_before c.offset (length c.cells) b.offset (length b.cells) k.in_place h.in_place)

each_other : (x : ℕ) (xs : List ℕ) → Each (Differ x) xs → AllByRecursion (λ y. eqb x y ≡ false) xs
each_other x [] h = tt
each_other x (y ∷ ys) h = (h.0, each_other x ys h.1)

distinct : (xs : List ℕ) → EachPair Differ xs → IsDistinct eqb xs
unfolding IsDistinct
distinct [] h = tt
distinct (x ∷ xs) h = (each_other x xs h.0, distinct xs h.1)

few_numbers : (bs : List ConfigBlock) → Each IsConfigBlock bs → (q : ℕ) → list_any (eqb q) (flat_map numbers bs) ≡ true → q < 193
few_numbers bs all q h =
    let one = from_any (eqb q) (flat_map numbers bs) h in
    let of = from_flat_map numbers one.0 bs one.1 in
    let is : IsConfigBlock of.0 = each_in IsConfigBlock of.0 bs all of.1 in
    let ends = ends_before of.0.offset (length of.0.cells) 0x100 0 is.in_place (inl (omega arith)) is.ends in
    omega (arith, eqb-true q one.0 one.2, (in_range one.0 (of.0.offset - 0x3f) (length of.0.cells) of.2).1, ends)

-- ---- cells

pub many_cells : (p : Place) (cs : List Cell) → length (cells_from p cs) ≡ length cs
many_cells p [] = refl
many_cells p (c ∷ cs) = ap suc (many_cells (after p) cs)

as_many : (bs : List ConfigBlock) → length (flat_map numbers bs) ≡ length (flat_map block_cells bs)
as_many [] = refl
as_many (b ∷ bs) = grind (arith, length-append, length-range_with_len, many_cells (config b.offset) b.cells, as_many bs)

few_blocks : (bs : List ConfigBlock) → Each IsConfigBlock bs → length bs ≤ length (flat_map block_cells bs)
few_blocks [] h = omega arith
few_blocks (b ∷ bs) h = grind (arith, length-append, many_cells (config b.offset) b.cells, h.0.not_empty, few_blocks bs h.1)

pub cell_count : (d : Endpoint) → IsLawfulEndpoint d → length (flat_map block_cells d.blocks) ≤ 193
cell_count d h =
    let differ = pairs_flat_map (λ b c. IsTrue (blocks_apart b c)) Differ numbers d.blocks h.blocks_apart (λ b m. range_differs (b.offset - 0x3f) (length b.cells))
    (λ b c m n. blocks_differ b c (each_in IsConfigBlock b d.blocks h.config_blocks m) (each_in IsConfigBlock c d.blocks h.config_blocks n)) in
    omega (arith, length-le_from_distinct_below (flat_map numbers d.blocks) 193 (distinct (flat_map numbers d.blocks) differ) (few_numbers d.blocks h.config_blocks), as_many d.blocks)

pub block_count : (d : Endpoint) → IsLawfulEndpoint d → length d.blocks ≤ 193
block_count d h = omega (arith, cell_count d h, few_blocks d.blocks h.config_blocks)
