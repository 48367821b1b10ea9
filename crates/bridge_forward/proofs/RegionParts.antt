-- An endpoint's cells, part by part: what a read finds, and what a change leaves.
use Rattle.std.proofs.{Common.{◌≡◌, ◌≢◌, ℕ, zero, suc, ◌+◌, ◌*◌, ◌/◌, ◌%◌, ◌-◌, ◌^◌, ◌<◌, ◌≤◌, ◌⊎◌, Bool, true, false, List, [], ◌∷◌, ◌++◌, map, length, refl, ap, ap₂, sym, ◌∙◌, arith, append_assoc}, lemmas.{Bool.cases_eq, List.nil_from_length}}
use Rattle.lists.specs.Elements.{Each, EachPair}
use Rattle.model_registers.{specs.{Cell.{Cell, no_cell}, Registers.{Place, config, block, after, File, cell_at, changed, read, write, field, in_region}, FileLaws.{has_place, HasNone, IsConfigFile}, Declarations.{Region, registers_of}, EndpointTable.{type_bits, base_width, BaseAddress, register_cells, base_file, opened}}, proofs.Files.{joined_cell, joined_change, joined_write, cell_none, region_has_no_config, region_has_no_other, region_cell, config_without_block}}
use Rattle.bridge_forward.specs.EndpointParts.{region_parts}

-- ---- reads, cell by cell

pub read_same : (xs ys : File) (p q : ℕ → Place) → ((k : ℕ) → after (p k) ≡ p (k + 1)) → ((k : ℕ) → after (q k) ≡ q (k + 1)) → (ons : List Bool) (k : ℕ) → ((j : ℕ) → k ≤ j → j < k + length ons → cell_at xs (p j) ≡ cell_at ys (q j))
    → read xs (p k) ons ≡ read ys (q k) ons
read_same xs ys p q s t [] k h = refl
read_same xs ys p q s t (on ∷ ons) k h = grind (arith, read_same xs ys p q s t ons (k + 1))

-- a file without the place is passed by, on either side
pub cell_second : (xs ys : File) (p : Place) → has_place xs p ≡ false → cell_at (xs ++ ys) p ≡ cell_at ys p
cell_second xs ys p h = grind (arith, joined_cell xs ys p)

pub cell_first : (xs ys : File) (p : Place) → cell_at ys p ≡ no_cell → cell_at (xs ++ ys) p ≡ cell_at xs p
cell_first xs ys p h = grind (arith, joined_cell xs ys p, cell_none xs p)

-- ---- base registers

pub config_field : (a w v m c : ℕ) → IsConfigFile (field (config a) w v m c)
config_field a zero v m c = tt
config_field a (suc w) v m c = (tt, config_field (a + 1) w (v / 256) (m / 256) (c / 256))

pub config_register : (b : BaseAddress) → IsConfigFile (register_cells b)
config_register b = config_field (0x10 + 4 * b.index) (4 * registers_of b.kind) (b.base + type_bits b.kind) (2 ^ base_width b.kind - b.size) 0

one_place : (file : File) (p : Place) → HasNone file p (true ∷ []) → has_place file p ≡ false
one_place file p h = h.0 refl

pub no_config_in : (n a : ℕ) (file : File) → has_place (in_region n file) (config a) ≡ false
no_config_in n a file = one_place (in_region n file) (config a) (region_has_no_config (true ∷ []) n a file)

pub no_other_in : (n m a : ℕ) (file : File) → n ≢ m → has_place (in_region n file) (block m a) ≡ false
no_other_in n m a file d = one_place (in_region n file) (block m a) (region_has_no_other (true ∷ []) n m a file d)

-- ---- configuration offsets: base registers, and no block

pub config_cell : (bs : List BaseAddress) (g : ℕ → File) (q : ℕ) → cell_at (region_parts bs g) (config q) ≡ cell_at (base_file bs) (config q)
config_cell [] g q = refl
config_cell (b ∷ bs) g q = grind (arith, append_assoc, joined_cell, cell_second, no_config_in, config_cell bs g q)

-- ---- offsets of a block: the block of that region, and nothing else

pub no_block_cell : (bs : List BaseAddress) (g : ℕ → File) (n q : ℕ) → Each (λ b. b.index ≢ n) bs → cell_at (region_parts bs g) (block n q) ≡ no_cell
no_block_cell [] g n q h = refl
no_block_cell (b ∷ bs) g n q h = grind (arith, append_assoc, cell_second, config_without_block, config_register, no_other_in, no_block_cell bs g n q)

-- no two regions begin at one register
abbrev pub Distinct : List BaseAddress → Type 0
Distinct bs = EachPair (λ (b c : BaseAddress). b.index ≢ c.index) bs

pub block_cell : (bs : List BaseAddress) (g : ℕ → File) (n q : ℕ) → Distinct bs → IsConfigFile (g n) → (Each (λ b. b.index ≢ n) bs → g n ≡ []) → cell_at (region_parts bs g) (block n q) ≡ cell_at (g n) (config q)
block_cell [] g n q d c u = sym (ap (λ (file : File). cell_at file (config q)) (u tt))
block_cell (b ∷ bs) g n q d c u =
    ap (λ (file : File). cell_at file (block n q)) (append_assoc (register_cells b) (in_region b.index (g b.index)) (region_parts bs g))
    ∙ cell_second (register_cells b) (in_region b.index (g b.index) ++ region_parts bs g) (block n q) (config_without_block (register_cells b) n q (config_register b))
    ∙ by_index (cases_eq b.index n) (λ e. block_cell bs g n q d.1 c (λ h. u (e, h)))
  where
    others : (cs : List BaseAddress) → b.index ≡ n → Each (λ (x : BaseAddress). b.index ≢ x.index) cs → Each (λ (x : BaseAddress). x.index ≢ n) cs
    others [] e h = tt
    others (x ∷ cs) e h = (λ z. h.0 (e ∙ sym z), others cs e h.1)

    by_index : (b.index ≡ n) ⊎ (b.index ≢ n) → (b.index ≢ n → cell_at (region_parts bs g) (block n q) ≡ cell_at (g n) (config q)) → cell_at (in_region b.index (g b.index) ++ region_parts bs g) (block n q) ≡ cell_at (g n) (config q)
    by_index e more = grind (arith, cell_first, no_block_cell, others, region_cell, cell_second, no_other_in)

-- ---- changes

-- a change that is made part by part, of cells that stay where they are
pub record IsChange (change : File → File) : Type 0 where
  pub joined : (xs ys : File) → change (xs ++ ys) ≡ change xs ++ change ys
  pub size : (xs : File) → length (change xs) ≡ length xs

-- lists of one length in front are the same where the whole is
fronts : {A : Type 0} (xs ys zs ws : List A) → length xs ≡ length zs → xs ++ ys ≡ zs ++ ws → (xs ≡ zs) × (ys ≡ ws)
fronts [] ys [] ws l e = (refl, e)
fronts [] ys (z ∷ zs) ws l e = absurd (omega (arith, l))
fronts (x ∷ xs) ys [] ws l e = absurd (omega (arith, l))
fronts (x ∷ xs) ys (z ∷ zs) ws l e = grind (arith, fronts xs ys zs ws)

length-field : (p : Place) (w v m c : ℕ) → length (field p w v m c) ≡ w
length-field p zero v m c = refl
length-field p (suc w) v m c = ap suc (length-field (after p) w (v / 256) (m / 256) (c / 256))

same_length : (b c : BaseAddress) → opened b ≡ opened c → length (register_cells b) ≡ length (register_cells c)
same_length b c e = grind (arith, length-field)

-- base registers and blocks changed, each as if it stood alone
pub parts_changed : (change : File → File) → IsChange change → (bs cs : List BaseAddress) (g h : ℕ → File) → map opened bs ≡ map opened cs → base_file cs ≡ change (base_file bs)
    → ((n : ℕ) → change (in_region n (g n)) ≡ in_region n (h n)) → change (region_parts bs g) ≡ region_parts cs h
parts_changed change s [] [] g h e b r = nil_from_length (change []) (s.size [])
parts_changed change s [] (c ∷ cs) g h e b r = absurd (cc)
parts_changed change s (b ∷ bs) [] g h e f r = absurd (cc)
parts_changed change s (b ∷ bs) (c ∷ cs) g h e f r =
    let head : opened b ≡ opened c = cc in
    let tail : map opened bs ≡ map opened cs = cc in
    let parts = fronts (register_cells c) (base_file cs) (change (register_cells b)) (change (base_file bs))
    (sym (same_length b c head) ∙ sym (s.size (register_cells b))) (f ∙ s.joined (register_cells b) (base_file bs)) in
    let index : b.index ≡ c.index = ap (λ (x : Region). x.index) head in
    s.joined (register_cells b ++ in_region b.index (g b.index)) (region_parts bs g)
    ∙ ap₂ (λ (xs ys : File). xs ++ ys)
    (s.joined (register_cells b) (in_region b.index (g b.index)) ∙ ap₂ (λ (xs ys : File). xs ++ ys) (sym parts.0) (r b.index ∙ ap (λ n. in_region n (h n)) index))
    (parts_changed change s bs cs g h tail parts.1 r)

length-changed : (f : Cell → Cell) (p : Place) (xs : File) → length (changed f p xs) ≡ length xs
length-changed f p [] = refl
length-changed f p (x ∷ xs) = ap suc (length-changed f p xs)

length-write : (ons : List Bool) (v : ℕ) (p : Place) (xs : File) → length (write ons v p xs) ≡ length xs
length-write [] v p xs = refl
length-write (true ∷ ons) v p xs = length-write ons (v / 256) (after p) (changed (Rattle.model_registers.specs.Cell.written (v % 256)) p xs) ∙ length-changed (Rattle.model_registers.specs.Cell.written (v % 256)) p xs
length-write (false ∷ ons) v p xs = length-write ons (v / 256) (after p) xs

pub write_is_change : (ons : List Bool) (v : ℕ) (p : Place) → IsChange (write ons v p)
write_is_change ons v p = record { joined = joined_write ons v p; size = length-write ons v p }

pub changed_is_change : (f : Cell → Cell) (p : Place) → IsChange (changed f p)
changed_is_change f p = record { joined = joined_change f p; size = length-changed f p }
