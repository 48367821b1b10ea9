-- The words of an endpoint, written over its cells at reset, leave its bases and its Command.
use Rattle.std.{proofs.{Common.{◌≡◌, ℕ, zero, suc, ◌+◌, ◌-◌, ◌*◌, ◌/◌, ◌%◌, ◌^◌, ◌<◌, ◌≤◌, ◌⊎◌, inl, inr, Bool, true, false, cond, List, [], ◌∷◌, ◌++◌, length, refl, sym, ap, ap₂, ◌∙◌, subst, arith, eqb}, lemmas.{Nat.{and_mask, pow_pos, shr_split, shr_below, Bits.and_high}, Bool.{ne_eqb, or_parts}}, Math.Nat.mod-eq_of_lt}, specs.Prelude.{map, flat_map, bit_and}}
use Rattle.lists.{specs.Elements.{Each, EachPair}, proofs.EachLemmas.each_map}
use Rattle.model_registers.{specs.{Cell.Cell, Registers.{config, block, File, write, cells_from}, FileLaws.{has_place, HasNone}, Declarations.{Kind, io_kind, mem32, mem64, Region, registers_of, IsLawfulRegion, HasLawfulRegions, ConfigBlock, Endpoint}, Decoding.{io, memory}, EndpointTable.{base_register, type_bits, base_width, base_cells, BaseAddress, register_cells, IsLawfulBase, region_cells, block_cells, header_cells, config_cells, endpoint_file, endpoint_reset}, BaseLaws.rebased}, proofs.{Bases.{size_limits, four, write_whole, exponent_below}, Files.{write_none, joined_write}, Parts.{IsApart, write_apart}}}
use Rattle.model_set_up.specs.SetUp.{opens, command_of}
use Rattle.window_packing.{specs.WordWrites.{word, base_words, endpoint_words}, proofs.FileWrites.{written_file, file_after, joined_after, after_joined}}

-- ---- one base

abbrev at_zero : BaseAddress → BaseAddress
at_zero b = record b { base = 0 }

zero_is_lawful : (b : BaseAddress) → IsLawfulBase b → IsLawfulBase (at_zero b)
zero_is_lawful b h = grind (arith, mod-eq_of_lt, pow_pos)

-- all bits of a base that are written are its own
bits_kept : (j k base : ℕ) → base % 2 ^ k ≡ 0 → base < 2 ^ (j + k) → bit_and base (bit_and (2 ^ (j + k) - 2 ^ k) (2 ^ (j + k) - 1)) ≡ base
bits_kept j k base aligned fits = grind (arith, and_mask, mod-eq_of_lt, pow_pos, and_high, shr_below, shr_split)

rebased_whole : (b : BaseAddress) → IsLawfulBase b → rebased (at_zero b) b.base (2 ^ base_width b.kind - 1) ≡ b.base
rebased_whole b h =
    let power : (k : ℕ) × (b.size ≡ 2 ^ k) = h.size_is_lawful.power in
    let k : ℕ = power.0 in
    let width : ℕ = base_width b.kind in
    let within : k ≤ width = exponent_below k width (subst (λ n. n < 2 ^ width) power.1 (size_limits b.kind b.size h.size_is_lawful).0) in
    let j : ℕ = width - k in
    let whole : width ≡ j + k = omega arith in
    ap₂ (λ w size. bit_and b.base (bit_and (2 ^ w - size) (2 ^ w - 1))) whole power.1
    ∙ bits_kept j k b.base (subst (λ n. b.base % n ≡ 0) power.1 h.aligned) (subst (λ w. b.base < 2 ^ w) whole h.fits)

-- two writes of four bytes are one of eight
one_write : (v n : ℕ) (file : File) → write (four true true true true) (v / 2 ^ 32) (base_register (n + 1)) (write (four true true true true) (v % 2 ^ 32) (base_register n) file)
    ≡ write (true ∷ true ∷ true ∷ true ∷ four true true true true) v (base_register n) file
one_write v n file =
    ap₂ (λ x a. write (four true true true true) x (config a) (write (four true true true true) (v % 2 ^ 32) (base_register n) file)) upper next
    ∙ ap (write (four true true true true) (v / 256 / 256 / 256 / 256) (config (0x10 + 4 * n + 1 + 1 + 1 + 1))) (λ i. low i)
  where
    upper : v / 2 ^ 32 ≡ v / 256 / 256 / 256 / 256
    upper = omega arith

    next : 0x10 + 4 * (n + 1) ≡ 0x10 + 4 * n + 1 + 1 + 1 + 1
    next = omega arith

    byte_2 : v % 2 ^ 32 / 256 / 256 % 256 ≡ v / 256 / 256 % 256
    byte_2 = omega arith

    byte_3 : v % 2 ^ 32 / 256 / 256 / 256 % 256 ≡ v / 256 / 256 / 256 % 256
    byte_3 = omega arith

    low : write (four true true true true) (v % 2 ^ 32) (base_register n) file ≡ write (four true true true true) v (base_register n) file
    low = grind (arith, byte_3, byte_2)

-- a base over 0 leaves the base
narrow_written : (b : BaseAddress) → IsLawfulBase b → base_width b.kind ≡ 32 → 4 ≡ 4 * registers_of b.kind
    → write (four true true true true) (b.base % 2 ^ 32) (base_register b.index) (register_cells (at_zero b)) ≡ register_cells b
narrow_written b h width one =
    ap (λ x. write (four true true true true) x (base_register b.index) (register_cells (at_zero b))) (mod-eq_of_lt (subst (λ w. b.base < 2 ^ w) width h.fits))
    ∙ write_whole (at_zero b) (zero_is_lawful b h) (four true true true true) one b.base
    ∙ ap (λ n. register_cells (record b { base = n })) (ap (λ w. rebased (at_zero b) b.base (2 ^ w - 1)) (sym width) ∙ rebased_whole b h)

wide_written : (b : BaseAddress) → IsLawfulBase b → base_width b.kind ≡ 64 → 8 ≡ 4 * registers_of b.kind
    → write (four true true true true) (b.base / 2 ^ 32) (base_register (b.index + 1)) (write (four true true true true) (b.base % 2 ^ 32) (base_register b.index) (register_cells (at_zero b))) ≡ register_cells b
wide_written b h width two =
    one_write b.base b.index (register_cells (at_zero b))
    ∙ write_whole (at_zero b) (zero_is_lawful b h) (true ∷ true ∷ true ∷ true ∷ four true true true true) two b.base
    ∙ ap (λ n. register_cells (record b { base = n })) (ap (λ w. rebased (at_zero b) b.base (2 ^ w - 1)) (sym width) ∙ rebased_whole b h)

abbrev pub base_of : ℕ → Kind → ℕ → ℕ → BaseAddress
base_of index kind size base = record { index = index; kind = kind; size = size; base = base }

own_base : (index : ℕ) (kind : Kind) (size base : ℕ) → IsLawfulBase (base_of index kind size base)
    → file_after (base_words (base_of index kind size base)) (register_cells (base_of index kind size 0)) ≡ register_cells (base_of index kind size base)
own_base index io_kind size base h = narrow_written (base_of index io_kind size base) h refl refl
own_base index (mem32 pref) size base h = narrow_written (base_of index (mem32 pref) size base) h refl refl
own_base index (mem64 pref) size base h = wide_written (base_of index (mem64 pref) size base) h refl refl

-- ---- what a word leaves

-- no cell of the file stands at a configuration offset below n
abbrev HasNoneBelow : File → ℕ → Type 0
HasNoneBelow file n = (k : ℕ) → k < n → has_place file (config k) ≡ false

none_from : (file : File) (n : ℕ) → HasNoneBelow file n → (ons : List Bool) (a : ℕ) → a + length ons ≤ n → HasNone file (config a) ons
none_from file n h [] a fits = tt
none_from file n h (on ∷ ons) a fits = (λ _. h a (omega arith), none_from file n h ons (a + 1) (omega arith))

stays : (file : File) (n : ℕ) → HasNoneBelow file n → (ons : List Bool) (x a : ℕ) → a + length ons ≤ n → write ons x (config a) file ≡ file
stays file n h ons x a fits = write_none ons x (config a) file (none_from file n h ons a fits)

joined_none : (xs ys : File) (n : ℕ) → HasNoneBelow xs n → HasNoneBelow ys n → HasNoneBelow (xs ++ ys) n
joined_none [] ys n h l k m = l k m
joined_none (x ∷ xs) ys n h l k m = grind (arith, or_parts, joined_none xs ys n)

cells_none : (cs : List Cell) (a n : ℕ) → n ≤ a → HasNoneBelow (cells_from (config a) cs) n
cells_none [] a n h k l = refl
cells_none (c ∷ cs) a n h k l = let e : eqb a k ≡ false = ne_eqb a k (λ same. omega arith) in rw e (cells_none cs (a + 1) n (omega arith) k l)

block_none : (cs : List Cell) (m a n : ℕ) → HasNoneBelow (cells_from (block m a) cs) n
block_none [] m a n k l = refl
block_none (c ∷ cs) m a n k l = block_none cs m (a + 1) n k l

blocks_none : (bs : List ConfigBlock) → Each (λ b. 0x34 ≤ b.offset) bs → HasNoneBelow (flat_map block_cells bs) 0x34
blocks_none [] h k l = refl
blocks_none (b ∷ bs) h k l = joined_none (block_cells b) (flat_map block_cells bs) 0x34 (cells_none b.cells b.offset 0x34 h.0) (blocks_none bs h.1) k l

-- registers of two regions of which one is behind the other
abbrev AreApart : ℕ → Kind → ℕ → Kind → Type 0
AreApart i k j l = (i + registers_of k ≤ j) ⊎ (j + registers_of l ≤ i)

-- a word of base address registers leaves a region that has its registers elsewhere
region_leaves : (bases : Region → ℕ) (r : Region) (reg x : ℕ) → (reg + 1 ≤ r.index) ⊎ (r.index + registers_of r.kind ≤ reg)
    → write (four true true true true) x (base_register reg) (region_cells bases r) ≡ region_cells bases r
region_leaves bases r reg x h =
    joined_write (four true true true true) x (base_register reg) (base_cells r.index r.kind r.size (bases r)) (cells_from (block r.index 0) r.cells)
    ∙ ap₂ (λ (x y : File). x ++ y)
    (write_apart (four true true true true) x (0x10 + 4 * reg) (4 * registers_of r.kind) (0x10 + 4 * r.index) (bases r + type_bits r.kind) (2 ^ base_width r.kind - r.size) 0 (apart h))
    (stays (cells_from (block r.index 0) r.cells) (0x10 + 4 * reg + 4) (block_none r.cells r.index 0 (0x10 + 4 * reg + 4)) (four true true true true) x (0x10 + 4 * reg) (omega arith))
  where
    apart : (reg + 1 ≤ r.index) ⊎ (r.index + registers_of r.kind ≤ reg) → IsApart 4 (0x10 + 4 * reg) (0x10 + 4 * r.index) (4 * registers_of r.kind)
    apart (inl l) = inl (omega arith)
    apart (inr l) = inr (omega arith)

words_leave : (bases : Region → ℕ) (r : Region) (index : ℕ) (kind : Kind) (size base : ℕ) → AreApart index kind r.index r.kind
    → file_after (base_words (base_of index kind size base)) (region_cells bases r) ≡ region_cells bases r
words_leave bases r index kind size base h = grind (arith, region_leaves)

-- the header has no cell among the base address registers, and the blocks stand behind them
header_leaves : (d : Endpoint) (multifunction : Bool) (command reg x : ℕ) → reg < 6 → write (four true true true true) x (base_register reg) (header_cells d multifunction command) ≡ header_cells d multifunction command
header_leaves d multifunction command zero x h = refl
header_leaves d multifunction command (suc zero) x h = refl
header_leaves d multifunction command (suc (suc zero)) x h = refl
header_leaves d multifunction command (suc (suc (suc zero))) x h = refl
header_leaves d multifunction command (suc (suc (suc (suc zero)))) x h = refl
header_leaves d multifunction command (suc (suc (suc (suc (suc zero))))) x h = refl
header_leaves d multifunction command (suc (suc (suc (suc (suc (suc reg)))))) x h = absurd (omega arith)

abbrev pub StandBehind : Endpoint → Type 0
StandBehind d = Each (λ b. 0x34 ≤ b.offset) d.blocks

config_leaves : (d : Endpoint) → StandBehind d → (multifunction : Bool) (command reg x : ℕ) → reg < 6 → write (four true true true true) x (base_register reg) (config_cells d multifunction command) ≡ config_cells d multifunction command
config_leaves d behind multifunction command reg x h =
    joined_write (four true true true true) x (base_register reg) (header_cells d multifunction command) (flat_map block_cells d.blocks)
    ∙ ap₂ (λ (x y : File). x ++ y) (header_leaves d multifunction command reg x h) (stays (flat_map block_cells d.blocks) 0x34 (blocks_none d.blocks behind) (four true true true true) x (0x10 + 4 * reg) (omega arith))

base_leaves_config : (d : Endpoint) → StandBehind d → (multifunction : Bool) (command index : ℕ) (kind : Kind) (size base : ℕ) → index + registers_of kind ≤ 6
    → file_after (base_words (base_of index kind size base)) (config_cells d multifunction command) ≡ config_cells d multifunction command
base_leaves_config d behind multifunction command index io_kind size base h = config_leaves d behind multifunction command index (base % 2 ^ 32) (omega arith)
base_leaves_config d behind multifunction command index (mem32 pref) size base h = config_leaves d behind multifunction command index (base % 2 ^ 32) (omega arith)
base_leaves_config d behind multifunction command index (mem64 pref) size base h =
    ap (write (four true true true true) (base / 2 ^ 32) (base_register (index + 1))) (config_leaves d behind multifunction command index (base % 2 ^ 32) (omega arith))
    ∙ config_leaves d behind multifunction command (index + 1) (base / 2 ^ 32) (omega arith)

-- ---- all bases

abbrev pub based : (Region → ℕ) → Region → BaseAddress
based bases r = base_of r.index r.kind r.size (bases r)

-- what the words of each base leave the words of all leave
all_leave : (file : File) (bases : Region → ℕ) (rs : List Region) → Each (λ r. file_after (base_words (based bases r)) file ≡ file) rs → file_after (flat_map base_words (map (based bases) rs)) file ≡ file
all_leave file bases [] h = refl
all_leave file bases (r ∷ rs) h = grind (arith, after_joined, file_after, all_leave file bases rs h.1)

abbrev IsBehind : Region → Region → Type 0
IsBehind r s = r.index + registers_of r.kind ≤ s.index

-- the words of later regions leave a region, and its own leave them
later_leave : (bases : Region → ℕ) (r : Region) (rs : List Region) → Each (IsBehind r) rs → file_after (flat_map base_words (map (based bases) rs)) (region_cells bases r) ≡ region_cells bases r
later_leave bases r rs h = all_leave (region_cells bases r) bases rs
    (each_map (IsBehind r) (λ s. file_after (base_words (based bases s)) (region_cells bases r) ≡ region_cells bases r) rs (λ s k. words_leave bases r s.index s.kind s.size (bases s) (inr k)) h)

leaves_later : (bases : Region → ℕ) (b : BaseAddress) (rs : List Region) → Each (λ s. b.index + registers_of b.kind ≤ s.index) rs → file_after (base_words b) (flat_map (region_cells bases) rs) ≡ flat_map (region_cells bases) rs
leaves_later bases b [] h = grind arith
leaves_later bases b (s ∷ rs) h =
    joined_after (base_words b) (region_cells bases s) (flat_map (region_cells bases) rs)
    ∙ ap₂ (λ (x y : File). x ++ y) (words_leave bases s b.index b.kind b.size b.base (inl h.0)) (leaves_later bases b rs h.1)

abbrev no_base : Region → ℕ
no_base r = 0

own_region : (bases : Region → ℕ) (r : Region) → IsLawfulBase (based bases r) → file_after (base_words (based bases r)) (region_cells no_base r) ≡ region_cells bases r
own_region bases r h =
    joined_after (base_words (based bases r)) (base_cells r.index r.kind r.size 0) (cells_from (block r.index 0) r.cells)
    ∙ ap₂ (λ (x y : File). x ++ y) (own_base r.index r.kind r.size (bases r) h) (block_stays r.kind)
  where
    word_stays : (reg x : ℕ) → write (four true true true true) x (base_register reg) (cells_from (block r.index 0) r.cells) ≡ cells_from (block r.index 0) r.cells
    word_stays reg x = stays (cells_from (block r.index 0) r.cells) (0x10 + 4 * reg + 4) (block_none r.cells r.index 0 (0x10 + 4 * reg + 4)) (four true true true true) x (0x10 + 4 * reg) (omega arith)

    block_stays : (k : Kind) → file_after (base_words (base_of r.index k r.size (bases r))) (cells_from (block r.index 0) r.cells) ≡ cells_from (block r.index 0) r.cells
    block_stays io_kind = word_stays r.index (bases r % 2 ^ 32)
    block_stays (mem32 pref) = word_stays r.index (bases r % 2 ^ 32)
    block_stays (mem64 pref) = ap (write (four true true true true) (bases r / 2 ^ 32) (base_register (r.index + 1))) (word_stays r.index (bases r % 2 ^ 32)) ∙ word_stays (r.index + 1) (bases r / 2 ^ 32)

regions_written : (bases : Region → ℕ) (rs : List Region) → EachPair IsBehind rs → Each (λ r. IsLawfulBase (based bases r)) rs
    → file_after (flat_map base_words (map (based bases) rs)) (flat_map (region_cells no_base) rs) ≡ flat_map (region_cells bases) rs
regions_written bases [] order lawful = refl
regions_written bases (r ∷ rs) order lawful =
    let own = base_words (based bases r) in
    let others = flat_map base_words (map (based bases) rs) in
    let later = flat_map (region_cells no_base) rs in
    joined_after (own ++ others) (region_cells no_base r) later
    ∙ ap₂ (λ (x y : File). x ++ y)
    (after_joined own others (region_cells no_base r) ∙ ap (file_after others) (own_region bases r lawful.0) ∙ later_leave bases r rs order.0)
    (after_joined own others later ∙ ap (file_after others) (leaves_later no_base (based bases r) rs order.0) ∙ regions_written bases rs order.1 lawful.1)

bases_written : (d : Endpoint) → StandBehind d → HasLawfulRegions d.regions → (multifunction : Bool) (bases : Region → ℕ) → Each (λ r. IsLawfulBase (based bases r)) d.regions
    → file_after (flat_map base_words (map (based bases) d.regions)) (endpoint_reset d multifunction) ≡ endpoint_file d multifunction 0 bases
bases_written d behind regions multifunction bases lawful =
    let words = flat_map base_words (map (based bases) d.regions) in
    joined_after words (config_cells d multifunction 0) (flat_map (region_cells no_base) d.regions)
    ∙ ap₂ (λ (x y : File). x ++ y) (all_leave (config_cells d multifunction 0) bases d.regions (each_map IsLawfulRegion (λ r. file_after (base_words (based bases r)) (config_cells d multifunction 0) ≡ config_cells d multifunction 0) d.regions
    (λ r h. base_leaves_config d behind multifunction 0 r.index r.kind r.size (bases r) h.registers) regions.each))
    (regions_written bases d.regions regions.in_order lawful)

-- ---- Command

abbrev command_in : Bool → Bool → ℕ
command_in u v = cond u 1 0 + cond v 2 0

header_commanded : (d : Endpoint) (multifunction : Bool) (u v : Bool) → written_file (word 0x04 3 (command_in u v)) (header_cells d multifunction 0) ≡ header_cells d multifunction (command_in u v)
header_commanded d multifunction u v = grind arith

regions_stay : (bases : Region → ℕ) (command : ℕ) (rs : List Region) → written_file (word 0x04 3 command) (flat_map (region_cells bases) rs) ≡ flat_map (region_cells bases) rs
regions_stay bases command [] = refl
regions_stay bases command (r ∷ rs) =
    let low = true ∷ true ∷ false ∷ false ∷ [] in
    joined_write low command (config 0x04) (region_cells bases r) (flat_map (region_cells bases) rs)
    ∙ ap₂ (λ (x y : File). x ++ y)
    (joined_write low command (config 0x04) (base_cells r.index r.kind r.size (bases r)) (cells_from (block r.index 0) r.cells)
    ∙ ap₂ (λ (x y : File). x ++ y) (write_apart low command 0x04 (4 * registers_of r.kind) (0x10 + 4 * r.index) (bases r + type_bits r.kind) (2 ^ base_width r.kind - r.size) 0 (inl (omega arith)))
    (stays (cells_from (block r.index 0) r.cells) 0x08 (block_none r.cells r.index 0 0x08) low command 0x04 (omega arith)))
    (regions_stay bases command rs)

command_written : (d : Endpoint) → StandBehind d → (multifunction : Bool) (bases : Region → ℕ) (u v : Bool) → written_file (word 0x04 3 (command_in u v)) (endpoint_file d multifunction 0 bases) ≡ endpoint_file d multifunction (command_in u v) bases
command_written d behind multifunction bases u v =
    let low = true ∷ true ∷ false ∷ false ∷ [] in
    joined_write low (command_in u v) (config 0x04) (config_cells d multifunction 0) (flat_map (region_cells bases) d.regions)
    ∙ ap₂ (λ (x y : File). x ++ y)
    (joined_write low (command_in u v) (config 0x04) (header_cells d multifunction 0) (flat_map block_cells d.blocks)
    ∙ ap₂ (λ (x y : File). x ++ y) (header_commanded d multifunction u v) (stays (flat_map block_cells d.blocks) 0x34 (blocks_none d.blocks behind) low (command_in u v) 0x04 (omega arith)))
    (regions_stay bases (command_in u v) d.regions)

pub endpoint_written : (d : Endpoint) → StandBehind d → HasLawfulRegions d.regions → (multifunction : Bool) (bases : Region → ℕ) → Each (λ r. IsLawfulBase (based bases r)) d.regions
    → file_after (endpoint_words (command_of d) (map (based bases) d.regions)) (endpoint_reset d multifunction) ≡ endpoint_file d multifunction (command_of d) bases
endpoint_written d behind regions multifunction bases lawful =
    after_joined (flat_map base_words (map (based bases) d.regions)) (word 0x04 3 (command_of d) ∷ []) (endpoint_reset d multifunction)
    ∙ ap (written_file (word 0x04 3 (command_of d))) (bases_written d behind regions multifunction bases lawful)
    ∙ command_written d behind multifunction bases (opens d io) (opens d memory)
