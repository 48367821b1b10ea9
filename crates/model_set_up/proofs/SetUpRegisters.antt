-- The registers that set-up leaves read what it put there.
use Rattle.std.{proofs.Common.{◌≡◌, ℕ, zero, suc, ◌+◌, ◌-◌, ◌*◌, ◌/◌, ◌%◌, ◌^◌, ◌≤◌, ◌<◌, Bool, true, List, [], ◌∷◌, ◌++◌, refl, ap, ◌∙◌, cond, arith, append_assoc, rules, Option, ap₂}, specs.Prelude.flat_map}
use Rattle.lists.specs.Elements.{Each, EachPair}
use Rattle.model_registers.{proofs.{Owned.{cells_above, cells_elsewhere}, RegisterFiles.{field_reads, below}}, specs.{Cell.Cell, Registers.{config, block, File, cell_at, number, cells_from}, Declarations.{Kind, io_kind, mem32, mem64, Region, registers_of, least_size, ConfigBlock, Endpoint, Bridge, IoDecode, PrefDecode, pref64}, EndpointTable.{base_register, base_cells, region_cells, block_cells, header_cells, endpoint_file}, BridgeTable.{BridgeValues, bridge_file, address_bits}, Decoding.{Space, base, is_open}}}
use Rattle.model_set_up.specs.{SetUp.{opens, command_of}, Pools.{has_io, has_pref, has_pref64}}
use Rattle.model_board.{proofs.Routing.same_number, specs.Windows.{Window, window, io_window, mem_window, pref_window}}

-- ---- a register is read past cells of other places

past_blocks : (bs : List ConfigBlock) (k : ℕ) (rest : File) → Each (λ b. 0x34 ≤ b.offset) bs → k < 0x34 → cell_at (flat_map block_cells bs ++ rest) (config k) ≡ cell_at rest (config k)
past_blocks [] k rest h l = refl
past_blocks (b ∷ bs) k rest h l = grind (arith, append_assoc, cells_above, past_blocks bs k rest h.1 l)

same_cells : (w a : ℕ) (f g : File) → ((k : ℕ) → a ≤ k → k < a + w → cell_at f (config k) ≡ cell_at g (config k)) → number f (config a) w ≡ number g (config a) w
same_cells w a f g h = same_number w a f g (λ k l u. ap (λ (c : Cell). c.value) (h k l u))

-- ---- base address registers

-- the base with the type bits
abbrev with_type : Kind → ℕ → ℕ
with_type io_kind b = b + 1
with_type (mem32 pref) b = b + cond pref 8 0
with_type (mem64 pref) b = b + cond pref 12 4

base_here : (kind : Kind) (n size b : ℕ) (rest : File) → number (base_cells n kind size b ++ rest) (base_register n) (4 * registers_of kind) ≡ with_type kind b % 256 ^ (4 * registers_of kind)
base_here kind n size b rest = grind (arith, field_reads)

past_base : (kind : Kind) (n size b k : ℕ) (rest : File) → 16 + 4 * (n + registers_of kind) ≤ k → cell_at (base_cells n kind size b ++ rest) (config k) ≡ cell_at rest (config k)
past_base kind n size b k rest h = grind (arith, below)

module _ (bases : Region → ℕ) where
  split : (r : Region) (rest : File) → region_cells bases r ++ rest ≡ base_cells r.index r.kind r.size (bases r) ++ (cells_from (block r.index 0) r.cells ++ rest)
  split r rest = append_assoc (base_cells r.index r.kind r.size (bases r)) (cells_from (block r.index 0) r.cells) rest

  -- the register of a region reads its base with the type bits
  abbrev Reads : File → Region → Type 0
  Reads file r = number file (base_register r.index) (4 * registers_of r.kind) ≡ with_type r.kind (bases r) % 256 ^ (4 * registers_of r.kind)

  later : (r : Region) (rest : File) (rs : List Region) → Each (λ s. r.index + registers_of r.kind ≤ s.index) rs → Each (Reads rest) rs → Each (Reads (region_cells bases r ++ rest)) rs
  later r rest [] h k = tt
  later r rest (s ∷ rs) h k = grind (arith, same_cells, later r rest rs, split, past_base, cells_elsewhere)

  regions_read : (rs : List Region) → EachPair (λ r s. r.index + registers_of r.kind ≤ s.index) rs → Each (Reads (flat_map (region_cells bases) rs)) rs
  regions_read [] h = tt
  regions_read (r ∷ rs) h = grind (arith, split, base_here, later, regions_read rs h.1)

-- no register of the header stands among the base address registers, and all blocks stand behind them
past_header_4 : (d : Endpoint) (multifunction : Bool) (command n : ℕ) (rest : File) → n < 6 → number (header_cells d multifunction command ++ rest) (base_register n) 4 ≡ number rest (base_register n) 4
past_header_4 d multifunction command zero rest h = refl
past_header_4 d multifunction command (suc zero) rest h = refl
past_header_4 d multifunction command (suc (suc zero)) rest h = refl
past_header_4 d multifunction command (suc (suc (suc zero))) rest h = refl
past_header_4 d multifunction command (suc (suc (suc (suc zero)))) rest h = refl
past_header_4 d multifunction command (suc (suc (suc (suc (suc zero))))) rest h = refl
past_header_4 d multifunction command (suc (suc (suc (suc (suc (suc n)))))) rest h = absurd (omega arith)

past_header_8 : (d : Endpoint) (multifunction : Bool) (command n : ℕ) (rest : File) → n < 5 → number (header_cells d multifunction command ++ rest) (base_register n) 8 ≡ number rest (base_register n) 8
past_header_8 d multifunction command zero rest h = refl
past_header_8 d multifunction command (suc zero) rest h = refl
past_header_8 d multifunction command (suc (suc zero)) rest h = refl
past_header_8 d multifunction command (suc (suc (suc zero))) rest h = refl
past_header_8 d multifunction command (suc (suc (suc (suc zero)))) rest h = refl
past_header_8 d multifunction command (suc (suc (suc (suc (suc n))))) rest h = absurd (omega arith)

past_header : (kind : Kind) (d : Endpoint) (multifunction : Bool) (command n : ℕ) (rest : File) → n + registers_of kind ≤ 6 → number (header_cells d multifunction command ++ rest) (base_register n) (4 * registers_of kind) ≡ number rest (base_register n) (4 * registers_of kind)
past_header io_kind d multifunction command n rest h = past_header_4 d multifunction command n rest (omega arith)
past_header kind d multifunction command n rest h = grind (arith, past_header_4, past_header_8)

-- an address that a base address register can hold
pub record FitsRegister (kind : Kind) (b : ℕ) : Type 0 where
  pub aligned : b % least_size kind ≡ 0
  pub small : b < 256 ^ (4 * registers_of kind)

without_type : (kind : Kind) (b : ℕ) (file : File) (n : ℕ) → FitsRegister kind b → number file (base_register n) (4 * registers_of kind) ≡ with_type kind b % 256 ^ (4 * registers_of kind) → base file n kind ≡ b
without_type kind b file n fits e = grind arith

-- each base address register of an endpoint's file holds its base
module _ (d : Endpoint) (multifunction : Bool) (command : ℕ) (bases : Region → ℕ) where
  bases_from : (rest : File) (rs : List Region) → Each (λ b. 0x34 ≤ b.offset) d.blocks → rest ≡ flat_map (region_cells bases) d.regions → Each (λ r. r.index + registers_of r.kind ≤ 6) rs → Each (λ r. FitsRegister r.kind (bases r)) rs
      → Each (Reads bases rest) rs → Each (λ r. base (endpoint_file d multifunction command bases) r.index r.kind ≡ bases r) rs
  bases_from rest [] far e few fits h = tt
  bases_from rest (r ∷ rs) far e few fits h = search (rules, without_type, past_header, same_cells, past_blocks, bases_from rest rs far e few.1 fits.1 h.1)

  pub bases_read : Each (λ b. 0x34 ≤ b.offset) d.blocks → EachPair (λ r s. r.index + registers_of r.kind ≤ s.index) d.regions → Each (λ r. r.index + registers_of r.kind ≤ 6) d.regions → Each (λ r. FitsRegister r.kind (bases r)) d.regions
      → Each (λ r. base (endpoint_file d multifunction command bases) r.index r.kind ≡ bases r) d.regions
  bases_read far order few fits = bases_from (flat_map (region_cells bases) d.regions) d.regions far refl few fits (regions_read bases d.regions order)

-- ---- Command

-- an endpoint decodes in the spaces of its regions
pub endpoint_opens : (d : Endpoint) (multifunction : Bool) (bases : Region → ℕ) (space : Space) → is_open (endpoint_file d multifunction (command_of d) bases) space ≡ opens d space
endpoint_opens d multifunction bases space = grind arith

-- a bridge forwards in both spaces
pub bridge_opens : (d : Bridge) (multifunction : Bool) (r : BridgeValues) (space : Space) → r.command ≡ 3 → is_open (bridge_file d multifunction r) space ≡ true
bridge_opens d multifunction r space h = grind arith

-- ---- the window registers that set-up leaves read what it put there

-- numbers of one, two and four bytes, as they are read
abbrev one_byte : ℕ → ℕ
one_byte v = v % 256 + 256 * 0

abbrev two_bytes : ℕ → ℕ
two_bytes v = v % 256 + 256 * one_byte (v / 256)

abbrev four_bytes : ℕ → ℕ
four_bytes v = v % 256 + 256 * (v / 256 % 256 + 256 * two_bytes (v / 256 / 256))

two_are : (v : ℕ) → v < 2 ^ 16 → two_bytes v ≡ v
two_are v h = omega arith

-- the address bits of a register, with its type bits: a whole address, and one cut to its unit
abbrev pub cut : ℕ → ℕ → ℕ
cut unit n = n / unit * unit

io_bits : (n t : ℕ) → t < 16 → n < 2 ^ 16 → one_byte (address_bits (2 ^ 12) n t) / 16 * 2 ^ 12 ≡ cut (2 ^ 12) n
io_bits n t o h = omega arith

io_high : (n t : ℕ) → t < 16 → n < 2 ^ 16 → two_bytes (n / 2 ^ 16) * 2 ^ 16 + one_byte (address_bits (2 ^ 12) n t) / 16 * 2 ^ 12 ≡ cut (2 ^ 12) n
io_high n t o h = omega arith

mem_bits : (n t : ℕ) → t < 16 → n < 2 ^ 32 → two_bytes (address_bits (2 ^ 20) n t) / 16 * 2 ^ 20 ≡ cut (2 ^ 20) n
mem_bits n t o h = let small : address_bits (2 ^ 20) n t < 2 ^ 16 = omega arith in ap (λ v. v / 16 * 2 ^ 20) (two_are (address_bits (2 ^ 20) n t) small) ∙ omega arith

pref_high : (n t : ℕ) → t < 16 → n < 2 ^ 64 → four_bytes (n / 2 ^ 32) * 2 ^ 32 + two_bytes (address_bits (2 ^ 20) n t) / 16 * 2 ^ 20 ≡ cut (2 ^ 20) n
pref_high n t o h = grind (arith, two_are)

-- a window of whole units, as its registers name it
abbrev pub whole : ℕ → Window → Option Window
whole unit s = window (cut unit s.first) (cut unit s.last + (unit - 1))

module _ (d : Bridge) (multifunction : Bool) (r : BridgeValues) where
  abbrev bridge_of : IoDecode → PrefDecode → Bridge
  bridge_of k m = record d { io = k; pref = m }

  io_by : (k : IoDecode) (m : PrefDecode) → has_io k ≡ true → r.io.first < 2 ^ 16 → r.io.last < 2 ^ 16 → io_window k (bridge_file (bridge_of k m) multifunction r) ≡ whole (2 ^ 12) r.io
  io_by k m has f l = grind (arith, io_bits, io_high)

  high_by : (k : IoDecode) (m : PrefDecode) → has_pref64 m ≡ true → r.pref.first < 2 ^ 64 → r.pref.last < 2 ^ 64 → pref_window m (bridge_file (bridge_of k m) multifunction r) ≡ whole (2 ^ 20) r.pref
  high_by k m has f l = grind (arith, pref_high)

  low_by : (k : IoDecode) (m : PrefDecode) → has_pref m ≡ true → r.pref.first < 2 ^ 32 → r.pref.last < 2 ^ 32 → pref_window m (bridge_file (bridge_of k m) multifunction r) ≡ whole (2 ^ 20) r.pref
  low_by k m has f l =
      grind (arith, mem_bits r.pref.first 0 (omega arith) f, mem_bits r.pref.last 0 (omega arith) l, high_by k pref64 refl (omega arith) (omega arith))

module _ (d : Bridge) (multifunction : Bool) (r : BridgeValues) where
  pub io_reads : has_io d.io ≡ true → r.io.first < 2 ^ 16 → r.io.last < 2 ^ 16 → io_window d.io (bridge_file d multifunction r) ≡ whole (2 ^ 12) r.io
  io_reads = io_by d multifunction r d.io d.pref

  pub mem_reads : r.mem.first < 2 ^ 32 → r.mem.last < 2 ^ 32 → mem_window (bridge_file d multifunction r) ≡ whole (2 ^ 20) r.mem
  mem_reads f l = ap₂ (λ x y. window x (y + 0xfffff)) (mem_bits r.mem.first 0 (omega arith) f) (mem_bits r.mem.last 0 (omega arith) l)

  pub pref_reads_low : has_pref d.pref ≡ true → r.pref.first < 2 ^ 32 → r.pref.last < 2 ^ 32 → pref_window d.pref (bridge_file d multifunction r) ≡ whole (2 ^ 20) r.pref
  pref_reads_low = low_by d multifunction r d.io d.pref

  pub pref_reads : has_pref64 d.pref ≡ true → r.pref.first < 2 ^ 64 → r.pref.last < 2 ^ 64 → pref_window d.pref (bridge_file d multifunction r) ≡ whole (2 ^ 20) r.pref
  pref_reads = high_by d multifunction r d.io d.pref
