-- The cells of an endpoint, in the parts in which the program stores them.
--     block_at blocks n      the cells of the block at base address register n
--     region_parts      for each base address register, its cells and those of its block
--     IsShort      each cell has a 16-bit offset
--     AreParts      the invariants of an endpoint's parts
--     declared_bar, declared_block      the declaration at a register
--     as_made cells      cells with their reset values
--     block_at_reset blocks n      the cells of that block at reset
--     blocks_after blocks      the blocks after each was reset
--     KnowReset      the reset cells stored in an endpoint's parts are those of its declaration
--     IsEndpointFn      all invariants of an endpoint's parts
use Rattle.std.specs.{Prelude.{List, [], ◌≡◌, ◌≢◌, ◌⊎◌, ℕ, ◌≤◌, ◌<◌, ◌++◌, ◌==◌, true, false, Option, option_map, map, flat_map, find, length, slice_get}, Option.option_map_or}
use Rattle.lists.specs.Elements.{Each}
use Rattle.model_registers.specs.{Cell.IsConstant, Registers.{Place, config, place_eq, PlacedCell, File, cell_at, number, cells_from, in_region}, FileLaws.{has_place, IsConfigFile}, Declarations.{Bar, Region, HasLawfulRegions, Endpoint}, DeclarationRules.IsLawfulEndpoint, EndpointTable.{BaseAddress, register_cells, opened, config_reset}, OwnCopies.{bare, is_own}}
use Rattle.config_bytes.specs.CellFile.{CellFile, places_of}

abbrev pub block_at : List CellFile → ℕ → File
block_at blocks n = option_map_or (λ (f : CellFile). f.now) (slice_get blocks n) []

abbrev pub region_parts : List BaseAddress → (ℕ → File) → File
region_parts bars blocks = flat_map (λ b. register_cells b ++ in_region b.index (blocks b.index)) bars

-- no cell is at 10000h or above
abbrev pub IsShort : File → Type 0
IsShort cells = (off : ℕ) → 0x10000 ≤ off → has_place cells (config off) ≡ false

-- the offsets of the base address registers, and all offsets beyond configuration space
abbrev pub IsElsewhere : ℕ → Type 0
IsElsewhere off = ((0x10 ≤ off) × (off < 0x28)) ⊎ (0x100 ≤ off)

-- lawful regions, each with its base address register; no block where no region starts, and none above 4096 cells
pub record AreParts (d : Endpoint) (cells : File) (bars : List BaseAddress) (blocks : ℕ → File) : Type 0 where
  pub lawful : HasLawfulRegions d.regions
  pub registers : map opened bars ≡ map bare d.regions
  pub config_places : IsConfigFile cells
  pub config_within : (off : ℕ) → IsElsewhere off → has_place cells (config off) ≡ false
  pub block_places : (n : ℕ) → IsConfigFile (blocks n)
  pub block_within : (n off : ℕ) → 0x1000 ≤ off → has_place (blocks n) (config off) ≡ false
  pub unused : (n : ℕ) → Each (λ b. b.index ≢ n) bars → blocks n ≡ []

abbrev pub region_at : List Region → ℕ → Option Region
region_at rs n = find (λ r. r.index == n) rs

abbrev pub declared_bar : List Region → ℕ → Option Bar
declared_bar rs n = option_map (λ (r : Region). record { kind = r.kind; size = r.size }) (region_at rs n)

abbrev pub declared_block : List Region → ℕ → File
declared_block rs n = option_map_or (λ (r : Region). cells_from (config 0) r.cells) (region_at rs n) []

-- cells with the values given at creation
abbrev pub as_made : File → CellFile
as_made cells = record { now = cells; initial = cells }

abbrev pub block_at_reset : List CellFile → ℕ → File
block_at_reset blocks n = option_map_or (λ (f : CellFile). f.initial) (slice_get blocks n) []

abbrev pub blocks_after : List CellFile → List CellFile
blocks_after blocks = map (λ (f : CellFile). record f { now = f.initial }) blocks

-- the header type keeps its reset value
abbrev pub IsHeaderKept : File → PlacedCell → Type 0
IsHeaderKept initial e =
    place_eq e.place (config 0x0e) ≡ true → (e.cell ≡ cell_at initial (config 0x0e)) × IsConstant e.cell

-- only the header type depends on whether the device has other functions
pub record KnowReset (d : Endpoint) (cells : CellFile) (blocks : List CellFile) : Type 0 where
  pub lawful : IsLawfulEndpoint d
  pub header : Each (IsHeaderKept cells.initial) cells.now
  pub declared : (p : Place) → is_own p ≡ false → cell_at cells.initial p ≡ cell_at (config_reset d false) p
  pub six : length blocks ≡ 6
  pub block_cells : (n : ℕ) → n < 6 → block_at_reset blocks n ≡ declared_block d.regions n
  pub block_places : (n : ℕ) → places_of (block_at blocks n) ≡ places_of (block_at_reset blocks n)

-- `command` is the value of Command's cells
pub record IsEndpointFn (d : Endpoint) (cells : CellFile) (command : ℕ)
    (bars : List BaseAddress) (blocks : List CellFile) : Type 0 where
  pub parts : AreParts d cells.now bars (block_at blocks)
  pub command_is : command ≡ number cells.now (config 0x04) 2
  pub reset : KnowReset d cells blocks
