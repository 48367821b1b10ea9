-- The registers of an endpoint: PCI Local Bus 3.0, chapter 6.
--     base_cells      the cells of a base address register, with its base and type bits
--     BaseAddress, base_file      a base address register with its current base, and the cells of base address registers
--     header_cells, config_cells      the header without base address registers; the same with the device-specific blocks
--     endpoint_file      all cells of an endpoint with this Command and these bases, and all others at reset
--     endpoint_reset      all cells at reset
use Rattle.std.specs.Prelude.{List, [], ◌≡◌, ℕ, ◌-◌, ◌+◌, ◌*◌, ◌%◌, ◌<◌, Bool, if◌then◌else◌, ◌^◌, ◌++◌, map, flat_map}
use Rattle.lists.specs.Elements.{Each}
use Rattle.model_registers.specs.{Registers.{Place, config, block, File, field, cells_from}, Declarations.{Kind, io_kind, mem32, mem64, registers_of, IsLawfulSize, HasLawfulRegions, Region, ConfigBlock, Endpoint}}

abbrev pub base_register : ℕ → Place
base_register n = config (0x10 + 4 * n)

-- the bits below a base, which encode its kind
abbrev pub type_bits : Kind → ℕ
type_bits io_kind = 1
type_bits (mem32 pref) = if pref then 8 else 0
type_bits (mem64 pref) = if pref then 12 else 4

-- the width of a base in bits
abbrev pub base_width : Kind → ℕ
base_width kind = 32 * registers_of kind

-- a base register: the base with the type bits; the bits at and above the size are writable
abbrev pub base_cells : ℕ → Kind → ℕ → ℕ → File
base_cells n kind size base =
    field (base_register n) (4 * registers_of kind) (base + type_bits kind) (2 ^ base_width kind - size) 0

-- a base address register with its current base
pub record BaseAddress : Type 0 where
  pub index : ℕ
  pub kind : Kind
  pub size : ℕ
  pub base : ℕ

abbrev pub register_cells : BaseAddress → File
register_cells b = base_cells b.index b.kind b.size b.base

-- the cells of base address registers only
abbrev pub base_file : List BaseAddress → File
base_file bs = flat_map register_cells bs

-- the region of a base address register, without its cells
abbrev pub opened : BaseAddress → Region
opened b = record { index = b.index; kind = b.kind; size = b.size; cells = [] }

-- the register of a region at reset
abbrev pub closed : Region → BaseAddress
closed r = record { index = r.index; kind = r.kind; size = r.size; base = 0 }

-- a size that the kind allows, and a base that is a multiple of the size and fits the registers
pub record IsLawfulBase (b : BaseAddress) : Type 0 where
  pub size_is_lawful : IsLawfulSize b.kind b.size
  pub aligned : b.base % b.size ≡ 0
  pub fits : b.base < 2 ^ base_width b.kind

-- lawful regions with lawful bases
pub record HasLawfulBases (bs : List BaseAddress) : Type 0 where
  pub regions : HasLawfulRegions (map opened bs)
  pub each : Each IsLawfulBase bs

abbrev pub region_cells : (Region → ℕ) → Region → File
region_cells bases r = base_cells r.index r.kind r.size (bases r) ++ cells_from (block r.index 0) r.cells

abbrev pub block_cells : ConfigBlock → File
block_cells b = cells_from (config b.offset) b.cells

-- `multifunction` is bit 7 of the header type
abbrev pub header_type : ℕ → Bool → ℕ
header_type layout multifunction = layout + (if multifunction then 0x80 else 0)

-- the writable bits of Command: I/O and memory space, bus master, parity and system error response, interrupt disable
abbrev pub command_mask : ℕ
command_mask = 0x0547

-- the Command register
abbrev pub command_cells : ℕ → File
command_cells command = field (config 0x04) 2 command command_mask 0

-- the header with this Command, without base address registers
abbrev pub header_cells : Endpoint → Bool → ℕ → File
header_cells d multifunction command =
    field (config 0x00) 2 d.vendor 0 0 ++ field (config 0x02) 2 d.device 0 0
    ++ command_cells command ++ field (config 0x06) 2 d.status 0 0xf900
    ++ field (config 0x08) 1 d.revision 0 0 ++ field (config 0x09) 3 d.class 0 0
    ++ field (config 0x0c) 2 0 0xffff 0 ++ field (config 0x0e) 1 (header_type 0 multifunction) 0 0
    ++ field (config 0x2c) 2 d.subvendor 0 0 ++ field (config 0x2e) 2 d.subsystem 0 0
    ++ field (config 0x3c) 1 0 0xff 0 ++ field (config 0x3d) 1 d.pin 0 0
    ++ field (config 0x3e) 1 d.min_gnt 0 0 ++ field (config 0x3f) 1 d.max_lat 0 0

-- the configuration cells with this Command, without base address registers
abbrev pub config_cells : Endpoint → Bool → ℕ → File
config_cells d multifunction command = header_cells d multifunction command ++ flat_map block_cells d.blocks

-- the cells of an endpoint with this Command and these bases, and all others at reset
abbrev pub endpoint_file : Endpoint → Bool → ℕ → (Region → ℕ) → File
endpoint_file d multifunction command bases =
    config_cells d multifunction command ++ flat_map (region_cells bases) d.regions

abbrev pub endpoint_reset : Endpoint → Bool → File
endpoint_reset d multifunction = endpoint_file d multifunction 0 (λ r. 0)

-- the configuration cells at reset, without base address registers
abbrev pub config_reset : Endpoint → Bool → File
config_reset d multifunction = config_cells d multifunction 0
