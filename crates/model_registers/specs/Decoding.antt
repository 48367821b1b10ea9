-- The addresses that a function decodes, given its own registers: PCI Local Bus 3.0, chapter 6.2.5.
--     Space, Function      I/O or memory; a function as a guest sees it
--     base, base_address      the address in a base address register; a region with its current base
--     opens_space, is_open      the Command register enables decoding in a space
--     decodes, hit_at      a region at its current base decodes an address; the hit in that region
--     first_hit, lone_claim      the hit in the first region, in register order, that decodes an address
use Rattle.std.specs.Prelude.{ℕ, ◌-◌, bit_and, ◌+◌, ◌*◌, ◌/◌, Bool, true, false, ◌&&◌, ◌==◌, if◌then◌else◌, List, not, nat_lt, nat_le, Option, Some, None}
use Rattle.lists.specs.Elements.{first_some}
use Rattle.model_registers.specs.{Registers.{config, File, number}, Declarations.{Kind, io_kind, mem32, mem64, Region, Endpoint}, EndpointTable.{base_register, BaseAddress}}

pub data Space : Type 0 where
  io : Space
  memory : Space

-- a function as a guest sees it: its declaration and its cells
pub record Function : Type 0 where
  pub decl : Endpoint
  pub file : File

abbrev pub space_of : Kind → Space
space_of io_kind = io
space_of (mem32 pref) = memory
space_of (mem64 pref) = memory

abbrev pub same_space : Space → Space → Bool
same_space io io = true
same_space memory memory = true
same_space io memory = false
same_space memory io = false

-- the base that the registers currently hold, with the type bits cleared
abbrev pub base : File → ℕ → Kind → ℕ
base file n io_kind = number file (base_register n) 4 / 4 * 4
base file n (mem32 pref) = number file (base_register n) 4 / 16 * 16
base file n (mem64 pref) = number file (base_register n) 8 / 16 * 16

-- the bit of the Command register that enables a space
abbrev pub command_bit : Space → ℕ
command_bit io = 1
command_bit memory = 2

-- this value of the Command register enables the space
abbrev pub opens_space : ℕ → Space → Bool
opens_space command space = not (bit_and command (command_bit space) == 0)

abbrev pub command_word : File → ℕ
command_word file = number file (config 4) 2

abbrev pub is_open : File → Space → Bool
is_open file space = opens_space (command_word file) space

-- a region with its current base
abbrev pub base_address : File → Region → BaseAddress
base_address file r = record { index = r.index; kind = r.kind; size = r.size; base = base file r.index r.kind }

-- with this Command, the register decodes the address; the sum isn't truncated to a register's width
abbrev pub decodes : ℕ → Space → ℕ → BaseAddress → Bool
decodes command space a b =
    opens_space command space && same_space (space_of b.kind) space && nat_le b.base a && nat_lt a (b.base + b.size)

-- the target of an access in a function: a region's index and the offset in the region
pub record Hit : Type 0 where
  pub index : ℕ
  pub offset : ℕ

abbrev pub hit_at : ℕ → Space → ℕ → BaseAddress → Option Hit
hit_at command space a b =
    if decodes command space a b then Some (record { index = b.index; offset = a - b.base }) else None

-- the hit in a region, given the current value of its register
abbrev pub hit_of : File → Space → ℕ → Region → Option Hit
hit_of file space a r = hit_at (command_word file) space a (base_address file r)

-- the first of these regions that decodes the address
abbrev pub first_hit : File → List Region → Space → ℕ → Option Hit
first_hit file rs space a = first_some (hit_of file space a) rs

-- the function's claim; its regions are in register order
abbrev pub lone_claim : Function → Space → ℕ → Option Hit
lone_claim f space a = first_hit f.file f.decl.regions space a
