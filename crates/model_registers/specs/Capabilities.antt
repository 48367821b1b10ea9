-- Capability lists: PCI Local Bus 3.0, chapter 6.7 and appendix H.
--     Capability      a structure of a list: its identity, its offset, and the cells after the two bytes of its header
--     first_offset_or_zero cs      the offset of the first structure, or 0 if there is none
--     structures cs      the blocks of a list: Capability ID, Next Capability, and the cells of each structure
--     pointer cs      the block of the Capabilities Pointer at 34h
--     with_capabilities cs d      the endpoint d with this list: bit 4 of Status is set if there is a structure
--     byte file off      what a read of one byte of configuration space returns
--     Finds file at cs      a walk from a pointer with the value `at` finds these structures, and then the end
--     ShowsList file cs      Status says that there is a list, and the walk from 34h finds these structures
--     Change, after_changes file cs      a write or a raise of registers; the file after all of them
--     ListStays      the list is found in every state that accesses and raises can reach
--     ShowsNoList, NoListStays      bit 4 of Status and the pointer read 0; they always do without a list
--     Listed      a structure of a list with its size, which includes the two bytes of its header
--     listed d      the structures that an endpoint's Status, Capabilities Pointer and Next Capability bytes lead to at reset
--     ListsDeclared      these are the structures that were declared
use Rattle.std.specs.{Prelude.{◌≡◌, ℕ, ◌+◌, ◌<◌, ◌==◌, Bool, true, not, ◌&&◌, if◌then◌else◌, List, [], ◌∷◌, ◌++◌, length, map, slice_get, bit_and, bit_or}, Option.option_map_or}
use Rattle.lists.specs.Elements.{Each}
use Rattle.model_registers.specs.{Cell.{Cell, constant}, Registers.{Place, config, File, read, write, raise}, Declarations.{ConfigBlock, Region, Endpoint}, DeclarationRules.IsLawfulEndpoint, EndpointTable.endpoint_file}

pub record Capability : Type 0 where
  pub id : ℕ
  pub offset : ℕ
  pub cells : List Cell

abbrev pub first_offset_or_zero : List Capability → ℕ
first_offset_or_zero [] = 0
first_offset_or_zero (c ∷ cs) = c.offset

-- a structure that is followed by one at this offset, or by none
abbrev pub structure : Capability → ℕ → ConfigBlock
structure c next = record { offset = c.offset; cells = constant c.id ∷ constant next ∷ c.cells }

abbrev pub structures : List Capability → List ConfigBlock
structures [] = []
structures (c ∷ cs) = structure c (first_offset_or_zero cs) ∷ structures cs

abbrev pub pointer : List Capability → ConfigBlock
pointer cs = record { offset = 0x34; cells = constant (first_offset_or_zero cs) ∷ [] }

abbrev pub with_capabilities : List Capability → Endpoint → Endpoint
with_capabilities [] d = d
with_capabilities (c ∷ cs) d = record d {
  status = bit_or d.status 0x10;
  blocks = pointer (c ∷ cs) ∷ structures (c ∷ cs) ++ d.blocks;
}

-- ---- the walk

abbrev pub byte : File → ℕ → ℕ
byte file off = read file (config off) (true ∷ [])

abbrev pub Finds : File → ℕ → List Capability → Type 0
Finds file at [] = at ≡ 0
Finds file at (c ∷ cs) = (at ≡ c.offset) × (byte file at ≡ c.id) × Finds file (byte file (at + 1)) cs

pub record ShowsList (file : File) (cs : List Capability) : Type 0 where
  pub status : bit_and (byte file 6) 0x10 ≡ 0x10
  pub walk : Finds file (byte file 0x34) cs

-- ---- the law

pub data Change : Type 0 where
  write_of : List Bool → ℕ → Place → Change
  raise_of : ℕ → Place → Change

abbrev pub after_change : File → Change → File
after_change file (write_of enables v p) = write enables v p file
after_change file (raise_of m p) = raise m p file

abbrev pub after_changes : File → List Change → File
after_changes file [] = file
after_changes file (c ∷ cs) = after_changes (after_change file c) cs

-- of identities that are bytes, whatever Command and the bases are at first
abbrev pub ListStays : Type 0
ListStays = (d : Endpoint) (c : Capability) (cs : List Capability)
    → IsLawfulEndpoint (with_capabilities (c ∷ cs) d) → Each (λ e. e.id < 256) (c ∷ cs)
    → (multifunction : Bool) (command : ℕ) (bases : Region → ℕ) (changes : List Change)
    → ShowsList (after_changes (endpoint_file (with_capabilities (c ∷ cs) d) multifunction command bases) changes) (c ∷ cs)

pub record ShowsNoList (file : File) : Type 0 where
  pub status : bit_and (byte file 6) 0x10 ≡ 0
  pub pointer : byte file 0x34 ≡ 0

abbrev pub NoListStays : Type 0
NoListStays = (d : Endpoint) → IsLawfulEndpoint d → bit_and d.status 0x10 ≡ 0
    → (multifunction : Bool) (command : ℕ) (bases : Region → ℕ) (changes : List Change)
    → ShowsNoList (after_changes (endpoint_file d multifunction command bases) changes)

-- ---- what a declaration lists

pub record Listed : Type 0 where
  pub id : ℕ
  pub offset : ℕ
  pub size : ℕ

-- the reset value of the byte at an index of a block
abbrev pub value_at_or_zero : ℕ → ConfigBlock → ℕ
value_at_or_zero n b = option_map_or (λ (c : Cell). c.value) (slice_get b.cells n) 0

-- a pointer with the value `at` points to the block; 0 ends a list
abbrev pub is_pointed_to : ℕ → ConfigBlock → Bool
is_pointed_to at b = not (at == 0) && b.offset == at

abbrev pub as_listed_capability : ConfigBlock → Listed
as_listed_capability b = record { id = value_at_or_zero 0 b; offset = b.offset; size = length b.cells }

-- the structures among these blocks that a pointer with the value `at` leads to
abbrev pub capabilities_linked_forward : ℕ → List ConfigBlock → List Listed
capabilities_linked_forward at [] = []
capabilities_linked_forward at (b ∷ bs) =
    if is_pointed_to at b then as_listed_capability b ∷ capabilities_linked_forward (value_at_or_zero 1 b) bs else capabilities_linked_forward at bs

-- the first block is the Capabilities Pointer
abbrev pub capabilities_if_pointer_first : List ConfigBlock → List Listed
capabilities_if_pointer_first [] = []
capabilities_if_pointer_first (b ∷ bs) = if b.offset == 0x34 then capabilities_linked_forward (value_at_or_zero 0 b) bs else []

abbrev pub listed : Endpoint → List Listed
listed d = if bit_and d.status 0x10 == 0 then [] else capabilities_if_pointer_first d.blocks

abbrev pub as_listed : Capability → Listed
as_listed c = record { id = c.id; offset = c.offset; size = 2 + length c.cells }

abbrev pub ListsDeclared : Type 0
ListsDeclared = (d : Endpoint) (c : Capability) (cs : List Capability) → Each (λ e. 0 < e.offset) (c ∷ cs)
    → listed (with_capabilities (c ∷ cs) d) ≡ map as_listed (c ∷ cs)
