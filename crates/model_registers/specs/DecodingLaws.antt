-- Laws of decoding by base address registers: PCI Local Bus 3.0, chapter 6.2.5.
--     HitsByBases      Command and the bases alone decide what is decoded
--     HitsOfRegisters      registers decode by the bases in them
--     HitIsOfRegion      a hit is in a region of the space, in the byte lanes of the address
use Rattle.std.specs.Prelude.{List, ◌≡◌, ℕ, ◌<◌, ◌%◌, ◌^◌, ◌++◌, Some, map}
use Rattle.lists.specs.Elements.{IsIn, first_some}
use Rattle.model_registers.specs.{Registers.File, Declarations.Region, EndpointTable.{BaseAddress, base_file, command_cells, opened, HasLawfulBases}, Decoding.{Space, space_of, Hit, command_word, base_address, hit_at, first_hit}}

-- the Command register and the bases alone decide what a function decodes
abbrev pub HitsByBases : Type 0
HitsByBases = (file : File) (rs : List Region) (space : Space) (a : ℕ)
    → first_hit file rs space a ≡ first_some (hit_at (command_word file) space a) (map (base_address file) rs)

-- base address registers decode by the bases in them
abbrev pub HitsOfRegisters : Type 0
HitsOfRegisters = (bs : List BaseAddress) → HasLawfulBases bs → (command : ℕ) → command < 2 ^ 16
    → (space : Space) (a : ℕ)
    → first_hit (command_cells command ++ base_file bs) (map opened bs) space a ≡ first_some (hit_at command space a) bs

-- the hit names a region of the space, with an offset below the region's size; a base is always a multiple of 4,
-- whatever its registers hold, so the offset is in the byte lanes of the address
pub record IsHitIn (space : Space) (a : ℕ) (r : Region) (h : Hit) : Type 0 where
  pub index : h.index ≡ r.index
  pub space_is : space_of r.kind ≡ space
  pub inside : h.offset < r.size
  pub lanes : h.offset % 4 ≡ a % 4

abbrev pub HitIsOfRegion : Type 0
HitIsOfRegion = (file : File) (rs : List Region) (space : Space) (a : ℕ) (h : Hit) → first_hit file rs space a ≡ Some h
    → (r : Region) × IsIn r rs × IsHitIn space a r h
