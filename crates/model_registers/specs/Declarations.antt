-- The declarations of a board's functions: PCI Local Bus 3.0, chapter 6; PCI-to-PCI Bridge Architecture 1.2, chapter 3.
--     Kind, Bar      the kind of a base address register; a kind with the size of the region
--     Region      a base address register with its index, and the cells at the beginning of its region
--     Endpoint, Bridge      the declared values of a function; `multifunction` says whether it may set bit 7 of its header type
--     plain_endpoint      an endpoint that has only an identity and a class code
--     plain_bridge      a bridge that has only an identity and windows
use Rattle.std.specs.Prelude.{List, [], ◌≡◌, ℕ, ◌+◌, Bool, true, ◌≤◌, length, ◌^◌}
use Rattle.lists.specs.Elements.{Each, EachPair}
use Rattle.model_registers.specs.Cell.{Cell}

-- a memory region is prefetchable or not
pub data Kind : Type 0 where
  io_kind : Kind
  mem32 : Bool → Kind
  mem64 : Bool → Kind

-- the kind of a base address register, and the size of its region
pub record Bar : Type 0 where
  pub kind : Kind
  pub size : ℕ

-- the region of one base address register, with the cells at its beginning
pub record Region : Type 0 where
  pub index : ℕ
  pub kind : Kind
  pub size : ℕ
  pub cells : List Cell

-- how many registers a region uses
abbrev pub registers_of : Kind → ℕ
registers_of io_kind = 1
registers_of (mem32 pref) = 1
registers_of (mem64 pref) = 2

abbrev pub least_size : Kind → ℕ
least_size io_kind = 4
least_size (mem32 pref) = 16
least_size (mem64 pref) = 16

abbrev pub greatest_size : Kind → ℕ
greatest_size io_kind = 256
greatest_size (mem32 pref) = 2 ^ 31
greatest_size (mem64 pref) = 2 ^ 40

-- a power of two within the limits of the kind
pub record IsLawfulSize (kind : Kind) (size : ℕ) : Type 0 where
  pub power : (k : ℕ) × (size ≡ 2 ^ k)
  pub not_less : least_size kind ≤ size
  pub not_more : size ≤ greatest_size kind

pub record IsLawfulRegion (r : Region) : Type 0 where
  pub registers : r.index + registers_of r.kind ≤ 6
  pub size_is_lawful : IsLawfulSize r.kind r.size
  pub block_fits : length r.cells ≤ r.size

-- lawful regions, in the order of their registers, no register twice
pub record HasLawfulRegions (rs : List Region) : Type 0 where
  pub each : Each IsLawfulRegion rs
  pub in_order : EachPair (λ r s. r.index + registers_of r.kind ≤ s.index) rs

pub record ConfigBlock : Type 0 where
  pub offset : ℕ
  pub cells : List Cell

pub record Endpoint : Type 0 where
  pub vendor : ℕ
  pub device : ℕ
  pub revision : ℕ
  pub class : ℕ
  pub subvendor : ℕ
  pub subsystem : ℕ
  pub pin : ℕ
  pub min_gnt : ℕ
  pub max_lat : ℕ
  pub status : ℕ
  pub multifunction : Bool
  pub regions : List Region
  pub blocks : List ConfigBlock

-- an endpoint with this identity and class: all other numbers are 0, and it has no regions and no device-specific registers
abbrev pub plain_endpoint : ℕ → ℕ → ℕ → Endpoint
plain_endpoint vendor device class = record {
  vendor = vendor;
  device = device;
  revision = 0;
  class = class;
  subvendor = 0;
  subsystem = 0;
  pin = 0;
  min_gnt = 0;
  max_lat = 0;
  status = 0;
  multifunction = true;
  regions = [];
  blocks = [];
}

pub data IoDecode : Type 0 where
  no_io : IoDecode
  io16 : IoDecode
  io32 : IoDecode

pub data PrefDecode : Type 0 where
  no_pref : PrefDecode
  pref32 : PrefDecode
  pref64 : PrefDecode

pub record Bridge : Type 0 where
  pub vendor : ℕ
  pub device : ℕ
  pub revision : ℕ
  pub status : ℕ
  pub secondary_status : ℕ
  pub multifunction : Bool
  pub io : IoDecode
  pub pref : PrefDecode

-- a bridge that has only an identity and windows: all other numbers are 0
abbrev pub plain_bridge : ℕ → ℕ → ℕ → IoDecode → PrefDecode → Bridge
plain_bridge vendor device revision io pref = record {
  vendor = vendor;
  device = device;
  revision = revision;
  status = 0;
  secondary_status = 0;
  multifunction = true;
  io = io;
  pref = pref;
}
