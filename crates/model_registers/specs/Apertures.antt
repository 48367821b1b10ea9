-- The addresses that set-up may assign.
--     Aperture, Apertures      the apertures for I/O, for memory, and for prefetchable memory if the board has one
--     are_lawful, IsLawfulApertures      whole units that the pools can reach; memory and prefetchable memory don't overlap
use Rattle.std.specs.Prelude.{ℕ, ◌+◌, ◌%◌, ◌^◌, ◌≡◌, ◌<◌, ◌≤◌, ◌==◌, Bool, true, ◌&&◌, ◌||◌, nat_lt, nat_le, ◌⊎◌, Option, Some, None}

-- first and last address
pub record Aperture : Type 0 where
  pub first : ℕ
  pub last : ℕ

pub record Apertures : Type 0 where
  pub io : Aperture
  pub mem : Aperture
  pub pref : Option Aperture

-- ---- as tests

-- not empty, and a whole number of units
abbrev pub is_whole_units : ℕ → Aperture → Bool
is_whole_units unit a = nat_le a.first a.last && (a.first % unit == 0) && ((a.last + 1) % unit == 0)

-- the first 4 KB of I/O stay unused
abbrev pub is_io_aperture : Aperture → Bool
is_io_aperture a = is_whole_units (2 ^ 12) a && nat_le 0x1000 a.first && nat_le a.last 0xffff

abbrev pub is_mem_aperture : Aperture → Bool
is_mem_aperture a = is_whole_units (2 ^ 20) a && nat_lt a.last (2 ^ 32)

-- prefetchable memory is below 2^63, entirely below or above 4 GB, and doesn't overlap memory
abbrev pub is_pref_aperture : Aperture → Aperture → Bool
is_pref_aperture mem a =
    is_whole_units (2 ^ 20) a && nat_lt a.last (2 ^ 63) && (nat_lt a.last (2 ^ 32) || nat_le (2 ^ 32) a.first)
    && (nat_lt mem.last a.first || nat_lt a.last mem.first)

-- a board needn't have a prefetchable aperture
abbrev pub has_lawful_pref : Aperture → Option Aperture → Bool
has_lawful_pref mem None = true
has_lawful_pref mem (Some a) = is_pref_aperture mem a

abbrev pub are_lawful : Apertures → Bool
are_lawful a = is_io_aperture a.io && is_mem_aperture a.mem && has_lawful_pref a.mem a.pref

-- ---- as propositions

pub record IsOfUnits (unit : ℕ) (a : Aperture) : Type 0 where
  pub not_empty : a.first ≤ a.last
  pub begins : a.first % unit ≡ 0
  pub ends : (a.last + 1) % unit ≡ 0

pub record IsIoAperture (a : Aperture) : Type 0 where
  pub units : IsOfUnits (2 ^ 12) a
  pub begins : 0x1000 ≤ a.first
  pub ends : a.last ≤ 0xffff

pub record IsMemAperture (a : Aperture) : Type 0 where
  pub units : IsOfUnits (2 ^ 20) a
  pub ends : a.last < 2 ^ 32

pub record IsPrefAperture (mem a : Aperture) : Type 0 where
  pub units : IsOfUnits (2 ^ 20) a
  pub ends : a.last < 2 ^ 63
  pub one_side : (a.last < 2 ^ 32) ⊎ (2 ^ 32 ≤ a.first)
  pub apart : (mem.last < a.first) ⊎ (a.last < mem.first)

abbrev pub IsPrefOption : Aperture → Option Aperture → Type 0
IsPrefOption mem None = Unit {0}
IsPrefOption mem (Some a) = IsPrefAperture mem a

pub record IsLawfulApertures (a : Apertures) : Type 0 where
  pub io : IsIoAperture a.io
  pub mem : IsMemAperture a.mem
  pub pref : IsPrefOption a.mem a.pref
