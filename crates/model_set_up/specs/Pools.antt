-- The aperture in which a region is placed. Prefetchable regions may be behind windows for memory: PCI-to-PCI Bridge
-- Architecture 1.2, chapter 4.
--     Pool      I/O, memory and prefetchable memory
--     Aperture, Apertures      the addresses that set-up may assign
--     pool_of      the pool of a region, given its kind, the apertures and the bridges above it
--     has_io_paths      all bridges above each I/O region have I/O windows
use Rattle.std.specs.{Prelude.{List, [], ◌∷◌, ℕ, Bool, true, false, ◌&&◌, if◌then◌else◌, ◌^◌, flat_map, not, ◌||◌, nat_lt, Option, Some, None, filter}, List.{list_any, list_all}}
use Rattle.model_registers.specs.Declarations.{Kind, io_kind, mem32, mem64, IoDecode, no_io, io16, io32, PrefDecode, no_pref, pref32, pref64, Bridge}
use Rattle.model_board.specs.{Paths.{Path, is_ancestor_of}, Board.{Decl, endpoint, bridge, Row, Board}}
pub use Rattle.model_registers.specs.Apertures.{Aperture, Apertures}

pub data Pool : Type 0 where
  io_pool : Pool
  mem_pool : Pool
  pref_pool : Pool

abbrev pub same_pool : Pool → Pool → Bool
same_pool io_pool io_pool = true
same_pool mem_pool mem_pool = true
same_pool pref_pool pref_pool = true
same_pool _ _ = false

abbrev pub unit_of : Pool → ℕ
unit_of io_pool = 2 ^ 12
unit_of mem_pool = 2 ^ 20
unit_of pref_pool = 2 ^ 20

-- the declarations of the bridges above a path
abbrev pub bridge_of : Row → List Bridge
bridge_of r = elim r.decl [ endpoint d ↦ [] | bridge d ↦ d ∷ [] ]

abbrev pub bridges_above : Board → Path → List Bridge
bridges_above b p = flat_map bridge_of (filter (λ r. is_ancestor_of r.path p) b)

abbrev pub has_pref : PrefDecode → Bool
has_pref no_pref = false
has_pref pref32 = true
has_pref pref64 = true

abbrev pub has_pref64 : PrefDecode → Bool
has_pref64 no_pref = false
has_pref64 pref32 = false
has_pref64 pref64 = true

-- a region can be in the prefetchable aperture if its base can hold the addresses and each bridge above can forward them
abbrev pub can_reach_pref_aperture : Aperture → List Bridge → Bool → Bool
can_reach_pref_aperture a above wide =
    if nat_lt a.last (2 ^ 32) then list_all (λ d. has_pref d.pref) above
    else wide && list_all (λ d. has_pref64 d.pref) above

abbrev pub pool_for_prefetchable : Option Aperture → List Bridge → Bool → Pool
pool_for_prefetchable None above wide = mem_pool
pool_for_prefetchable (Some a) above wide = if can_reach_pref_aperture a above wide then pref_pool else mem_pool

abbrev pub pool_of : Apertures → List Bridge → Kind → Pool
pool_of a above io_kind = io_pool
pool_of a above (mem32 true) = pool_for_prefetchable a.pref above false
pool_of a above (mem64 true) = pool_for_prefetchable a.pref above true
pool_of a above (mem32 false) = mem_pool
pool_of a above (mem64 false) = mem_pool

abbrev pub is_io : Kind → Bool
is_io io_kind = true
is_io (mem32 pref) = false
is_io (mem64 pref) = false

abbrev pub opens_io : Decl → Bool
opens_io (endpoint d) = list_any (λ r. is_io r.kind) d.regions
opens_io (bridge d) = false

abbrev pub has_io : IoDecode → Bool
has_io no_io = false
has_io io16 = true
has_io io32 = true

-- all bridges above each I/O region have I/O windows
abbrev pub has_io_paths : Board → Bool
has_io_paths b = list_all (λ r. not (opens_io r.decl) || list_all (λ d. has_io d.io) (bridges_above b r.path)) b

abbrev pub aperture_of : Apertures → Pool → Option Aperture
aperture_of a io_pool = Some a.io
aperture_of a mem_pool = Some a.mem
aperture_of a pref_pool = a.pref
