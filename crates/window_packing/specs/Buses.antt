-- The buses of a board, and the bridges above each of its functions: PCI-to-PCI Bridge Architecture 1.2, chapter 3.2.5.
--     bus_path      the path of the bus with an index: 0 is bus 0, and 1 + n the bus behind the function of row n
--     nothing_above, behind      what a function has above it, on bus 0 and behind a bridge
--     AreAbove      for each row: the index of its bus, and what all bridges above it have
use Rattle.std.specs.{Prelude.{List, [], ◌≡◌, ℕ, zero, suc, ◌≤◌, true, ◌&&◌, length, map, slice_get}, Option.option_map_or, List.list_all}
use Rattle.lists.specs.Elements.{Each}
use Rattle.model_board.specs.{Paths.{Path, parent}, Board.{Decl, endpoint, bridge, Row, Board}}
use Rattle.model_set_up.specs.Pools.{bridges_above, has_io, has_pref, has_pref64}
use Rattle.window_packing.specs.declared.upstream_windows.UpstreamSupport.{UpstreamSupport}

abbrev pub bus_path : Board → ℕ → Path
bus_path b zero = []
bus_path b (suc n) = option_map_or (λ (r : Row). r.path) (slice_get b n) []

abbrev pub nothing_above : UpstreamSupport
nothing_above = record { bus = 0; io = true; pref = true; pref64 = true }

-- a function on a bus has above it the bridge of the bus, and what the bridge has
abbrev pub behind : ℕ → Decl → UpstreamSupport → UpstreamSupport
behind bus (endpoint d) up = record up { bus = bus }
behind bus (bridge d) up = record {
  bus = bus;
  io = up.io && has_io d.io;
  pref = up.pref && has_pref d.pref;
  pref64 = up.pref64 && has_pref64 d.pref;
}

pub record AreAbove (b : Board) (xs : List UpstreamSupport) : Type 0 where
  pub buses : map (λ x. bus_path b x.bus) xs ≡ map (λ r. parent r.path) b
  pub within : Each (λ x. x.bus ≤ length b) xs
  pub io : map (λ x. x.io) xs ≡ map (λ r. list_all (λ d. has_io d.io) (bridges_above b r.path)) b
  pub pref : map (λ x. x.pref) xs ≡ map (λ r. list_all (λ d. has_pref d.pref) (bridges_above b r.path)) b
  pub pref64 : map (λ x. x.pref64) xs ≡ map (λ r. list_all (λ d. has_pref64 d.pref) (bridges_above b r.path)) b
