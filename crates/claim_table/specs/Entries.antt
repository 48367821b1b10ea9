-- The enabled regions of one space, as the program stores them: PCI Local Bus 3.0, chapter 6.2.5.
--     open_bases space r      the enabled regions of a function
--     open_entries space i rows      the enabled regions of the functions from index i on, in path order
--     lies_in n e      an address is in a region
--     AreApart es      each region ends before the next one starts
--     by_space      the list for a space
--     table_entry, table_of      entries with their space and the paths of their functions
use Rattle.std.specs.Prelude.{List, [], ◌∷◌, ◌++◌, ℕ, ◌+◌, ◌<◌, ◌≤◌, Bool, ◌&&◌, nat_le, nat_lt, if◌then◌else◌, map, filter, length, unwrap_or, slice_get}
use Rattle.lists.specs.Elements.{Each, EachPair}
use Rattle.model_registers.specs.{Decoding.{Space, io, memory, space_of, same_space, opens_space}, EndpointTable.BaseAddress}
use Rattle.model_board.specs.{Paths.Path, Routing.{RoutingRow, regions, windows}}
use Rattle.claim_table.specs.{declared.region_entry.RegionEntry.RegionEntry, Tables.TableEntry}

abbrev pub entry_for : ℕ → BaseAddress → RegionEntry
entry_for i x = record { first = x.base; size = x.size; function = i; region = x.index }

abbrev pub of_space : Space → List BaseAddress → List BaseAddress
of_space space bases = filter (λ (x : BaseAddress). same_space (space_of x.kind) space) bases

abbrev pub open_bases : Space → RoutingRow → List BaseAddress
open_bases space r = elim r.ranges [
  | regions bs ↦ if opens_space r.command space then of_space space bs else []
  | windows wio wmem wpref ↦ []
]

abbrev pub open_at : Space → ℕ → RoutingRow → List RegionEntry
open_at space i r = map (entry_for i) (open_bases space r)

abbrev pub open_entries : Space → ℕ → List RoutingRow → List RegionEntry
open_entries space i [] = []
open_entries space i (r ∷ rows) = open_at space i r ++ open_entries space (i + 1) rows

abbrev pub lies_in : ℕ → RegionEntry → Bool
lies_in n e = nat_le e.first n && nat_lt n (e.first + e.size)

abbrev pub AreApart : List RegionEntry → Type 0
AreApart es = EachPair (λ (d e : RegionEntry). d.first + d.size ≤ e.first) es

abbrev pub by_space : Space → List RegionEntry → List RegionEntry → List RegionEntry
by_space io ports memories = ports
by_space memory ports memories = memories

-- no two overlap, and each belongs to a function that has a path
pub record AreEntries (ps : List Path) (es : List RegionEntry) : Type 0 where
  pub apart : AreApart es
  pub known : Each (λ (e : RegionEntry). e.function < length ps) es

abbrev pub path_nth : List Path → ℕ → Path
path_nth ps i = unwrap_or (slice_get ps i) []

abbrev pub table_entry : List Path → Space → RegionEntry → TableEntry
table_entry ps space e = record {
  function = e.function;
  region = record { path = path_nth ps e.function; index = e.region; space = space; first = e.first; size = e.size };
}

-- I/O first, then memory
abbrev pub table_of : List Path → List RegionEntry → List RegionEntry → List TableEntry
table_of ps ports memories = map (table_entry ps io) ports ++ map (table_entry ps memory) memories
