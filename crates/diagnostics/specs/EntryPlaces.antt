-- Places of entries, with their lines.
--     Turn, turn      a step of a way, as its key or index
--     key_path_of_entry entry      the way to the entry itself
--     key_path_of_value entry key      the way to the value at a key of an entry; a slot is its value itself
--     way_told ms entry key      the way to the value at a key of an entry, or where it has none to the entry
--     IsPlaceOf      the place of a value at the end of this way, or inside the value there, which was confirmed
--     entry_of      the entry that is told of beside another
use Rattle.std.specs.Prelude.{◌≡◌, ℕ, codes, List, [], ◌∷◌, ◌++◌, map, is_some, if◌then◌else◌}
use Rattle.toml.specs.Data.{Members}
use Rattle.diagnostics.specs.{declared.{steps.Step.{Step, TheVariants.{Key, Index}}, text_place.TextPlace.TextPlace, entry_places.Other.Other}, Places.IsPlaceWithin}
use Rattle.board_file.specs.{declared.entry.Entry.Entry, Schema.part_key, Tables.value_at}
use Rattle.board_file.specs.declared.entry.Entry.TheVariants as entry

pub data Turn : Type 0 where
  at_key : List ℕ → Turn
  at_index : ℕ → Turn

abbrev pub turn : Step → Turn
turn (Key k) = at_key k.now
turn (Index i) = at_index i

abbrev pub way_in : List ℕ → ℕ → List Turn → List Turn
way_in list i rest = at_key list ∷ at_index i ∷ rest

abbrev pub key_path_of_entry : Entry → List Turn
key_path_of_entry entry.File = []
key_path_of_entry entry.Host = at_key (codes "host") ∷ []
key_path_of_entry (entry.Endpoint i) = way_in (codes "endpoint") i []
key_path_of_entry (entry.Part p i j) = way_in (codes "endpoint") i (way_in (part_key p) j [])
key_path_of_entry (entry.Bridge i) = way_in (codes "bridge") i []
key_path_of_entry (entry.Guest i) = way_in (codes "guest") i []
key_path_of_entry (entry.Slot i j) = way_in (codes "guest") i (way_in (codes "slots") j [])

abbrev pub key_path_of_value : Entry → List ℕ → List Turn
key_path_of_value (entry.Slot i j) k = key_path_of_entry (entry.Slot i j)
key_path_of_value e k = key_path_of_entry e ++ at_key k ∷ []

abbrev pub way_told : Members → Entry → List ℕ → List Turn
way_told ms e k = if is_some (value_at ms e k) then key_path_of_value e k else key_path_of_entry e

pub record IsPlaceOf (text : List ℕ) (ms : Members) (e : Entry) (key : List ℕ) (p : TextPlace) : Type 0 where
  pub way : List Step
  pub leads : map turn way ≡ way_told ms e key
  pub is_place : IsPlaceWithin text ms way p

abbrev pub entry_of : Other → Entry
entry_of o = o.entry
