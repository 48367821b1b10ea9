-- The tables of entries in a document.
--     table_at ms entry      the table of an entry
--     value_at ms entry key      the value at a key of an entry; a slot is its value itself
--     owner_entry_or_self entry      the function or guest that an entry belongs to
--     owner_name_key entry      the key of its path or name
--     table_kind_of_entry entry      the kind of table that it has to be
use Rattle.std.specs.Prelude.{ℕ, codes, List, Option, Some, None, option_and_then}
use Rattle.toml.specs.Data.{Data, Members, get_member, at, as_table}
use Rattle.board_file.specs.{Schema.part_key, declared.{document.schema.TableKind.TableKind, entry.Entry.Entry}}
use Rattle.board_file.specs.declared.document.schema.TableKind.TheVariants as level
use Rattle.board_file.specs.declared.entry.Entry.TheVariants as entry

-- the table at an index of the list at a key
abbrev pub nth_table_at : List ℕ → ℕ → Members → Option Members
nth_table_at k i ms = option_and_then as_table (option_and_then (at i) (get_member k ms))

abbrev pub table_at : Members → Entry → Option Members
table_at ms entry.File = Some ms
table_at ms entry.Host = option_and_then as_table (get_member (codes "host") ms)
table_at ms (entry.Endpoint i) = nth_table_at (codes "endpoint") i ms
table_at ms (entry.Part p i j) = option_and_then (nth_table_at (part_key p) j) (nth_table_at (codes "endpoint") i ms)
table_at ms (entry.Bridge i) = nth_table_at (codes "bridge") i ms
table_at ms (entry.Guest i) = nth_table_at (codes "guest") i ms
table_at ms (entry.Slot i j) = None

abbrev pub value_at : Members → Entry → List ℕ → Option Data
value_at ms (entry.Slot i j) k =
    option_and_then (at j) (option_and_then (get_member (codes "slots")) (table_at ms (entry.Guest i)))
value_at ms e k = option_and_then (get_member k) (table_at ms e)

abbrev pub owner_entry_or_self : Entry → Entry
owner_entry_or_self (entry.Part p i j) = entry.Endpoint i
owner_entry_or_self (entry.Slot i j) = entry.Guest i
owner_entry_or_self e = e

abbrev pub owner_name_key : Entry → Option (List ℕ)
owner_name_key entry.File = None
owner_name_key entry.Host = None
owner_name_key (entry.Guest i) = Some (codes "name")
owner_name_key (entry.Slot i j) = Some (codes "name")
owner_name_key e = Some (codes "at")

abbrev pub table_kind_of_entry : Entry → Option TableKind
table_kind_of_entry entry.File = Some level.Top
table_kind_of_entry entry.Host = Some level.Host
table_kind_of_entry (entry.Endpoint i) = Some level.Endpoint
table_kind_of_entry (entry.Part p i j) = Some (level.Part p)
table_kind_of_entry (entry.Bridge i) = Some level.Bridge
table_kind_of_entry (entry.Guest i) = Some level.Guest
table_kind_of_entry (entry.Slot i j) = None
