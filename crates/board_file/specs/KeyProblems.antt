-- Problems with the keys of a board file, table by table.
--     tables_of f      the tables of a file, each before those inside it
--     of_field e ms f      at a key that a table may have: where it is needed it is there, and what is there has its form
--     of_member e l k      at a key that a table has: it is known
--     key_problems ms fault      all tables that break a rule of keys of this fault
--     problems_of ms fault      all entries that break a rule of this fault
use Rattle.std.specs.{Prelude.{ℕ, Bool, true, not, ◌||◌, List, [], ◌∷◌, ◌++◌, length, map, flat_map, is_some, if◌then◌else◌}, List.{enumerate_from, range_with_len}, Option.option_map_or}
use Rattle.toml.specs.Data.{Members, no_members, member, get_member}
use Rattle.board_file.specs.{Endpoints.{Endpoint, part_count}, Entries.{File, file}, Schema.{parts, Field, fields, form_at, has_form}, Tables.{table_kind_of_entry, table_at}, Problems.{Found, problems_in}, declared.{document.schema.TableKind.TableKind, fault.BoardFault.BoardFault, rule.Rule.Rule, entry.{Entry.Entry, EndpointPart.EndpointPart}}}
use Rattle.board_file.specs.declared.fault.BoardFault.TheVariants as fault
use Rattle.board_file.specs.declared.rule.Rule.TheVariants as rule
use Rattle.board_file.specs.declared.entry.Entry.TheVariants as entry

-- ---- the tables of a file

abbrev pub indices : {A : Type 0} → List A → List ℕ
indices xs = range_with_len 0 (length xs)

-- so many tables of a kind inside endpoint i
abbrev pub in_endpoint : ℕ → EndpointPart → ℕ → List Entry
in_endpoint i p n = map (entry.Part p i) (range_with_len 0 n)

abbrev pub tables_in : ℕ → Endpoint → EndpointPart → List Entry
tables_in i e p = in_endpoint i p (part_count p e)

-- an endpoint and all tables inside it
abbrev pub with_endpoint : ℕ × Endpoint → List Entry
with_endpoint (i, e) = entry.Endpoint i ∷ flat_map (tables_in i e) parts

abbrev pub tables_of : File → List Entry
tables_of f =
    entry.File ∷ entry.Host
    ∷ (flat_map with_endpoint (enumerate_from 0 f.endpoints)
    ++ map entry.Bridge (indices f.bridges)
    ++ map entry.Guest (indices f.guests))

-- ---- what a table is asked

-- a rule that is broken at a key
abbrev pub unless_kept_at : Entry → List ℕ → Rule → Bool → List Found
unless_kept_at e k r kept = if kept then [] else (record { entry = e; rule = r; key = k } ∷ [])

abbrev pub of_field : Entry → Members → Field → List Found
of_field e ms f =
    unless_kept_at e f.key rule.Needed (not f.is_needed || is_some (get_member f.key ms))
    ++ unless_kept_at e f.key rule.Form (option_map_or (has_form f.form) (get_member f.key ms) true)

abbrev pub of_member : Entry → TableKind → List ℕ → List Found
of_member e l k = unless_kept_at e k rule.Known (is_some (form_at k (fields l)))

-- the keys that a table has
abbrev pub keys_in : Members → List (List ℕ)
keys_in no_members = []
keys_in (member k d ms) = k ∷ keys_in ms

abbrev pub of_table : BoardFault → Entry → TableKind → Members → List Found
of_table fault.Key e l ms = flat_map (of_field e ms) (fields l)
of_table fault.UnknownKey e l ms = flat_map (of_member e l) (keys_in ms)
of_table _ e l ms = []

-- ---- what is wrong

-- a table that isn't there breaks no rule
abbrev pub of_entry : BoardFault → Members → Entry → List Found
of_entry fault ms e = option_map_or (λ l. option_map_or (of_table fault e l) (table_at ms e) []) (table_kind_of_entry e) []

abbrev pub key_problems : Members → BoardFault → List Found
key_problems ms fault = flat_map (of_entry fault ms) (tables_of (file ms))

unfoldable pub problems_of : Members → BoardFault → List Found
problems_of ms fault.Key = key_problems ms fault.Key
problems_of ms fault.UnknownKey = key_problems ms fault.UnknownKey
problems_of ms fault = problems_in (file ms) fault
