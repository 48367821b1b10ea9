-- The keys of a board file, and the form of the value at each key.
--     parts, part_key      the kinds of tables inside an endpoint, in the order in which they are checked; their keys
--     register_key      the key of a register whose number may have any value that fits
--     fields      the keys of a table, whether each is required, and the form of its value
--     has_form      a value has the type, or is one of the words, that stands at its key
--     form_at      what stands at a key
use Rattle.std.specs.{Prelude.{ℕ, codes, Bool, true, false, ◌&&◌, List, [], ◌∷◌, length, ◌==◌, Option, Some, None, is_some, if◌then◌else◌}, List.list_all}
use Rattle.toml.specs.Data.{Data, string, array, Items, no_items, item, as_integer, as_bool, as_str, as_table}
use Rattle.board_file.specs.{Texts.{same_text, parse_region_kind, parse_io_decode, parse_pref_decode}, declared.{entry.EndpointPart.EndpointPart, document.{keys.RegisterKey.RegisterKey, schema.{TableKind.TableKind, Keyword.{Keyword, TheVariants.{RegionKind, IoDecode, PrefDecode}}, ValueType.{ValueType, TheVariants.{Integer, Boolean, Text, Word, Pair, Texts, Table, Tables}}, Field.Field as FieldInCode}}}}
use Rattle.board_file.specs.declared.document.schema.TableKind.TheVariants as level
use Rattle.board_file.specs.declared.entry.EndpointPart.TheVariants as part
use Rattle.board_file.specs.declared.document.keys.RegisterKey.TheVariants as register

abbrev pub parts : List EndpointPart
parts = part.Bar ∷ part.Config ∷ part.Capability ∷ []

abbrev pub part_key : EndpointPart → List ℕ
part_key part.Bar = codes "bar"
part_key part.Config = codes "config"
part_key part.Capability = codes "capability"

abbrev pub register_key : RegisterKey → List ℕ
register_key register.Device = codes "device"
register_key register.Revision = codes "revision"
register_key register.Subvendor = codes "subvendor"
register_key register.Subsystem = codes "subsystem"
register_key register.MinGnt = codes "min_gnt"
register_key register.MaxLat = codes "max_lat"

pub record Field : Type 0 where
  pub key : List ℕ
  pub is_needed : Bool
  pub form : ValueType

abbrev pub field_of : FieldInCode → Field
field_of f = record { key = f.key.now; is_needed = f.needed; form = f.form }

abbrev pub needed : List ℕ → ValueType → Field
needed k form = record { key = k; is_needed = true; form = form }

abbrev pub optional : List ℕ → ValueType → Field
optional k form = record { key = k; is_needed = false; form = form }

-- the keys of a table
abbrev pub fields : TableKind → List Field
fields level.Top =
    needed (codes "host") (Table level.Host)
    ∷ optional (codes "endpoint") (Tables level.Endpoint)
    ∷ optional (codes "bridge") (Tables level.Bridge)
    ∷ optional (codes "guest") (Tables level.Guest) ∷ []
fields level.Host =
    needed (codes "io") Pair ∷ needed (codes "mem") Pair ∷ optional (codes "pref") Pair
    ∷ optional (codes "devices") Integer ∷ []
fields level.Endpoint =
    needed (codes "at") Text
    ∷ needed (codes "vendor") Integer
    ∷ needed (codes "device") Integer
    ∷ optional (codes "revision") Integer
    ∷ needed (codes "class") Integer
    ∷ optional (codes "subvendor") Integer
    ∷ optional (codes "subsystem") Integer
    ∷ optional (codes "pin") Integer
    ∷ optional (codes "min_gnt") Integer
    ∷ optional (codes "max_lat") Integer
    ∷ optional (codes "status") Integer
    ∷ optional (codes "fixed_status") Integer
    ∷ optional (codes "multifunction") Boolean
    ∷ optional (codes "bar") (Tables (level.Part part.Bar))
    ∷ optional (codes "config") (Tables (level.Part part.Config))
    ∷ optional (codes "capability") (Tables (level.Part part.Capability)) ∷ []
fields (level.Part part.Bar) =
    needed (codes "index") Integer
    ∷ needed (codes "kind") (Word RegionKind)
    ∷ needed (codes "size") Integer
    ∷ optional (codes "block") Integer
    ∷ optional (codes "reset") Text
    ∷ optional (codes "rw") Text
    ∷ optional (codes "w1c") Text ∷ []
fields (level.Part part.Config) =
    needed (codes "off") Integer
    ∷ needed (codes "block") Integer
    ∷ optional (codes "reset") Text
    ∷ optional (codes "rw") Text
    ∷ optional (codes "w1c") Text ∷ []
fields (level.Part part.Capability) =
    needed (codes "id") Integer
    ∷ needed (codes "off") Integer
    ∷ needed (codes "block") Integer
    ∷ optional (codes "reset") Text
    ∷ optional (codes "rw") Text
    ∷ optional (codes "w1c") Text ∷ []
fields level.Bridge =
    needed (codes "at") Text
    ∷ needed (codes "vendor") Integer
    ∷ needed (codes "device") Integer
    ∷ optional (codes "revision") Integer
    ∷ optional (codes "fixed_status") Integer
    ∷ optional (codes "fixed_secondary_status") Integer
    ∷ optional (codes "multifunction") Boolean
    ∷ needed (codes "io") (Word IoDecode)
    ∷ needed (codes "pref") (Word PrefDecode) ∷ []
fields level.Guest = needed (codes "name") Text ∷ needed (codes "slots") Texts ∷ []

-- what stands at a key
abbrev pub form_at : List ℕ → List Field → Option ValueType
form_at k [] = None
form_at k (f ∷ fs) = if same_text f.key k then Some f.form else form_at k fs

abbrev pub list_of : Items → List Data
list_of no_items = []
list_of (item d ds) = d ∷ list_of ds

-- the word is one of those for its key
abbrev pub is_allowed_word : Keyword → List ℕ → Bool
is_allowed_word RegionKind t = is_some (parse_region_kind t)
is_allowed_word IoDecode t = is_some (parse_io_decode t)
is_allowed_word PrefDecode t = is_some (parse_pref_decode t)

-- the value has the type, or is one of the words, that stands at its key
abbrev pub has_form : ValueType → Data → Bool
has_form Integer d = is_some (as_integer d)
has_form Boolean d = is_some (as_bool d)
has_form Text d = is_some (as_str d)
has_form (Word words) (string t) = is_allowed_word words t
has_form (Word words) _ = false
has_form Pair (array ds) = (length (list_of ds) == 2) && list_all (λ d. is_some (as_integer d)) (list_of ds)
has_form Pair _ = false
has_form Texts (array ds) = list_all (λ d. is_some (as_str d)) (list_of ds)
has_form Texts _ = false
has_form (Table l) d = is_some (as_table d)
has_form (Tables l) (array ds) = list_all (λ d. is_some (as_table d)) (list_of ds)
has_form (Tables l) _ = false
