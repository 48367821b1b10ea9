-- Entries with the texts of paths: functions, each with its `at`, and slots.
--     MarkedPath      an entry, its text, and whether no entry before it has the same path
--     function_texts, slot_texts      the texts of all functions, endpoints first, and of all slots, guest after guest
--     path_texts_for_check      those that a check asks
--     mark_duplicates      the texts of a list, each with whether no text before it has the same path
use Rattle.std.specs.{Prelude.{ℕ, Bool, not, ◌&&◌, List, [], ◌++◌, map, flat_map, take}, List.{enumerate_from, list_all}}
use Rattle.model_board.specs.Paths.{Path, path_eq}
use Rattle.board_file.specs.{PathTexts.{is_path_text, path_at}, Endpoints.Endpoint, Entries.{Bridge, Guest, File}, EntryRules.are_same_valid_path, declared.{fault.BoardFault.BoardFault, entry.Entry.Entry}}
use Rattle.board_file.specs.declared.fault.BoardFault.TheVariants as fault
use Rattle.board_file.specs.declared.entry.Entry.TheVariants as entry

pub record MarkedPath : Type 0 where
  pub entry : Entry
  pub text : List ℕ
  pub is_first : Bool

-- ---- texts

abbrev pub endpoint_text : ℕ × Endpoint → Entry × List ℕ
endpoint_text (i, e) = (entry.Endpoint i, e.at)

abbrev pub bridge_text : ℕ × Bridge → Entry × List ℕ
bridge_text (i, b) = (entry.Bridge i, b.at)

abbrev pub slot_text : ℕ → ℕ × List ℕ → Entry × List ℕ
slot_text i (j, t) = (entry.Slot i j, t)

abbrev pub guest_texts : ℕ × Guest → List (Entry × List ℕ)
guest_texts (i, g) = map (slot_text i) (enumerate_from 0 g.slots)

abbrev pub function_texts : File → List (Entry × List ℕ)
function_texts f = map endpoint_text (enumerate_from 0 f.endpoints) ++ map bridge_text (enumerate_from 0 f.bridges)

abbrev pub slot_texts : File → List (Entry × List ℕ)
slot_texts f = flat_map guest_texts (enumerate_from 0 f.guests)

-- those that a check asks
abbrev pub path_texts_for_check : BoardFault → File → List (Entry × List ℕ)
path_texts_for_check fault.Place f = function_texts f
path_texts_for_check fault.Slot f = slot_texts f
path_texts_for_check _ f = []

-- ---- entries

-- the text is that of the path
abbrev pub has_path : Path → List ℕ → Bool
has_path p t = is_path_text t && path_eq (path_at t) p

-- no text has the same path
abbrev pub is_free : List (Entry × List ℕ) → List ℕ → Bool
is_free texts t = list_all (λ s. not (are_same_valid_path s.1 t)) texts

abbrev pub marked_path : List (Entry × List ℕ) → ℕ × (Entry × List ℕ) → MarkedPath
marked_path texts (i, (e, t)) = record { entry = e; text = t; is_first = is_free (take i texts) t }

abbrev pub mark_duplicates : List (Entry × List ℕ) → List MarkedPath
mark_duplicates texts = map (marked_path texts) (enumerate_from 0 texts)
