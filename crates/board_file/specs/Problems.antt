-- The entries of a file that break a rule.
--     Found, found_of p      an entry, a rule, and the key at which the entry breaks the rule; these parts of a problem
--     of_values fault f      those that break a rule of this fault beside paths, each before those inside it
--     of_paths fault f      those whose paths break one
--     problems_in f fault      all entries that break a rule of this fault, in the order of the file
--     Adds these old new      the problems, and then these
--     none ps      there are none
use Rattle.std.specs.{Prelude.{◌≡◌, ℕ, Bool, true, false, List, [], ◌∷◌, ◌++◌, map, flat_map, if◌then◌else◌}, List.enumerate_from}
use Rattle.board_file.specs.{Bars.bar_rules, Configs.config_rules, Capabilities.capability_rules, Endpoints.{Endpoint, endpoint_rules}, Entries.{Bridge, Guest, File}, Functions.standings, MarkedPaths.{MarkedPath, path_texts_for_check, mark_duplicates}, RuleFaults.key_of, Rules.device_limit, EntryRules.{file_rules, host_rules, path_rules, bridge_rules, guest_rules}, declared.{fault.BoardFault.BoardFault, entry.{Entry.Entry, EndpointPart.EndpointPart}, rule.Rule.Rule, finding.Violation.Violation}}
use Rattle.model_board.specs.Places.{Standing}
use Rattle.board_file.specs.declared.fault.BoardFault.TheVariants as fault
use Rattle.board_file.specs.declared.entry.Entry.TheVariants as entry
use Rattle.board_file.specs.declared.entry.EndpointPart.TheVariants as part

pub record Found : Type 0 where
  pub entry : Entry
  pub rule : Rule
  pub key : List ℕ

abbrev pub found_of : Violation → Found
found_of p = record { entry = p.entry; rule = p.rule; key = p.key.now }

abbrev pub none : {A : Type 0} → List A → Bool
none [] = true
none (x ∷ xs) = false

abbrev pub Adds : List Found → List Violation → List Violation → Type 0
Adds these old new = map found_of new ≡ map found_of old ++ these

-- ---- rules that are broken

abbrev pub unless_kept : Entry → Rule × Bool → List Found
unless_kept e (r, kept) = if kept then [] else (record { entry = e; rule = r; key = key_of r } ∷ [])

abbrev pub broken : Entry → List (Rule × Bool) → List Found
broken e rules = flat_map (unless_kept e) rules

-- ---- entry by entry

-- of a table inside endpoint i
abbrev pub of_part : {A : Type 0} → EndpointPart → ℕ → (ℕ → A → List (Rule × Bool)) → ℕ × A → List Found
of_part p i rules (j, x) = broken (entry.Part p i j) (rules j x)

-- of the tables inside endpoint i
abbrev pub of_bars : BoardFault → ℕ → Endpoint → List Found
of_bars fault i e = flat_map (of_part part.Bar i (bar_rules fault)) (enumerate_from 0 e.bars)

abbrev pub of_configs : BoardFault → ℕ → Endpoint → List Found
of_configs fault i e = flat_map (of_part part.Config i (config_rules fault e.configs)) (enumerate_from 0 e.configs)

abbrev pub of_capabilities : BoardFault → ℕ → Endpoint → List Found
of_capabilities fault i e =
    flat_map (of_part part.Capability i (capability_rules fault e.configs e.capabilities)) (enumerate_from 0 e.capabilities)

abbrev pub of_endpoint : BoardFault → ℕ × Endpoint → List Found
of_endpoint fault (i, e) =
    broken (entry.Endpoint i) (endpoint_rules fault e) ++ of_bars fault i e ++ of_configs fault i e ++ of_capabilities fault i e

abbrev pub of_bridge : BoardFault → ℕ × Bridge → List Found
of_bridge fault (i, b) = broken (entry.Bridge i) (bridge_rules fault b)

abbrev pub of_guest : BoardFault → File → ℕ × Guest → List Found
of_guest fault f (i, g) = broken (entry.Guest i) (guest_rules fault f i g)

-- what an entry says beside paths
abbrev pub of_values : BoardFault → File → List Found
of_values fault f =
    broken entry.File (file_rules fault f)
    ++ broken entry.Host (host_rules fault f)
    ++ flat_map (of_endpoint fault) (enumerate_from 0 f.endpoints)
    ++ flat_map (of_bridge fault) (enumerate_from 0 f.bridges)
    ++ flat_map (of_guest fault f) (enumerate_from 0 f.guests)

-- ---- path by path

-- on buses with n devices
abbrev pub of_path : BoardFault → ℕ → List Standing → MarkedPath → List Found
of_path fault n ss p = broken p.entry (path_rules fault n ss p.text p.is_first)

abbrev pub of_paths : BoardFault → File → List Found
of_paths fault f = flat_map (of_path fault (device_limit f.devices) (standings f)) (mark_duplicates (path_texts_for_check fault f))

abbrev pub problems_in : File → BoardFault → List Found
problems_in f fault.Place = of_paths fault.Place f
problems_in f fault.Slot = of_paths fault.Slot f
problems_in f fault = of_values fault f
