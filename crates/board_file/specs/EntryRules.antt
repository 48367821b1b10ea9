-- The rules for the entries of a board file, with the fault of a file that breaks each rule, and whether the entry keeps
-- the rule. The rules of endpoints stand in Endpoints, and those of the tables inside them in Bars, Configs and Capabilities.
--     file_rules, host_rules, path_rules, bridge_rules, guest_rules
use Rattle.std.specs.{Prelude.{ℕ, ◌+◌, Bool, not, ◌&&◌, ◌||◌, length, nat_le, take, List, [], ◌∷◌, ◌++◌, option_map}, List.list_all, Str.bytes_eq}
use Rattle.model_registers.specs.Apertures.{is_io_aperture, is_mem_aperture, has_lawful_pref}
use Rattle.model_board.specs.{Paths.{Path, path_eq, parent, function_zero}, Places.{Standing, has_path, has_bridge}}
use Rattle.model_guests.specs.World.{is_name}
use Rattle.board_file.specs.{Entries.{Bridge, Guest, File}, PathTexts.{is_path_text, is_path_within, path_at}, Functions.aperture, Rules.{has_at_most_15_slashes, identity_rules, fixed_status_rule, multifunction_rule, has_only_fixed_bits, is_device_count, is_root, is_non_negative, is_none_or_non_negative, names_endpoint}, declared.{rule.Rule.Rule, fault.BoardFault.BoardFault}}
use Rattle.board_file.specs.declared.rule.Rule.TheVariants as rule
use Rattle.board_file.specs.declared.fault.BoardFault.TheVariants as fault

-- ---- the file and the host

abbrev pub file_rules : BoardFault → File → List (Rule × Bool)
file_rules fault.TooMany f =
    (rule.Functions, nat_le (length f.endpoints + length f.bridges) 1024) ∷ (rule.Guests, nat_le (length f.guests) 32) ∷ []
file_rules _ f = []

abbrev pub host_rules : BoardFault → File → List (Rule × Bool)
host_rules fault.Number f = (rule.Devices, is_device_count f.devices) ∷ []
host_rules fault.Aperture f =
    (rule.IoAperture, is_non_negative f.io && is_io_aperture (aperture f.io))
    ∷ (rule.MemAperture, is_non_negative f.mem && is_mem_aperture (aperture f.mem))
    ∷ (
      rule.PrefAperture,
      is_none_or_non_negative f.pref
          && (not (is_mem_aperture (aperture f.mem)) || has_lawful_pref (aperture f.mem) (option_map aperture f.pref)),
    ) ∷ []
host_rules _ f = []

-- ---- paths

-- two texts that are one path
abbrev pub are_same_valid_path : List ℕ → List ℕ → Bool
are_same_valid_path a b = is_path_text a && is_path_text b && path_eq (path_at a) (path_at b)

abbrev pub is_existing_bus : List Standing → Path → Bool
is_existing_bus ss bus = is_root bus || has_bridge ss bus

-- of a function or a slot on buses with n devices, by the functions that stand so, and whether it has its own path
abbrev pub path_rules : BoardFault → ℕ → List Standing → List ℕ → Bool → List (Rule × Bool)
path_rules fault.Place n ss at is_first =
    (rule.Path, is_path_within n at)
    ∷ (rule.OwnPlace, is_first)
    ∷ (rule.BehindBridge, is_existing_bus ss (parent (path_at at)))
    ∷ (rule.FunctionZero, has_path ss (function_zero (path_at at))) ∷ []
path_rules fault.Slot n ss at is_first = (rule.NamesEndpoint, names_endpoint ss at) ∷ (rule.OwnSlot, is_first) ∷ []
path_rules _ n ss at is_first = []

-- ---- bridges

abbrev pub bridge_rules : BoardFault → Bridge → List (Rule × Bool)
bridge_rules fault.Number b =
    identity_rules b.vendor b.device b.revision
    ++ fixed_status_rule b.fixed_status
    ∷ (rule.FixedSecondaryStatus, has_only_fixed_bits b.fixed_secondary_status)
    ∷ multifunction_rule b.at b.multifunction ∷ []
bridge_rules fault.TooMany b = (rule.Slashes, has_at_most_15_slashes b.at) ∷ []
bridge_rules _ b = []

-- ---- guests

-- of a guest that comes after n others
abbrev pub guest_rules : BoardFault → File → ℕ → Guest → List (Rule × Bool)
guest_rules fault.TooMany f n g = (rule.Slots, nat_le (length g.slots) 32) ∷ []
guest_rules fault.GuestName f n g =
    (rule.Name, is_name g.name)
    ∷ (rule.OwnName, list_all (λ h. not (bytes_eq h.name g.name)) (take n f.guests)) ∷ []
guest_rules _ f n g = []
