-- What holds of the entries of a file where no problem of a fault is found.
use Rattle.std.{proofs.{Common.{◌≡◌, inl, inr, refl, ℕ, ◌+◌, Bool, true, ◌&&◌, ◌||◌, not, List, length, nat_le, arith}, Math.Bool.and_assoc, lemmas.List.Folds.list_all-map}, specs.{Prelude.option_map, List.list_all, Str.bytes_eq}}
use Rattle.lists.{specs.Elements.{IsIn, all_pairs}, proofs.Members.all_in}
use Rattle.model_registers.specs.Apertures.{is_io_aperture, is_mem_aperture, has_lawful_pref, are_lawful}
use Rattle.model_board.specs.{Paths.{parent, function_zero}, Places.has_path}
use Rattle.model_guests.specs.World.{is_name}
use Rattle.board_file.{specs.{Entries.File, PathTexts.{is_path_within, path_at}, Functions.{standings, aperture, apertures}, Rules.{has_at_most_15_slashes, is_device_count, device_limit, names_endpoint, is_non_negative, is_none_or_non_negative}, Endpoints.{masks_hold, keeps}, EntryRules.{are_same_valid_path, is_existing_bus}, MarkedPaths.{function_texts, slot_texts}, Problems.{none, problems_in}, Meaning.file_checks, Judged.{is_lawful_bridge, is_judged}, declared.{fault.BoardFault.BoardFault, entry.Entry.Entry}}, proofs.Tests.{all-both, with_earlier, pairs-append, pairs-map, any_order, nothing_listed}}
use Rattle.board_file.specs.declared.fault.BoardFault.TheVariants as fault

-- no problem is found under a check of a judged file
pub unbroken : (f : File) → is_judged f ≡ true → (fault : BoardFault) → IsIn fault file_checks → none (problems_in f fault) ≡ true
unbroken f judged fault m = all_in (λ (c : BoardFault). none (problems_in f c)) fault file_checks judged m

-- two texts that are not the same path
abbrev pub others : Entry × List ℕ → Entry × List ℕ → Bool
others s t = not (are_same_valid_path s.1 t.1)

module _ (f : File) where
  pub numbers : none (problems_in f fault.Number)
      ≡ (is_device_count f.devices && (list_all (λ e. keeps fault.Number e) f.endpoints && list_all (λ b. is_lawful_bridge b) f.bridges))
  numbers = simp (nothing_listed, and_assoc)

  pub registers : none (problems_in f fault.Register) ≡ list_all (λ e. keeps fault.Register e) f.endpoints
  registers = simp nothing_listed

  pub sizes : none (problems_in f fault.Size) ≡ list_all (λ e. keeps fault.Size e) f.endpoints
  sizes = simp nothing_listed

  pub counts : none (problems_in f fault.TooMany)
      ≡ (nat_le (length f.endpoints + length f.bridges) 1024
      && (nat_le (length f.guests) 32
      && (list_all (λ e. has_at_most_15_slashes e.at) f.endpoints
      && (list_all (λ b. has_at_most_15_slashes b.at) f.bridges && list_all (λ g. nat_le (length g.slots) 32) f.guests))))
  counts = simp (nothing_listed, and_assoc)

  pub names : none (problems_in f fault.GuestName) ≡ (list_all (λ g. is_name g.name) f.guests && all_pairs (λ g h. not (bytes_eq g.name h.name)) f.guests)
  names = simp (nothing_listed, all-both, with_earlier)

  pub masks : none (problems_in f fault.CellMasks) ≡ list_all masks_hold f.endpoints
  masks = simp (nothing_listed, all-both, with_earlier, pairs-append, pairs-map, list_all-map, any_order)

  pub places : none (problems_in f fault.Place)
      ≡ (list_all (λ p. is_path_within (device_limit f.devices) p.1) (function_texts f)
      && (all_pairs others (function_texts f)
      && (list_all (λ p. is_existing_bus (standings f) (parent (path_at p.1))) (function_texts f)
      && list_all (λ p. has_path (standings f) (function_zero (path_at p.1))) (function_texts f))))
  places = simp (nothing_listed, list_all-map, all-both, with_earlier)

  pub slots : none (problems_in f fault.Slot) ≡ (list_all (λ p. names_endpoint (standings f) p.1) (slot_texts f) && all_pairs others (slot_texts f))
  slots = simp (nothing_listed, list_all-map, all-both, with_earlier)

-- what is only asked where another test holds, which is asked too
six : (natural_io io natural_mem mem natural_pref pref : Bool)
    → ((natural_io && io) && ((natural_mem && mem) && (natural_pref && (not mem || pref)))) ≡ true → ((io && mem) && pref) ≡ true
six natural_io io natural_mem mem natural_pref pref h = grind arith

pub apertures_of : (f : File) → is_judged f ≡ true → are_lawful (apertures f) ≡ true
apertures_of f judged =
    six (is_non_negative f.io) (is_io_aperture (aperture f.io)) (is_non_negative f.mem) (is_mem_aperture (aperture f.mem)) (is_none_or_non_negative f.pref)
    (has_lawful_pref (aperture f.mem) (option_map aperture f.pref))
    (simp nothing_listed at (unbroken f judged fault.Aperture (inr (inr (inr (inr (inr (inr (inr (inl refl))))))))))
