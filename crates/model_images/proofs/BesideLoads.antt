-- The board beside the functions of a guest that is loaded.
use Rattle.std.{proofs.Common.{◌≡◌, ℕ, zero, suc, List, [], ◌∷◌, Some, Option, sym, ap, ◌∙◌, arith}, specs.{Prelude.{map, option_map, slice_get, IsSome}, Option.option_map_or}}
use Rattle.model_registers.specs.{Registers.File, CopiedFiles.agreed_file}
use Rattle.model_board.{specs.{Paths.Path, Ports.file_at, State.BoardFunction}, proofs.PathOrder.path_same}
use Rattle.model_guests.{specs.{Slots.slot_at, Guests.{GuestNow, file_of, guest_named, with_guest}, AgreedBoard.agreed_function}, proofs.{Changes.agreed_twice, GuestsByName.{function_named, path_at, path_of}, FoundFiles.{file_found, file_none, file_stays}}}
use Rattle.model_handoff.proofs.Functions.{path_stays}
use Rattle.model_images.{specs.{Images.{SavedFunction, loaded, restored}, LoadLaws.{BoardAfterLoad, BoardBesideLoad, LoadsAlike}}, proofs.Loading.{loaded_holds, paths_after_load, seated_after_load}}

pub loads_alike : LoadsAlike
loads_alike file left own = agreed_twice left own file

-- what the board shows at a path: the file that was handed over, with the guest's put in
abbrev put_in : Option File → File → File
put_in o file = option_map_or (agreed_file file) o file

shown_none : (o : Option File) → [] ≡ put_in o []
shown_none o = grind arith

shown_at : (fs : List BoardFunction) (files : Path → Option File) (p : Path) → file_at (map (agreed_function files) fs) p ≡ put_in (files p) (file_at fs p)
shown_at [] files p = shown_none (files p)
shown_at (f ∷ fs) files p = grind (arith, shown_at fs files p, path_stays, path_same)

pub board_beside_load : BoardBesideLoad
board_beside_load b w h name i p none =
    shown_at w.handoff.functions (file_of (with_guest (loaded i) name w.guests)) p
    ∙ ap (λ (o : Option File). put_in o (file_at w.handoff.functions p))
    (file_stays (loaded i) name p w.guests h.names_apart
    (λ t at.
    let no : (m : ℕ) → path_at t.paths m ≡ Some p → ⊥ = λ m e. none m (ap (λ (o : Option GuestNow). path_of o m) at ∙ e) in
    file_none t.paths (loaded i t).lone.slots p no ∙ sym (file_none t.paths t.lone.slots p no)))
    ∙ sym (shown_at w.handoff.functions (file_of w.guests) p)

-- the function that was loaded into a slot
restored_at : (ss : List (Option SavedFunction)) (n : ℕ) (s : SavedFunction) → slice_get ss n ≡ Some (Some s) → slot_at (map (option_map restored) ss) n ≡ Some (restored s)
restored_at [] n s at = cc
restored_at (x ∷ xs) zero s at = let is : x ≡ Some s = cc in ap (option_map restored) is
restored_at (x ∷ xs) (suc n) s at = restored_at xs n s at

guest_of_path : (o : Option GuestNow) (n : ℕ) (p : Path) → path_of o n ≡ Some p → IsSome o
guest_of_path o n p h = grind arith

pub board_after_load : BoardAfterLoad
board_after_load b w h name i fits n p s path at =
    grind (arith, seated_after_load b w h name i fits, guest_of_path (guest_named w.guests name) n p path, loaded_holds w name, restored_at i.slots n s, file_found, paths_after_load w name i name n, function_named, shown_at w.handoff.functions)
