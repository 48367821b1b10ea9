-- Guests that are saved and loaded.
use Rattle.std.{proofs.Common.{◌≡◌, ℕ, Bool, true, false, cond, List, [], ◌∷◌, Some, None, Option, refl, sym, ap, ap₂, ◌∙◌, subst, arith}, specs.{Prelude.{map, option_map, IsFalse}, Str.bytes_eq}}
use Rattle.lists.{specs.Elements.Each, proofs.Tests.some_there}
use Rattle.model_registers.specs.{Registers.File, Decoding.Function, EndpointTable.endpoint_reset, CopiedFiles.shape_of}
use Rattle.model_board.specs.{Paths.Path, Board.Board, AtReset.board_at}
use Rattle.model_guests.{specs.{Slots.Slots, Text.Text, Lone.LoneGuest, Guests.{GuestNow, GuestsNow, guest_named, lone_of, with_guest}, Seated.{AreSeats, IsSeat, IsSeatedGuest}}, proofs.{Along.names_with, Names.{equal_texts, same_text}, GuestFiles.other_name, GuestsByName.found, Seats.{names_stay, paths_stay}, FoundFiles.{NamesApart, others_stay}, OneGuest.{lone_own, lone_other, lone_found, with_none}}}
use Rattle.model_handoff.proofs.{Served.served_with, Views.reset_with}
use Rattle.model_images.specs.{Images.{SavedFunction, values_of, saved, image_of_lone, with_values, restored, lone_of_image, loaded, function_at_reset, at_reset, FitSlots, FitsSlot}, LoadLaws.{KeepsWhatWasSaved, LoadedHolds, RestartedHolds, HoldsAsSaved, OthersAfterLoad, NamesAfterLoad, PathsAfterLoad, HandoffAfterLoad, SeatedAfterLoad, LawfulAfterLoad, ShownAfterLoad}}

-- ---- files

pub values_back : (f g : File) → shape_of f ≡ shape_of g → with_values (values_of f) g ≡ f
values_back [] [] h = refl
values_back (e ∷ es) (d ∷ ds) h = grind (arith, values_back es ds)
values_back f g h = cc

pub shape_with : (vs : List ℕ) (file : File) → shape_of (with_values vs file) ≡ shape_of file
shape_with vs [] = refl
shape_with [] (e ∷ es) = refl
shape_with (v ∷ vs) (e ∷ es) = grind (arith, shape_with vs es)

-- ---- slots

slots_back : (b : Board) (qs : List (Option Path)) (fs : Slots) → AreSeats b qs fs → map (option_map restored) (map (option_map saved) fs) ≡ fs
slots_back b [] [] h = refl
slots_back b (q ∷ qs) (None ∷ fs) h = ap (λ (x : Slots). None ∷ x) (slots_back b qs fs h.1)
slots_back b (Some p ∷ qs) (Some f ∷ fs) h =
    ap₂ (λ (x : File) (y : Slots). Some (record { decl = f.decl; file = x }) ∷ y) (values_back f.file (endpoint_reset f.decl false) h.0.shape) (slots_back b qs fs h.1)
slots_back b qs fs h = grind arith

pub lone_back : (b : Board) (t : GuestNow) → IsSeatedGuest b t → lone_of_image (image_of_lone t.lone) ≡ t.lone
lone_back b t h = ap (λ (x : Slots). record { slots = x; latch = t.lone.latch }) (slots_back b t.paths t.lone.slots h.seats)

reset_back : (fs : Slots) → map (option_map restored) (map (option_map saved) (map function_at_reset fs)) ≡ map function_at_reset fs
reset_back [] = refl
reset_back (f ∷ fs) = grind (arith, values_back, reset_back fs)

pub lone_reset_back : (g : LoneGuest) → lone_of_image (image_of_lone (at_reset g)) ≡ at_reset g
lone_reset_back g = ap (λ (x : Slots). record { slots = x; latch = 0 }) (reset_back g.slots)

fitting_seats : (b : Board) (qs : List (Option Path)) (ss : List (Option SavedFunction)) (fs : Slots) → FitSlots ss fs → AreSeats b qs fs → AreSeats b qs (map (option_map restored) ss)
fitting_seats b qs [] [] k h = h
fitting_seats b qs [] (f ∷ fs) k h = absurd k
fitting_seats b qs (s ∷ ss) [] k h = absurd k
fitting_seats b [] (s ∷ ss) (f ∷ fs) k h = absurd h
fitting_seats b (q ∷ qs) (s ∷ ss) (f ∷ fs) k h = (seat q s f k.0 h.0, fitting_seats b qs ss fs k.1 h.1)
  where
    seat : (q : Option Path) (s : Option SavedFunction) (f : Option Function) → FitsSlot s f → IsSeat b q f → IsSeat b q (option_map restored s)
    seat q None None k h = h
    seat (Some p) (Some s) (Some f) k h = grind (arith, shape_with s.values (endpoint_reset s.decl false))
    seat q s f k h = grind arith

-- ---- one guest of a world

-- a change of the guest of this name alone
pub each_with : (P : GuestNow → Type 0) (g : GuestNow → GuestNow) (name : Text) (s : GuestsNow) → NamesApart s → ((t : GuestNow) → guest_named s name ≡ Some t → P t → P (g t)) → Each P s
    → Each P (with_guest g name s)
each_with P g name [] names stays all = tt
each_with P g name (t ∷ ts) names stays all = cases (bytes_eq name t.name) refl (λ h. each_with P g name ts names.1 h all.1)
  where
    cases : (v : Bool) → bytes_eq name t.name ≡ v → (((u : GuestNow) → guest_named ts name ≡ Some u → P u → P (g u)) → Each P (with_guest g name ts))
        → P (cond v (g t) t) × Each P (with_guest g name ts)
    cases true e more =
        let is : name ≡ t.name = equal_texts name t.name e in
        let there : bytes_eq t.name name ≡ true = ap (bytes_eq t.name) is ∙ same_text t.name in
        let apart = subst (λ (x : Text). Each (λ (v : GuestNow). IsFalse (bytes_eq x v.name)) ts) (sym is) names.0 in
        (stays t (ap (λ v. cond v (Some t) (guest_named ts name)) there) all.0, subst (Each P) (sym (others_stay g name ts apart)) all.1)
    cases false e more =
        let other : bytes_eq t.name name ≡ false = other_name name t.name e in
        (all.0, more (λ u at. stays u (ap (λ v. cond v (Some t) (guest_named ts name)) other ∙ at)))

none_named : (g : GuestNow → GuestNow) (name : Text) (s : GuestsNow) → guest_named s name ≡ None → with_guest g name s ≡ s
none_named g name [] h = refl
none_named g name (t ∷ ts) h = grind (arith, none_named g name ts, other_name)

-- ---- what was saved

pub keeps_what_was_saved : KeepsWhatWasSaved
keeps_what_was_saved b w h name = ap (λ (x : GuestsNow). record { handoff = w.handoff; guests = x }) (cases (guest_named w.guests name) refl)
  where
    cases : (o : Option GuestNow) → guest_named w.guests name ≡ o → with_guest (loaded (image_of_lone (lone_of w.guests name))) name w.guests ≡ w.guests
    cases None e = none_named (loaded (image_of_lone (lone_of w.guests name))) name w.guests e
    cases (Some x) e =
        let own : lone_of w.guests name ≡ x.lone = lone_found w.guests name x e in
        let seat : IsSeatedGuest b x = (found (IsSeatedGuest b) w.guests name x h.guests e).has in
        with_none w.guests h.names_apart name x e (loaded (image_of_lone (lone_of w.guests name)))
        (ap (λ (g : LoneGuest). record { name = x.name; paths = x.paths; lone = g }) (ap (λ (g : LoneGuest). lone_of_image (image_of_lone g)) own ∙ lone_back b x seat))

pub loaded_holds : LoadedHolds
loaded_holds w name there i = lone_own (loaded i) (λ t. refl) (λ (g : LoneGuest). lone_of_image i) (λ t. refl) name w.guests there

pub restarted_holds : RestartedHolds
restarted_holds w name there = loaded_holds w name there (image_of_lone (at_reset (lone_of w.guests name))) ∙ lone_reset_back (lone_of w.guests name)

pub holds_as_saved : HoldsAsSaved
holds_as_saved w v from to is =
    let x = some_there (guest_named w.guests from) is.first in
    let own : lone_of w.guests from ≡ x.0.lone = lone_found w.guests from x.0 x.1 in
    let seat : IsSeatedGuest is.seated.0 x.0 = (found (IsSeatedGuest is.seated.0) w.guests from x.0 is.seated.1.guests x.1).has in
    loaded_holds v to is.second (image_of_lone (lone_of w.guests from))
    ∙ ap (λ (g : LoneGuest). lone_of_image (image_of_lone g)) own ∙ lone_back is.seated.0 x.0 seat ∙ sym own

-- ---- what stays

pub others_after_load : OthersAfterLoad
others_after_load w name other i apart = lone_other (loaded i) (λ t. refl) name other w.guests apart

pub names_after_load : NamesAfterLoad
names_after_load w name i = names_with (loaded i) (λ t. refl) name w.guests

pub paths_after_load : PathsAfterLoad
paths_after_load w name i other n = paths_stay (loaded i) (λ t. refl) (λ t. refl) name other n w.guests

pub handoff_after_load : HandoffAfterLoad
handoff_after_load w name i = refl

-- ---- what fits

pub seated_after_load : SeatedAfterLoad
seated_after_load b w h name i fits = grind (arith, names_stay, each_with, fitting_seats, lone_found, paths_after_load)

pub lawful_after_load : LawfulAfterLoad
lawful_after_load w h name i fits = grind (arith, seated_after_load (board_at w.handoff.functions) w h.seated name i fits, served_with (loaded i))

pub shown_after_load : ShownAfterLoad
shown_after_load w name i = reset_with (loaded i) (λ t. refl) w.handoff w.guests name
