-- Along any requests guests can be saved, and what was saved of one is taken.
--     HoldsWritable, AllHold      a function holds what it can hold, in bytes; all functions of guests
--     saved_by      so a world of such can be saved, whatever was changed
use Rattle.std.{proofs.{Common.{◌≡◌, ℕ, zero, suc, ◌<◌, Bool, true, false, cond, List, [], ◌∷◌, length, Some, None, Option, refl, sym, ap, ◌∙◌, subst, arith}, lemmas.Bool.ltb-true}, specs.{Prelude.{map, option_map, IsFalse, IsSome}, Option.option_map_or, Str.bytes_eq}}
use Rattle.lists.{specs.Elements.Each, proofs.{EachLemmas.{each_both, each_map, each_of_map}, Members.each_in, Tests.{left_true, right_true, some_there}}}
use Rattle.model_registers.specs.{Declarations.Endpoint, EndpointTable.endpoint_reset, Registers.File, Decoding.Function}
use Rattle.model_board.specs.{Paths.Path, Board.{endpoint, Row}, AtReset.board_at, State.{BoardFunction, State, row_at}}
use Rattle.model_guests.{specs.{Text.Text, Slots.Slots, World.{World, declared}, AgreedBoard.agreed_function, Guests.{GuestNow, GuestsNow, guest_named, lone_of}, Lone.LoneGuest, Seated.{AreSeats, IsSeatedGuest}, WorldNow.{WorldNow, world_over}}, proofs.{DeclaredRows.declared_row, GuestsByName.found, OneGuest.{lone_found, still}, Seats.as_many}}
use Rattle.model_handoff.specs.{Actions.{Action, after_action}, Giving.{Gift, given, with_reset_at}, Handoffs.{reset_files, taken_over}, Kept.IsLawfulOver}
use Rattle.model_images.{specs.{Images.{SavedFunction, Image, image_of_guest, image_of_lone, lone_of_image, with_values, restored, after_load, after_restart, loaded, Fits}, FitLaws.{HoldsFitting, AreFitting, IsFittingRequest}, LoadLaws.{AnswersAlike, IsCopy}, Requests.{Request, acts, loads, restarts, after_request, request_inputs}, Layouts.{number, fit_times, optional}, ImageBytes.{function_layout, image_bytes, image_of}, ByteLaws.{HasBytes, IsDeclared, HoldsSavable, IsSavableGuest}, SavedLaws.{CanBeDeclared, AreDeclared, CanBeSaved, CanBeSavedAtFirst, IsWritableRequest, CanBeSavedAlong, TakesSavedGuest, SavesWhatWasTaken, NoImageIsRefused}}, proofs.{Counts.lawful_along_requests, Fitting.{fitting_kept, image_fits, saved_fits}, KeptFunctions.{AreKept, Has, action_holds, load_holds, restart_holds, holds_at_first}, Loading.{loaded_holds, others_after_load}, Requests.{answers_as_saved, isolated_by_requests}, ByteCells.{AreByteCells, HoldsByteCells, byte_cells_kept, hold_bytes, of_shape, reset_bytes}, ImageBytes.{bytes_are_read, read_are_bytes, parts_of, function_parts, slot_fits, image_back}, LoadedBytes.{fitting_accepted, images_decided, savable_fits}, Savable.lawful_guest_has_encoding, TakenBytes.taken_now}}

-- ---- declarations

pub declared_written : (fs : List BoardFunction) → AreDeclared fs → (p : Path) (d : Endpoint) → declared (board_at fs) p ≡ Some d → IsDeclared d
declared_written fs can p d h =
    each_in (λ (r : Row). CanBeDeclared r.decl) (record { path = p; decl = endpoint d }) (board_at fs) (each_of_map (λ (r : Row). CanBeDeclared r.decl) row_at fs can) (declared_row (board_at fs) p d h)

kept_declared : (change : BoardFunction → BoardFunction) → ((f : BoardFunction) → (change f).decl ≡ f.decl) → (fs : List BoardFunction) → AreDeclared fs → AreDeclared (map change fs)
kept_declared change stays fs h = grind (arith, each_of_map, each_map)

agreed_declared : (files : Path → Option File) (fs : List BoardFunction) → AreDeclared fs → AreDeclared (map (agreed_function files) fs)
agreed_declared files fs h = grind (arith, kept_declared (agreed_function files))

reset_declared : (s : State) (p : Path) → AreDeclared s.functions → AreDeclared (with_reset_at p s).functions
reset_declared s p h = grind (arith, kept_declared)

-- what stays of a handoff when a function is reset stays along requests
module _ (R : State → Type 0) (resets : (s : State) (p : Path) → R s → R (with_reset_at p s)) where
  either_over : (t : Bool) (v w : WorldNow) → R v.handoff → R w.handoff → R (cond t v w).handoff
  either_over true v w h k = h
  either_over false v w h k = k

  given_over : (w : WorldNow) (g : Gift) (o : Option Endpoint) → R w.handoff → R (given g o w).handoff
  given_over w g None h = h
  given_over w g (Some d) h = resets w.handoff g.path h

  taken_over_there : (w : WorldNow) (o : Option Path) → R w.handoff → R (option_map_or (λ (p : Path). with_reset_at p w.handoff) o w.handoff)
  taken_over_there w None h = h
  taken_over_there w (Some p) h = resets w.handoff p h

  handoff_after : (w : WorldNow) → R w.handoff → (r : Request) → R (after_request w r).handoff
  handoff_after w h r = grind (arith, either_over, given_over w, taken_over_there w)

-- ---- guests that can be saved

abbrev pub HoldsWritable : Option Function → Type 0
HoldsWritable o = HoldsFitting o × HoldsByteCells o

pub writable_kept : AreKept HoldsWritable
writable_kept = grind (arith, fitting_kept, byte_cells_kept)

abbrev pub AllHold : GuestsNow → Type 0
AllHold gs = Each (λ (t : GuestNow). Has HoldsWritable t.lone) gs

slots_have : (os : Slots) → Each HoldsSavable os → Each HoldsByteCells os
slots_have [] h = tt
slots_have (None ∷ os) h = (tt, slots_have os h.1)
slots_have (Some f ∷ os) h = (λ cells. of_shape f.file (endpoint_reset f.decl false) h.0.fits.shape (reset_bytes f.decl cells) h.0.bytes, slots_have os h.1)

pub all_hold : (gs : GuestsNow) → Each (λ (g : GuestNow). IsSavableGuest g.lone) gs → AllHold gs
all_hold gs h =
    each_map (λ (g : GuestNow). IsSavableGuest g.lone) (λ (g : GuestNow). Has HoldsWritable g.lone) gs
    (λ g k. record { latch = k.latch; functions = each_both HoldsFitting HoldsByteCells g.lone.slots (savable_fits g.lone.slots k.functions) (slots_have g.lone.slots k.functions) }) h

module _ (fs : List BoardFunction) (declared : AreDeclared fs) where
  slots_savable : (qs : List (Option Path)) (os : Slots) → AreSeats (board_at fs) qs os → Each HoldsWritable os → Each HoldsSavable os
  slots_savable [] [] seats h = tt
  slots_savable (q ∷ qs) (None ∷ os) seats h = (tt, slots_savable qs os seats.1 h.1)
  slots_savable (Some p ∷ qs) (Some f ∷ os) seats h =
      let is = declared_written fs declared p f.decl seats.0.decl in
      (record { declared = is; fits = h.0.0; bytes = hold_bytes f.file (h.0.1 is.cells) }, slots_savable qs os seats.1 h.1)
  slots_savable qs os seats h = grind arith

  all_savable : (gs : GuestsNow) → Each (IsSeatedGuest (board_at fs)) gs → AllHold gs → Each (λ (g : GuestNow). IsSavableGuest g.lone) gs
  all_savable [] seated h = tt
  all_savable (g ∷ gs) seated h = grind (arith, as_many, slots_savable, all_savable gs seated.1 h.1)

-- whatever was changed
pub saved_by : (w : WorldNow) → IsLawfulOver w → AreDeclared w.handoff.functions → AllHold w.guests → CanBeSaved w
saved_by w lawful declared h = record { declared = declared; guests = all_savable w.handoff.functions declared w.guests lawful.seated.guests h }

saved_over : (w : World) (s : State) → AreDeclared s.functions → IsLawfulOver (world_over w s) → CanBeSaved (world_over w s)
saved_over w s declared lawful = saved_by (world_over w s) lawful declared (holds_at_first HoldsWritable writable_kept w)

pub can_be_saved_at_first : CanBeSavedAtFirst
can_be_saved_at_first w s declared = record {
  over = saved_over w s declared;
  taken_over = saved_over w (taken_over w s) (agreed_declared (reset_files w) s.functions declared);
}

-- ---- requests

with_bytes : (vs : List ℕ) (file : File) → Each (λ v. v < 256) vs → AreByteCells file → AreByteCells (with_values vs file)
with_bytes vs [] low h = tt
with_bytes [] (e ∷ es) low h = h
with_bytes (v ∷ vs) (e ∷ es) low h = (record { value = low.0; clearable = h.0.clearable }, with_bytes vs es low.1 h.1)

low_numbers : (n : ℕ) (vs : List ℕ) → fit_times (number 1).fits n vs ≡ true → Each (λ v. v < 256) vs
low_numbers n [] h = tt
low_numbers zero (v ∷ vs) h = cc
low_numbers (suc n) (v ∷ vs) h = (ltb-true v 256 (left_true ((number 1).fits v) (fit_times (number 1).fits n vs) h), low_numbers n vs (right_true ((number 1).fits v) (fit_times (number 1).fits n vs) h))

image_slots : (n : ℕ) (ss : List (Option SavedFunction)) → fit_times (optional function_layout).fits n ss ≡ true → Each HoldsByteCells (map (option_map restored) ss)
image_slots n [] h = tt
image_slots zero (s ∷ ss) h = cc
image_slots (suc n) (None ∷ ss) h = (tt, image_slots n ss h)
image_slots (suc n) (Some s ∷ ss) h =
    let parts = function_parts s (slot_fits s (left_true ((optional function_layout).fits (Some s)) (fit_times (optional function_layout).fits n ss) h)) in (
      λ cells. with_bytes s.values (endpoint_reset s.decl false) (low_numbers (length (endpoint_reset s.decl false)) s.values parts.count) (reset_bytes s.decl cells),
      image_slots n ss (right_true ((optional function_layout).fits (Some s)) (fit_times (optional function_layout).fits n ss) h),
    )

image_holds : (i : Image) (g : LoneGuest) → HasBytes i → Fits i g → Has HoldsWritable (lone_of_image i)
image_holds i g has fits =
    let fitting = image_fits i g fits in
    let bytes = image_slots 32 i.slots (parts_of i has).slots in
    record { latch = fitting.latch; functions = each_both HoldsFitting HoldsByteCells (lone_of_image i).slots fitting.functions bytes }

module _ (w : WorldNow) (can : CanBeSaved w) where
  after_any : (r : Request) → IsLawfulOver (after_request w r) → AllHold (after_request w r).guests → CanBeSaved (after_request w r)
  after_any r lawful h = saved_by (after_request w r) lawful (handoff_after (λ s. AreDeclared s.functions) reset_declared w can.declared r) h

  pub saved_after_action : (a : Action) → IsLawfulOver (after_action w a) → CanBeSaved (after_action w a)
  saved_after_action a lawful = after_any (acts a) lawful (action_holds HoldsWritable writable_kept w a (all_hold w.guests can.guests))

  pub saved_after_load : (n : Text) (i : Image) → HasBytes i → Fits i (lone_of w.guests n) → IsLawfulOver (after_load n i w) → CanBeSaved (after_load n i w)
  saved_after_load n i has fits lawful =
      after_any (loads n i) lawful (load_holds HoldsWritable writable_kept w n i (image_holds i (lone_of w.guests n) has fits) (all_hold w.guests can.guests))

  pub saved_after_restart : (n : Text) → IsLawfulOver (after_restart n w) → CanBeSaved (after_restart n w)
  saved_after_restart n lawful = after_any (restarts n) lawful (restart_holds HoldsWritable writable_kept w n (all_hold w.guests can.guests))

  saved_after : (r : Request) → IsWritableRequest w r → IsLawfulOver (after_request w r) → CanBeSaved (after_request w r)
  saved_after (acts a) fits lawful = saved_after_action a lawful
  saved_after (loads n i) fits lawful = saved_after_load n i fits.bytes fits.fits lawful
  saved_after (restarts n) fits lawful = saved_after_restart n lawful

fits_after : (w : WorldNow) (r : Request) → IsWritableRequest w r → IsFittingRequest w r
fits_after w (acts a) fits = tt
fits_after w (loads n i) fits = fits.fits
fits_after w (restarts n) fits = tt

pub can_be_saved_along : CanBeSavedAlong
can_be_saved_along w h can [] fits = can
can_be_saved_along w h can (r ∷ rs) fits =
    let next = lawful_along_requests w h (r ∷ []) (fits_after w r fits.0, tt) in
    can_be_saved_along (after_request w r) next (saved_after w can r fits.0 next) rs fits.1

-- ---- what was saved of a guest

others_alike : (v : WorldNow) (to name : Text) (i : Image) → IsFalse (bytes_eq to name) → IsSome (guest_named v.guests name) → (ones others : List Request)
    → request_inputs name v ones ≡ request_inputs name (after_load to i v) others → AnswersAlike v name ones (after_load to i v) name others
others_alike v to name i apart there ones others same =
    grind (arith, others_after_load v to name i apart, isolated_by_requests v name there ones, isolated_by_requests (after_load to i v) name, still (loaded i))

guests_fit : (gs : GuestsNow) → Each (λ (g : GuestNow). IsSavableGuest g.lone) gs → AreFitting gs
guests_fit [] h = tt
guests_fit (g ∷ gs) h = (record { latch = h.0.latch; functions = savable_fits g.lone.slots h.0.functions }, guests_fit gs h.1)

pub takes_saved_guest : TakesSavedGuest
takes_saved_guest w from lawful can first v to alike =
    let i = image_of_guest from w in
    let x = some_there (guest_named w.guests from) first in
    let own : lone_of w.guests from ≡ x.0.lone = lone_found w.guests from x.0 x.1 in
    let savable : IsSavableGuest (lone_of w.guests from) =
    subst IsSavableGuest (sym own) (found (λ (t : GuestNow). IsSavableGuest t.lone) w.guests from x.0 can.guests x.1).has in
    let has : HasBytes i = lawful_guest_has_encoding (lone_of w.guests from) savable in
    let fits = saved_fits w v from to (guests_fit w.guests can.guests) first alike.declarations in
    let image = bytes_are_read i has in
    let accepted = fitting_accepted (lone_of v.guests to) i has fits in
    let copy : IsCopy w from v to = record { first = first; second = alike.there; seated = (board_at w.handoff.functions, lawful.seated) } in
    record {
      image = image;
      accepted = accepted;
      world = taken_now v to (image_bytes i) i accepted image;
      answers = answers_as_saved w v from to copy;
      others = λ name apart there ones others same. others_alike v to name i apart there ones others same;
    }

-- ---- what was loaded

pub saves_what_was_taken : SavesWhatWasTaken
saves_what_was_taken w name there bytes i is =
    let spelled = read_are_bytes bytes i is.image in
    ap (λ (g : LoneGuest). image_bytes (image_of_lone g)) (loaded_holds w name there i) ∙ ap image_bytes (image_back i spelled.1) ∙ sym spelled.0

pub no_image_is_refused : NoImageIsRefused
no_image_is_refused g savable bytes refused = of (image_of bytes) refl
  where
    of : (o : Option Image) → image_of bytes ≡ o → o ≡ None
    of None e = refl
    of (Some i) e = let decided = images_decided g savable bytes i e in grind arith
