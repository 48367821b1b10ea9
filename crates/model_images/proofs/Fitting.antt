-- Whatever happens, functions hold what functions of their declarations can hold.
use Rattle.std.{proofs.{Common.{◌≡◌, ℕ, ◌/◌, ◌%◌, Bool, true, false, ◌||◌, cond, eqb, List, [], ◌∷◌, Some, None, Option, refl, ap, arith}, lemmas.Bool.{eqb-true, and_from}}, specs.Prelude.{map, option_map}}
use Rattle.lists.{specs.Elements.Each, proofs.{EachLemmas.each_map, Tests.{left_true, right_true, some_there}}}
use Rattle.model_registers.{specs.{Cell.{Cell, written, raised}, Registers.{Place, place_eq, after, PlacedCell, File, changed, write, raise}, Declarations.Endpoint, EndpointTable.endpoint_reset, DeviceBytes.{is_device_byte, with_value, set_value}, CopiedFiles.shape_of, Decoding.Function}, proofs.RegisterFiles.{place_same, self}}
use Rattle.model_guests.{specs.{Slots.{Slots, reset_function}, Lone.LoneGuest, Guests.{GuestNow, GuestsNow, guests_at_first}}, proofs.{Seats.changed_shape, GuestsByName.found, OneGuest.lone_found}}
use Rattle.model_handoff.specs.Actions.{after_action}
use Rattle.model_images.{specs.{Images.{SavedFunction, Image, values_of, saved, with_values, restored, lone_of_image, after_restart, fixed_bits, can_hold, fit_cells, Fits, FitSlots}, Requests.{acts, loads, restarts, after_request}, FitLaws.{IsFittingFunction, HoldsFitting, IsFitting, AreFitting, FittingAtFirst, FittingAfter, FittingAlong, SavedFits}}, proofs.{Loading.shape_with, FixedBits.{written_fixed, raised_fixed}, KeptFunctions.{Keeps, AreKept, Has, action_holds, load_holds, restart_holds, holds_at_first}}}

-- ---- one cell

-- a change at a place leaves the fixed bits, or it is a device's byte
abbrev KeepsFixed : (Cell → Cell) → Place → Type 0
KeepsFixed f p = (c : Cell) → (is_device_byte p || eqb (fixed_bits c (f c).value) (fixed_bits c c.value)) ≡ true

abbrev bare : PlacedCell → PlacedCell
bare e = record e { cell = record e.cell { value = 0 } }

entry_fits : (f : Cell → Cell) (p : Place) → KeepsFixed f p → (r e : PlacedCell) → bare e ≡ bare r → can_hold r e.cell.value ≡ true
    → can_hold r (cond (place_eq e.place p) (record e { cell = f e.cell }) e).cell.value ≡ true
entry_fits f p keeps r e same h = grind (arith, place_same, eqb-true)

-- ---- files

changed_fits : (f : Cell → Cell) (p : Place) → KeepsFixed f p → (rs es : File) → shape_of es ≡ shape_of rs → fit_cells rs (values_of es) ≡ true → fit_cells rs (values_of (changed f p es)) ≡ true
changed_fits f p keeps [] [] same h = refl
changed_fits f p keeps (r ∷ rs) (e ∷ es) same h = grind (arith, and_from, entry_fits, left_true, right_true, changed_fits f p keeps rs es)
changed_fits f p keeps rs es same h = cc

change_keeps : (f : Cell → Cell) → ((c : Cell) → record (f c) { value = 0 } ≡ record c { value = 0 }) → (p : Place) → KeepsFixed f p → Keeps HoldsFitting (changed f p)
change_keeps f bare p keeps g h = grind (arith, changed_shape f bare p g.file, changed_fits f p keeps (endpoint_reset g.decl false) g.file h.shape h.values)

fixed_kept : (f : Cell → Cell) (p : Place) → ((c : Cell) → fixed_bits c (f c).value ≡ fixed_bits c c.value) → KeepsFixed f p
fixed_kept f p stays c = grind (arith, self)

write_keeps : (ons : List Bool) (v : ℕ) (p : Place) → Keeps HoldsFitting (write ons v p)
write_keeps [] v p f h = h
write_keeps (true ∷ ons) v p f h =
    write_keeps ons (v / 256) (after p) (record f { file = changed (written (v % 256)) p f.file })
    (change_keeps (written (v % 256)) (λ c. refl) p (fixed_kept (written (v % 256)) p (written_fixed (v % 256))) f h)
write_keeps (false ∷ ons) v p f h = write_keeps ons (v / 256) (after p) f h

raise_keeps : (m : ℕ) (p : Place) → Keeps HoldsFitting (raise m p)
raise_keeps m p = change_keeps (raised m) (λ c. refl) p (fixed_kept (raised m) p (raised_fixed m))

set_keeps : (v : ℕ) (p : Place) → is_device_byte p ≡ true → Keeps HoldsFitting (set_value v p)
set_keeps v p device =
    change_keeps (with_value (v % 256)) (λ c. refl) p (λ c. ap (λ t. t || eqb (fixed_bits c (v % 256)) (fixed_bits c c.value)) device)

-- at reset, and with values that fit

self_fits : (rs : File) → fit_cells rs (values_of rs) ≡ true
self_fits [] = refl
self_fits (r ∷ rs) = grind (arith, and_from, self, self_fits rs)

pub reset_fits : (d : Endpoint) → IsFittingFunction (record { decl = d; file = endpoint_reset d false })
reset_fits d = record { shape = refl; values = self_fits (endpoint_reset d false) }

pub values_with : (vs : List ℕ) (rs : File) → fit_cells rs vs ≡ true → values_of (with_values vs rs) ≡ vs
values_with [] [] h = refl
values_with (v ∷ vs) (r ∷ rs) h = ap (λ (x : List ℕ). v ∷ x) (values_with vs rs (right_true (can_hold r v) (fit_cells rs vs) h))
values_with vs rs h = cc

restored_fits : (s : SavedFunction) → fit_cells (endpoint_reset s.decl false) s.values ≡ true → IsFittingFunction (restored s)
restored_fits s h = grind (arith, shape_with s.values (endpoint_reset s.decl false), values_with s.values (endpoint_reset s.decl false) h)

-- ---- all guests

pub fitting_kept : AreKept HoldsFitting
fitting_kept = record { write = write_keeps; raise = raise_keeps; put = set_keeps; reset = reset_holds }
  where
    reset_holds : (o : Option Endpoint) → HoldsFitting (reset_function o)
    reset_holds None = tt
    reset_holds (Some d) = reset_fits d

abbrev HaveFitting : GuestsNow → Type 0
HaveFitting gs = Each (λ (t : GuestNow). Has HoldsFitting t.lone) gs

have_fitting : (gs : GuestsNow) → AreFitting gs → HaveFitting gs
have_fitting gs h = each_map (λ (t : GuestNow). IsFitting t.lone) (λ (t : GuestNow). Has HoldsFitting t.lone) gs (λ t k. record { latch = k.latch; functions = k.functions }) h

are_fitting : (gs : GuestsNow) → HaveFitting gs → AreFitting gs
are_fitting gs h = each_map (λ (t : GuestNow). Has HoldsFitting t.lone) (λ (t : GuestNow). IsFitting t.lone) gs (λ t k. record { latch = k.latch; functions = k.functions }) h

image_slots : (ss : List (Option SavedFunction)) (fs : Slots) → FitSlots ss fs → Each HoldsFitting (map (option_map restored) ss)
image_slots [] fs h = tt
image_slots (None ∷ ss) (None ∷ fs) h = (tt, image_slots ss fs h.1)
image_slots (Some s ∷ ss) (Some f ∷ fs) h = (restored_fits s h.0.values, image_slots ss fs h.1)
image_slots ss fs h = grind arith

pub image_fits : (i : Image) (g : LoneGuest) → Fits i g → Has HoldsFitting (lone_of_image i)
image_fits i g h = record { latch = h.latch; functions = image_slots i.slots g.slots h.slots }

pub fitting_after : FittingAfter
fitting_after w h (acts a) fits = are_fitting (after_action w a).guests (action_holds HoldsFitting fitting_kept w a (have_fitting w.guests h))
fitting_after w h (loads n i) fits = grind (arith, are_fitting, load_holds, fitting_kept, image_fits, have_fitting)
fitting_after w h (restarts n) fits = are_fitting (after_restart n w).guests (restart_holds HoldsFitting fitting_kept w n (have_fitting w.guests h))

pub fitting_along : FittingAlong
fitting_along w h [] fits = h
fitting_along w h (r ∷ rs) fits = fitting_along (after_request w r) (fitting_after w h r fits.0) rs fits.1

pub fitting_at_first : FittingAtFirst
fitting_at_first w = are_fitting (guests_at_first w) (holds_at_first HoldsFitting fitting_kept w)

-- ---- what is saved

pub saved_slots : (fs gs : Slots) → Each HoldsFitting fs → map (option_map (λ (f : Function). f.decl)) fs ≡ map (option_map (λ (f : Function). f.decl)) gs → FitSlots (map (option_map saved) fs) gs
saved_slots [] [] all same = tt
saved_slots (f ∷ fs) (g ∷ gs) all same = grind (arith, saved_slots fs gs)
saved_slots fs gs all same = cc

pub saved_fits : SavedFits
saved_fits w v from to h there same = grind (arith, some_there, lone_found, found, saved_slots)
