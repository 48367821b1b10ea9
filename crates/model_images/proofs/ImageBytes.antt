-- The bytes of images.
use Rattle.std.{proofs.{Common.{◌≡◌, ℕ, zero, suc, true, false, ◌&&◌, List, [], ◌∷◌, Some, None, Option, refl, sym, ap, ◌∙◌, arith}, lemmas.{Bool.{and_from, eqb-true}, Option.same_Some}}, specs.Prelude.{map, option_map, length, IsTrue}}
use Rattle.lists.proofs.Tests.{left_true, right_true}
use Rattle.model_registers.specs.{ConfigAddress.latched, EndpointTable.endpoint_reset}
use Rattle.model_images.{specs.{Images.{image_of_lone, SavedFunction, Image, saved, restored, lone_of_image, fit_cells, FitSlots}, Layouts.{number, fit_times, optional}, ImageBytes.{endpoint_layout, function_layout, image_layout, image_of}, ByteLaws.{HasBytes, BytesAreBytes, BytesAreRead, ReadAreBytes, OneImage, ReadIsOfAGuest}}, proofs.{Fitting.values_with, Layouts.{whole_again, whole_spells}, ImageLayouts.image_is}}

pub bytes_are_bytes : BytesAreBytes
bytes_are_bytes i = image_is.are_bytes i

pub bytes_are_read : BytesAreRead
bytes_are_read i h = whole_again image_layout image_is i h

pub read_are_bytes : ReadAreBytes
read_are_bytes bs i h = whole_spells image_layout image_is bs i h

pub one_image : OneImage
one_image i j h k same = same_Some i j (sym (bytes_are_read i h) ∙ ap image_of same ∙ bytes_are_read j k)

-- ---- the parts of an image that has bytes

pub record HasParts (i : Image) : Type 0 where
  pub latch_fits : (number 4).fits i.latch ≡ true
  pub latched : latched i.latch ≡ i.latch
  pub slots : fit_times (optional function_layout).fits 32 i.slots ≡ true

pub parts_of : (i : Image) → HasBytes i → HasParts i
parts_of i h = grind (arith, left_true, eqb-true, right_true)

pub record FunctionParts (s : SavedFunction) : Type 0 where
  pub decl : IsTrue (endpoint_layout.fits s.decl)
  pub count : fit_times (number 1).fits (length (endpoint_reset s.decl false)) s.values ≡ true
  pub values : fit_cells (endpoint_reset s.decl false) s.values ≡ true

pub function_parts : (s : SavedFunction) → function_layout.fits s ≡ true → FunctionParts s
function_parts s h = grind (arith, right_true, left_true)

pub parts_fit : (s : SavedFunction) → FunctionParts s → function_layout.fits s ≡ true
parts_fit s p = grind (arith, and_from)

pub slot_fits : (s : SavedFunction) → (optional function_layout).fits (Some s) ≡ true → function_layout.fits s ≡ true
slot_fits s h = left_true (function_layout.fits s) true (left_true (function_layout.fits s && true) true h)

-- ---- the guest whose image it is

saved_back : (s : SavedFunction) → fit_cells (endpoint_reset s.decl false) s.values ≡ true → saved (restored s) ≡ s
saved_back s h = ap (λ (vs : List ℕ). record { decl = s.decl; values = vs }) (values_with s.values (endpoint_reset s.decl false) h)

slots_back : (n : ℕ) (ss : List (Option SavedFunction)) → fit_times (optional function_layout).fits n ss ≡ true
    → (map (option_map saved) (map (option_map restored) ss) ≡ ss) × FitSlots ss (map (option_map restored) ss)
slots_back n [] h = (refl, tt)
slots_back zero (s ∷ ss) h = cc
slots_back (suc n) (None ∷ ss) h = let more = slots_back n ss h in (ap (λ (x : List (Option SavedFunction)). None ∷ x) more.0, (tt, more.1))
slots_back (suc n) (Some s ∷ ss) h =
    let more = slots_back n ss (right_true ((optional function_layout).fits (Some s)) (fit_times (optional function_layout).fits n ss) h) in
    grind (arith, function_parts s, slot_fits s, left_true ((optional function_layout).fits (Some s)) (fit_times (optional function_layout).fits n ss) h, saved_back s)

pub image_back : (i : Image) → HasBytes i → image_of_lone (lone_of_image i) ≡ i
image_back i has = ap (λ (ss : List (Option SavedFunction)). record { latch = i.latch; slots = ss }) (slots_back 32 i.slots (parts_of i has).slots).0

pub read_is_of_a_guest : ReadIsOfAGuest
read_is_of_a_guest bs i h =
    let has = (read_are_bytes bs i h).1 in
    let parts = parts_of i has in
    (lone_of_image i, record { image = image_back i has; fits = record { latch = parts.latched; slots = (slots_back 32 i.slots parts.slots).1 } })
