-- Bytes that are loaded into a guest.
use Rattle.std.{proofs.{Common.{◌≡◌, ◌⊎◌, inl, inr, ℕ, zero, suc, ◌^◌, true, false, List, [], ◌∷◌, ◌++◌, length, Some, None, Option, Ok, Err, refl, sym, ap, ◌∙◌, append_assoc, append-nil, arith}, lemmas.{Bool.{eqb-true, ltb-true}, Option.same_Some}}, specs.Prelude.{flat_map, IsTrue}}
use Rattle.lists.{specs.Elements.Each, proofs.Tests.{left_true, right_true}}
use Rattle.model_registers.specs.{Registers.File, ConfigAddress.latched, EndpointTable.endpoint_reset, Decoding.Function}
use Rattle.model_guests.specs.{Slots.Slots, Lone.LoneGuest}
use Rattle.model_images.{specs.{Images.{SavedFunction, Image, image_of_lone, fit_cells, Fits, FitsSlot, FitSlots}, FitLaws.HoldsFitting, Layouts.{Layout, le_bytes, number, fit_times, optional}, ImageBytes.{endpoint_layout, function_layout, declaration_bytes, image_bytes}, ByteLaws.{IsLayout, HasBytes, HoldsSavable, IsSavableGuest}, LoadedBytes.{Left, then_read, after_version, after_beginning, after_bytes, after_values, after_slot, after_slots, after_number, after_latch, after_image, fault_of, load_fault}, LoadedLaws.{AlikeAccepted, ImagesDecided, IsOfOthers}, TakenBytes.{HoldsDeclared, IsDeclaredGuest}}, proofs.{Fitting.saved_slots, Numbers.number_again, ImageLayouts.endpoint_is, ImageBytes.{read_are_bytes, parts_of, FunctionParts, function_parts, slot_fits}, Savable.{endpoint_fits, lawful_guest_has_encoding}}}

-- ---- bytes that are compared

-- the same, another byte, or too few
pub record Follows (k : ℕ) (xs bytes rest : List ℕ) : Type 0 where
  pub left : after_bytes k xs bytes ≡ Ok rest
  pub are : bytes ≡ xs ++ rest

pub record FallsShort (xs bytes : List ℕ) : Type 0 where
  pub next : ℕ
  pub rest : List ℕ
  pub are : xs ≡ bytes ++ next ∷ rest

pub compared : (k : ℕ) (xs bytes : List ℕ) → ((rest : List ℕ) × Follows k xs bytes rest) ⊎ ((after_bytes k xs bytes ≡ Err k) ⊎ FallsShort xs bytes)
compared k [] bytes = inl (bytes, record { left = refl; are = refl })
compared k (x ∷ xs) [] = inr (inr (record { next = x; rest = xs; are = refl }))
compared k (x ∷ xs) (b ∷ bytes) = grind (arith, eqb-true, compared k xs bytes)

-- one after the other
pub after_both : (k : ℕ) (xs ys bytes : List ℕ) → after_bytes k (xs ++ ys) bytes ≡ then_read (after_bytes k ys) (after_bytes k xs bytes)
after_both k [] ys bytes = refl
after_both k (x ∷ xs) ys [] = refl
after_both k (x ∷ xs) ys (b ∷ bytes) = grind (arith, after_both k xs ys bytes)

pub read_before : (next : List ℕ → Left) (r : Left) (rest : List ℕ) → then_read next r ≡ Ok rest → (bytes : List ℕ) × (r ≡ Ok bytes) × (next bytes ≡ Ok rest)
read_before next r rest h = grind arith

pub same_left : (xs ys : List ℕ) → ◌≡◌ {A = Left} (Ok xs) (Ok ys) → xs ≡ ys
same_left xs ys e = cc

-- no other bytes are left after the same ones
pub follows : (k : ℕ) (xs bytes rest : List ℕ) → after_bytes k xs bytes ≡ Ok rest → bytes ≡ xs ++ rest
follows k [] bytes rest h = same_left bytes rest h
follows k (x ∷ xs) [] rest h = cc
follows k (x ∷ xs) (b ∷ bytes) rest h = grind (arith, follows k xs bytes rest, eqb-true)

pub own_bytes : (k : ℕ) (xs rest : List ℕ) → after_bytes k xs (xs ++ rest) ≡ Ok rest
own_bytes k [] rest = refl
own_bytes k (x ∷ xs) rest = grind (arith, own_bytes k xs rest)

-- what is read begins so, and what begins so is read
pub begun : (m v : ℕ) (bytes rest : List ℕ) → after_beginning m v bytes ≡ Ok rest → bytes ≡ (le_bytes 4 m ++ le_bytes 4 v) ++ rest
begun m v bytes rest h = grind (arith, read_before, follows)

pub own_beginning : (m v : ℕ) (rest : List ℕ) → after_beginning m v ((le_bytes 4 m ++ le_bytes 4 v) ++ rest) ≡ Ok rest
own_beginning m v rest = ap (then_read (after_version v)) (own_bytes 905 (le_bytes 4 m) (le_bytes 4 v ++ rest)) ∙ own_bytes 908 (le_bytes 4 v) rest

none_left : (xs ys : List ℕ) (y : ℕ) → [] ≡ xs ++ y ∷ ys → ⊥
none_left [] ys y h = cc
none_left (x ∷ xs) ys y h = cc

-- of two values that have bytes, those of one don't go on as those of the other
pub prefix_decided : {A : Type 0} (L : Layout A) → IsLayout L → (x y : A) → IsTrue (L.fits x) → IsTrue (L.fits y) → (k : ℕ) (rest : List ℕ) → (x ≡ y) ⊎ (after_bytes k (L.bytes y) (L.bytes x ++ rest) ≡ Err k)
prefix_decided {A} L l x y fits too k rest =
    grind (arith, compared k (L.bytes y) (L.bytes x ++ rest), same_Some, none_left rest, append-nil (L.bytes y), append_assoc (L.bytes x) rest)

-- ---- values

pub value_bytes : (n : ℕ) (vs : List ℕ) → fit_times (number 1).fits n vs ≡ true → flat_map (number 1).bytes vs ≡ vs
value_bytes n [] h = refl
value_bytes zero (v ∷ vs) h = cc
value_bytes (suc n) (v ∷ vs) h = grind (arith, ltb-true, left_true, right_true, value_bytes n vs (right_true ((number 1).fits v) (fit_times (number 1).fits n vs) h))

pub values_taken : (file : File) (vs rest : List ℕ) → fit_cells file vs ≡ true → after_values file (vs ++ rest) ≡ Ok rest
values_taken [] [] rest h = refl
values_taken (e ∷ es) (v ∷ vs) rest h = grind (arith, values_taken es vs rest)
values_taken file vs rest h = cc

-- ---- a slot

abbrev pub slot_bytes : Option SavedFunction → List ℕ
slot_bytes s = (optional function_layout).bytes s

pub function_bytes : (s : SavedFunction) (rest : List ℕ) → FunctionParts s → slot_bytes (Some s) ++ rest ≡ 1 ∷ (declaration_bytes s.decl ++ (s.values ++ rest))
function_bytes s rest parts =
    ap (λ (xs : List ℕ). (1 ∷ xs) ++ rest) (append-nil (function_layout.bytes s) ∙ ap (λ (vs : List ℕ). declaration_bytes s.decl ++ vs) (value_bytes (length (endpoint_reset s.decl false)) s.values parts.count))
    ∙ ap (λ (xs : List ℕ). 1 ∷ xs) (append_assoc (declaration_bytes s.decl) s.values rest)

-- what doesn't fit is refused as another's
slot_decided : (s : Option SavedFunction) (f : Option Function) (rest : List ℕ) → (optional function_layout).fits s ≡ true → HoldsDeclared f → FitsSlot s f ⊎ (after_slot f (slot_bytes s ++ rest) ≡ Err 906)
slot_decided None None rest h k = inl tt
slot_decided None (Some f) rest h k = inr refl
slot_decided (Some s) None rest h k = inr refl
slot_decided (Some s) (Some f) rest h k = grind (arith, prefix_decided endpoint_layout endpoint_is s.decl f.decl, endpoint_is, endpoint_fits f.decl k, function_parts s (slot_fits s h), slot_fits s h, function_bytes s rest)

-- slots that fit are taken, whatever follows
pub fitting_slot : (s : Option SavedFunction) (f : Option Function) (rest : List ℕ) → (optional function_layout).fits s ≡ true → FitsSlot s f → after_slot f (slot_bytes s ++ rest) ≡ Ok rest
fitting_slot None None rest h k = refl
fitting_slot (Some s) (Some f) rest h k =
    ap (after_slot (Some f)) (function_bytes s rest (function_parts s (slot_fits s h)))
    ∙ ap (λ d. then_read (after_values (endpoint_reset d false)) (after_bytes 906 (declaration_bytes d) (declaration_bytes s.decl ++ (s.values ++ rest)))) (sym k.decl)
    ∙ ap (then_read (after_values (endpoint_reset s.decl false))) (own_bytes 906 (declaration_bytes s.decl) (s.values ++ rest))
    ∙ values_taken (endpoint_reset s.decl false) s.values rest k.values
fitting_slot s f rest h k = absurd k

-- ---- slots

abbrev pub slots_bytes : List (Option SavedFunction) → List ℕ
slots_bytes ss = flat_map slot_bytes ss

slots_decided : (n : ℕ) (ss : List (Option SavedFunction)) (fs : Slots) → fit_times (optional function_layout).fits n ss ≡ true → length fs ≡ n → Each HoldsDeclared fs
    → FitSlots ss fs ⊎ (after_slots fs (slots_bytes ss) ≡ Err 906)
slots_decided n [] [] h count all = inl tt
slots_decided (suc n) (s ∷ ss) (f ∷ fs) h count all = grind (arith, slot_decided, left_true, right_true, fitting_slot, slots_decided n ss fs)
slots_decided n ss fs h count all = grind arith

fitting_slots : (n : ℕ) (ss : List (Option SavedFunction)) (fs : Slots) → fit_times (optional function_layout).fits n ss ≡ true → FitSlots ss fs → after_slots fs (slots_bytes ss) ≡ Ok []
fitting_slots n [] [] h k = refl
fitting_slots (suc n) (s ∷ ss) (f ∷ fs) h k = grind (arith, fitting_slot, left_true, right_true, fitting_slots n ss fs)
fitting_slots n ss fs h k = grind arith

-- ---- an image

pub latch_taken : (n : ℕ) (rest : List ℕ) → (number 4).fits n ≡ true → latched n ≡ n → after_latch (le_bytes 4 n ++ rest) ≡ Ok rest
latch_taken n rest fits same = ap after_number (number_again 4 n rest (ltb-true n (256 ^ 4) fits)) ∙ grind arith

pub fitting_accepted : (g : LoneGuest) (i : Image) → HasBytes i → Fits i g → load_fault g (image_bytes i) ≡ None
fitting_accepted g i has fits =
    let parts = parts_of i has in
    ap fault_of (ap (then_read (after_slots g.slots)) (latch_taken i.latch (slots_bytes i.slots) parts.latch_fits parts.latched) ∙ fitting_slots 32 i.slots g.slots parts.slots fits.slots)

-- what doesn't fit is refused as another guest's
image_decided : (g : LoneGuest) → IsDeclaredGuest g → (i : Image) → HasBytes i → Fits i g ⊎ (after_image g (image_bytes i) ≡ Err 906)
image_decided g declared i has = grind (arith, slots_decided 32 i.slots g.slots, parts_of i has, latch_taken i.latch (slots_bytes i.slots))

savable_declared : (fs : Slots) → Each HoldsSavable fs → Each HoldsDeclared fs
savable_declared [] h = tt
savable_declared (f ∷ fs) h = grind (arith, savable_declared fs)

pub savable_is_declared : (g : LoneGuest) → IsSavableGuest g → IsDeclaredGuest g
savable_is_declared g h = record { count = h.count; functions = savable_declared g.slots h.functions }

pub images_decided : ImagesDecided
images_decided g savable bytes i h = of (image_decided g (savable_is_declared g savable) i spelled.1)
  where
    spelled : (bytes ≡ image_bytes i) × HasBytes i
    spelled = read_are_bytes bytes i h

    accepted : Fits i g → load_fault g bytes ≡ None
    accepted k = ap (load_fault g) spelled.0 ∙ fitting_accepted g i spelled.1 k

    of : Fits i g ⊎ (after_image g (image_bytes i) ≡ Err 906) → ((load_fault g bytes ≡ None) × Fits i g) ⊎ IsOfOthers g bytes i
    of (inl fits) = inl (accepted fits, fits)
    of (inr m) =
        let refused : load_fault g bytes ≡ Some 906 = ap fault_of (ap (after_image g) spelled.0 ∙ m) in
        inr (record { refused = refused; not_fitting = λ k. let none = accepted k in cc })

pub savable_fits : (fs : Slots) → Each HoldsSavable fs → Each HoldsFitting fs
savable_fits [] h = tt
savable_fits (f ∷ fs) h = grind (arith, savable_fits fs)

pub taken_by_all : AlikeAccepted
taken_by_all g savable other same =
    fitting_accepted other (image_of_lone g) (lawful_guest_has_encoding g savable) (record { latch = savable.latch; slots = saved_slots g.slots other.slots (savable_fits g.slots savable.functions) same })
