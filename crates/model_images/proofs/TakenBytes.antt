-- What bytes are that a guest takes, slot by slot; and the world after it.
use Rattle.std.{proofs.{Common.{◌≡◌, ℕ, zero, suc, ◌/◌, ◌^◌, ◌<◌, ◌≤◌, Bool, true, false, cond, List, [], ◌∷◌, ◌++◌, length, Some, None, Option, Ok, Err, refl, sym, ap, ap₂, ◌∙◌, subst, append_assoc, append-nil, arith, length-append}, Math.{Nat.pow-suc, Seq.{drop-append_seam, take-append_seam}}, lemmas.Bool.{and_from, eq-eqb, eqb-true, lt-ltb, ltb-true}}, specs.{Prelude.{take, drop, is_some}, Option.option_map_or}}
use Rattle.lists.{specs.Elements.Each, proofs.{EachLemmas.{each_map, each_parts}}}
use Rattle.model_registers.specs.{Registers.File, ConfigAddress.latched, EndpointTable.endpoint_reset, Decoding.Function}
use Rattle.model_guests.specs.{Slots.Slots, Lone.LoneGuest, Guests.lone_of, Text.Text, WorldNow.WorldNow}
use Rattle.model_images.{specs.{Images.{SavedFunction, Image, image_of_guest, after_load, can_hold, fit_cells, Fits, FitsSlot, FitSlots}, Layouts.{Parsed, parsed, le_bytes, number, fit_times, optional}, ImageBytes.{magic, version, function_layout, declaration_bytes, image_bytes, image_of}, ByteLaws.{AreBytes, HasBytes, IsDeclared}, LoadedBytes.{then_read, after_beginning, after_bytes, after_values, after_slot, after_slots, after_number, after_latch, header, after_image, load_fault, after_load_bytes}, LoadedLaws.{AcceptedIsImage, LoadsImage, RefusedStays, KeepsSavedBytes}, TakenBytes.{le_number, values_begin, slot_size, taken_slot, taken_slots, taken_image, SlotsAreTaken, ImageIsTaken, HoldsDeclared, AcceptedIsTaken}}, proofs.{Loading.keeps_what_was_saved, Numbers.{number_again, number_spells}, ImageBytes.{bytes_are_read, FunctionParts, parts_fit}, Savable.{times_fit, endpoint_fits, lawful_guest_has_encoding}, LoadedBytes.{begun, own_beginning, read_before, same_left, follows, function_bytes, slot_bytes, slots_bytes, savable_is_declared, taken_by_all}}}

-- ---- values

record AreValues (file : File) (bytes rest : List ℕ) : Type 0 where
  values : List ℕ
  are : bytes ≡ values ++ rest
  count : length values ≡ length file
  fit : fit_cells file values ≡ true

values_there : (file : File) (bytes rest : List ℕ) → after_values file bytes ≡ Ok rest → AreValues file bytes rest
values_there [] bytes rest h = record { values = []; are = same_left bytes rest h; count = refl; fit = refl }
values_there (e ∷ es) [] rest h = cc
values_there (e ∷ es) (b ∷ bytes) rest h = cases (can_hold e b) refl h (values_there es bytes rest)
  where
    cases : (t : Bool) → can_hold e b ≡ t → cond t (after_values es bytes) (Err 905) ≡ Ok rest → (after_values es bytes ≡ Ok rest → AreValues es bytes rest) → AreValues (e ∷ es) (b ∷ bytes) rest
    cases false i j later = cc
    cases true i j later =
        let v = later j in
        record { values = b ∷ v.values; are = ap (λ (xs : List ℕ). b ∷ xs) v.are; count = ap suc v.count; fit = and_from (can_hold e b) (fit_cells es v.values) i v.fit }

-- ---- a slot

values_between : (tagged values rest : List ℕ) (m n : ℕ) → m ≡ length tagged → length values ≡ n → take n (drop m (tagged ++ (values ++ rest))) ≡ values
values_between tagged values rest m n begin count = grind (arith, drop-append_seam, take-append_seam)

-- the bytes of a slot, whatever follows: what is taken of them, and that they are its bytes where it can be written
pub record IsTaken (f : Option Function) (bytes rest : List ℕ) : Type 0 where
  pub one : List ℕ
  pub are : bytes ≡ one ++ rest
  pub size : length one ≡ slot_size f
  pub fits : FitsSlot (taken_slot f bytes) f
  pub spelled : AreBytes bytes → HoldsDeclared f → (one ≡ slot_bytes (taken_slot f bytes)) × ((optional function_layout).fits (taken_slot f bytes) ≡ true)

pub left_of : {f : Option Function} {bytes rest : List ℕ} → IsTaken f bytes rest → drop (slot_size f) bytes ≡ rest
left_of {f} {bytes} {rest} t = ap (drop (slot_size f)) t.are ∙ ap (λ n. drop n (t.one ++ rest)) (sym t.size) ∙ drop-append_seam t.one rest

module _ (f : Function) (values : List ℕ) (count : length values ≡ length (endpoint_reset f.decl false)) (fit : fit_cells (endpoint_reset f.decl false) values ≡ true) where
  abbrev tagged : List ℕ
  tagged = 1 ∷ declaration_bytes f.decl

  abbrev s : SavedFunction
  s = record { decl = f.decl; values = values }

  is : (rest : List ℕ) → taken_slot (Some f) ((tagged ++ values) ++ rest) ≡ Some s
  is rest =
      subst (λ (bs : List ℕ). taken_slot (Some f) bs ≡ Some s) (sym (append_assoc tagged values rest))
      (ap (λ (vs : List ℕ). Some (record { decl = f.decl; values = vs })) (values_between tagged values rest (values_begin f.decl) (length (endpoint_reset f.decl false)) (omega arith) count))

  parts : AreBytes values → IsDeclared f.decl → FunctionParts s
  parts all declared = record {
    decl = endpoint_fits f.decl declared;
    count = subst (λ n. fit_times (number 1).fits n values ≡ true) count
        (times_fit (number 1).fits values (each_map (λ b. b < 256) (λ b. (number 1).fits b ≡ true) values (λ b k. lt-ltb b 256 k) all));
    values = fit;
  }

  function_taken : (rest : List ℕ) → IsTaken (Some f) ((tagged ++ values) ++ rest) rest
  function_taken rest = record {
    one = tagged ++ values;
    are = refl;
    size = let a = length-append tagged values in omega (arith, a, count);
    fits = subst (λ (o : Option SavedFunction). FitsSlot o (Some f)) (sym (is rest)) (record { decl = refl; values = fit });
    spelled = λ all declared.
        let p = parts (each_parts (λ b. b < 256) tagged values (each_parts (λ b. b < 256) (tagged ++ values) rest all).0).1 declared in
        let its = function_bytes s [] p in grind (arith, slot_bytes, is rest, append-nil (slot_bytes (Some s)), slot_bytes (Some s), append-nil values, parts_fit s p);
  }

pub taken : (f : Option Function) (bytes rest : List ℕ) → after_slot f bytes ≡ Ok rest → IsTaken f bytes rest
taken None bytes rest h =
    subst (λ (xs : List ℕ). IsTaken None xs rest) (sym (follows 906 (0 ∷ []) bytes rest h))
    (record { one = 0 ∷ []; are = refl; size = refl; fits = tt; spelled = λ all declared. (refl, refl) })
taken (Some f) bytes rest h =
    let tagged : List ℕ = 1 ∷ declaration_bytes f.decl in
    let first = read_before (after_values (endpoint_reset f.decl false)) (after_bytes 906 tagged bytes) rest h in
    let v = values_there (endpoint_reset f.decl false) first.0 rest first.2 in
    let are = follows 906 tagged bytes first.0 first.1 ∙ ap (λ (xs : List ℕ). tagged ++ xs) v.are ∙ sym (append_assoc tagged v.values rest) in
    subst (λ (xs : List ℕ). IsTaken (Some f) xs rest) (sym are) (function_taken f v.values v.count v.fit rest)

pub slots_are_taken : SlotsAreTaken
slots_are_taken f fs bytes rest h =
    let first = read_before (after_slots fs) (after_slot f bytes) rest h in
    let t = taken f bytes first.0 first.1 in
    let enough : slot_size f ≤ length bytes = subst (λ (xs : List ℕ). slot_size f ≤ length xs) (sym t.are) (let a = length-append t.one first.0 in let b = t.size in omega (arith, a, b)) in
    record { slot = first.1 ∙ ap (λ (xs : List ℕ). Ok xs) (sym (left_of t)); enough = enough; fits = t.fits; others = ap (after_slots fs) (left_of t) ∙ first.2 }

-- the bytes of slots
pub record AreTaken (fs : Slots) (bytes : List ℕ) : Type 0 where
  pub fit : FitSlots (taken_slots fs bytes) fs
  pub spelled : AreBytes bytes → Each HoldsDeclared fs → (bytes ≡ slots_bytes (taken_slots fs bytes)) × (fit_times (optional function_layout).fits (length fs) (taken_slots fs bytes) ≡ true)

slots_taken : (fs : Slots) (bytes : List ℕ) → after_slots fs bytes ≡ Ok [] → AreTaken fs bytes
slots_taken [] [] h = record { fit = tt; spelled = λ all declared. (refl, refl) }
slots_taken [] (b ∷ bytes) h = cc
slots_taken (f ∷ fs) bytes h =
    let first = read_before (after_slots fs) (after_slot f bytes) [] h in
    let t = taken f bytes first.0 first.1 in
    let m = slots_taken fs first.0 first.2 in
    let slot = taken_slot f bytes in
    let next : taken_slots fs first.0 ≡ taken_slots fs (drop (slot_size f) bytes) = ap (taken_slots fs) (sym (left_of t)) in
    record {
      fit = (t.fits, subst (λ (xs : List (Option SavedFunction)). FitSlots xs fs) next m.fit);
      spelled = λ all declared.
          let one = t.spelled all declared.0 in
          let more = m.spelled (each_parts (λ b. b < 256) t.one first.0 (subst AreBytes t.are all)).1 declared.1 in
          subst (λ (xs : List (Option SavedFunction)). (bytes ≡ slots_bytes (slot ∷ xs)) × (fit_times (optional function_layout).fits (suc (length fs)) (slot ∷ xs) ≡ true)) next
          (t.are ∙ ap₂ (λ (xs ys : List ℕ). xs ++ ys) one.0 more.0, and_from ((optional function_layout).fits slot) (fit_times (optional function_layout).fits (length fs) (taken_slots fs first.0)) one.1 more.1);
    }

-- ---- an image

number_back : (k n : ℕ) (rest : List ℕ) → n < 256 ^ k → le_number (take k (le_bytes k n ++ rest)) ≡ n
number_back zero n rest h = omega arith
number_back (suc k) n rest h = grind (arith, pow-suc, number_back k (n / 256) rest)

number_left : (o : Option (Parsed ℕ)) (rest : List ℕ) → after_number o ≡ Ok rest → (n : ℕ) × (o ≡ Some (parsed n rest)) × (latched n ≡ n)
number_left o rest h = grind (arith, eqb-true)

pub latch_there : (bytes rest : List ℕ) → after_latch bytes ≡ Ok rest → (n : ℕ) × (bytes ≡ le_bytes 4 n ++ rest) × ((number 4).fits n ≡ true) × (latched n ≡ n)
latch_there bytes rest h = grind (arith, number_left, number_spells)

-- the parts of an image
pub record IsOpened (g : LoneGuest) (bytes : List ℕ) : Type 0 where
  pub latch : ℕ
  pub last : List ℕ
  pub are : bytes ≡ header ++ (le_bytes 4 latch ++ last)
  pub fits : (number 4).fits latch ≡ true
  pub latched : latched latch ≡ latch
  pub left : after_slots g.slots last ≡ Ok []
  pub slots : AreTaken g.slots last
  pub is : taken_image g bytes ≡ record { latch = latch; slots = taken_slots g.slots last }

none_left : (g : LoneGuest) (bytes : List ℕ) → load_fault g bytes ≡ None → (rest : List ℕ) × (after_image g bytes ≡ Ok rest)
none_left g bytes h = grind arith

nothing_left : (fs : Slots) (bytes rest : List ℕ) → after_slots fs bytes ≡ Ok rest → rest ≡ []
nothing_left [] [] rest h = sym (same_left [] rest h)
nothing_left [] (b ∷ bytes) rest h = cc
nothing_left (f ∷ fs) bytes rest h = let first = read_before (after_slots fs) (after_slot f bytes) rest h in nothing_left fs first.0 rest first.2

opened : (g : LoneGuest) (bytes : List ℕ) → load_fault g bytes ≡ None → IsOpened g bytes
opened g bytes h =
    let left = none_left g bytes h in
    let first = read_before (after_slots g.slots) (then_read after_latch (after_beginning magic version bytes)) left.0 left.1 in
    let begin = read_before after_latch (after_beginning magic version bytes) first.0 first.1 in
    let ends : after_slots g.slots first.0 ≡ Ok [] = first.2 ∙ ap (λ (xs : List ℕ). Ok xs) (nothing_left g.slots first.0 left.0 first.2) in
    grind (arith, latch_there begin.0 first.0 begin.2, begun magic version bytes begin.0 begin.1, slots_taken g.slots first.0 ends, is, number_back 4, ltb-true)

pub image_is_taken : ImageIsTaken
image_is_taken g bytes h = let o = opened g bytes h in grind (arith, number_back 4, ltb-true, own_beginning magic version, number_again 4)

pub accepted_is_taken : AcceptedIsTaken
accepted_is_taken g declared bytes all h =
    let s = spelled in
    record { image = ap image_of s.0 ∙ bytes_are_read (taken_image g bytes) s.1; fits = fits }
  where
    o : IsOpened g bytes
    o = opened g bytes h

    fits : Fits (taken_image g bytes) g
    fits = subst (λ (i : Image). Fits i g) (sym o.is) (record { latch = o.latched; slots = o.slots.fit })

    spelled : (bytes ≡ image_bytes (taken_image g bytes)) × HasBytes (taken_image g bytes)
    spelled = grind (arith, o, each_parts, and_from, eq-eqb)

-- ---- a guest that can be saved

pub accepted_is_image : AcceptedIsImage
accepted_is_image g savable bytes all h = (taken_image g bytes, accepted_is_taken g (savable_is_declared g savable) bytes all h)

-- ---- in a world

pub taken_now : (w : WorldNow) (name : Text) (bytes : List ℕ) (i : Image) → load_fault (lone_of w.guests name) bytes ≡ None → image_of bytes ≡ Some i → after_load_bytes name bytes w ≡ after_load name i w
taken_now w name bytes i none is = grind arith

pub loads_image : LoadsImage
loads_image w name savable bytes all none = grind (arith, accepted_is_image, taken_now)

pub refused_stays : RefusedStays
refused_stays w name bytes k some = ap (λ (o : Option ℕ). cond (is_some o) w (option_map_or (λ (x : Image). after_load name x w) (image_of bytes) w)) some

pub keeps_saved_bytes : KeepsSavedBytes
keeps_saved_bytes b w seated name savable =
    let i = image_of_guest name w in
    taken_now w name (image_bytes i) i (taken_by_all (lone_of w.guests name) savable (lone_of w.guests name) refl) (bytes_are_read i (lawful_guest_has_encoding (lone_of w.guests name) savable))
    ∙ keeps_what_was_saved b w seated name
