-- Slots that take their values from bytes, one after the other.
--     loaded_to n fs bytes, rest_at n fs bytes      slots of which those below n took them, and the bytes after these
--     one_more, next_rest, all_loaded      one slot more, the bytes after it, and all slots
--     can_load      each slot can take what stands there
--     reset_twice, reset_takes, reset_taken      a guest at reset takes the same bytes, and the same of them
--     latch_there      a latch that is read where one stands
use Rattle.std.{proofs.{Common.{◌≡◌, ◌<◌, ℕ, Bool, cond, zero, suc, List, [], ◌∷◌, length, take, drop, Some, None, Option, Ok, Err, slice_set, refl, ap, ap₂, ◌∙◌, arith}, lemmas.Bool.eq-eqb}, specs.Prelude.{map, option_map}}
use Rattle.model_registers.specs.{Decoding.Function, ConfigAddress.latched}
use Rattle.model_guests.specs.{Slots.{Slots, slot_at}, Lone.LoneGuest}
use Rattle.model_images.specs.{Images.{restored, function_at_reset, FitsSlot}, Layouts.{parsed, parse_number}, ByteLaws.AreBytes, LoadedBytes.{Left, after_latch, after_number, after_slot, after_slots, then_read}, TakenBytes.{SlotsAreTaken, slot_size, taken_slot, taken_slots}}
use Rattle.monitor.specs.Loads.{AreLoadable, CanLoad, slot_loaded}

-- ---- slot after slot

abbrev pub loaded_to : ℕ → Slots → List ℕ → Slots
loaded_to zero fs bytes = fs
loaded_to (suc n) [] bytes = []
loaded_to (suc n) (f ∷ fs) bytes = option_map restored (taken_slot f bytes) ∷ loaded_to n fs (drop (slot_size f) bytes)

abbrev pub rest_at : ℕ → Slots → List ℕ → List ℕ
rest_at zero fs bytes = bytes
rest_at (suc n) [] bytes = rest_at n [] (drop 1 bytes)
rest_at (suc n) (f ∷ fs) bytes = rest_at n fs (drop (slot_size f) bytes)

pub all_loaded : (fs : Slots) (bytes : List ℕ) → loaded_to (length fs) fs bytes ≡ map (option_map restored) (taken_slots fs bytes)
all_loaded [] bytes = refl
all_loaded (f ∷ fs) bytes = ap (λ (xs : Slots). option_map restored (taken_slot f bytes) ∷ xs) (all_loaded fs (drop (slot_size f) bytes))

pub still_there : (n : ℕ) (fs : Slots) (bytes : List ℕ) → slot_at (loaded_to n fs bytes) n ≡ slot_at fs n
still_there zero fs bytes = refl
still_there (suc n) [] bytes = refl
still_there (suc n) (f ∷ fs) bytes = still_there n fs (drop (slot_size f) bytes)

one_set : (n : ℕ) (fs : Slots) (bytes : List ℕ) → slice_set (loaded_to n fs bytes) n (option_map restored (taken_slot (slot_at fs n) (rest_at n fs bytes))) ≡ loaded_to (suc n) fs bytes
one_set zero [] bytes = refl
one_set zero (f ∷ fs) bytes = refl
one_set (suc n) [] bytes = refl
one_set (suc n) (f ∷ fs) bytes = ap (λ (xs : Slots). option_map restored (taken_slot f bytes) ∷ xs) (one_set n fs (drop (slot_size f) bytes))

pub next_rest : (n : ℕ) (fs : Slots) (bytes : List ℕ) → drop (slot_size (slot_at fs n)) (rest_at n fs bytes) ≡ rest_at (suc n) fs bytes
next_rest zero [] bytes = refl
next_rest zero (f ∷ fs) bytes = refl
next_rest (suc n) [] bytes = next_rest n [] (drop 1 bytes)
next_rest (suc n) (f ∷ fs) bytes = next_rest n fs (drop (slot_size f) bytes)

abbrev pub loaded_lone : ℕ → List ℕ → LoneGuest → LoneGuest
loaded_lone n bytes g = record g { slots = loaded_to n g.slots bytes }

pub one_more : (n : ℕ) (bytes : List ℕ) (g : LoneGuest) → slot_loaded n (rest_at n g.slots bytes) (loaded_lone n bytes g) ≡ loaded_lone (suc n) bytes g
one_more n bytes g = grind (arith, still_there, one_set)

-- ---- what stands there can be taken

pub bytes_after : (n : ℕ) (bytes : List ℕ) → AreBytes bytes → AreBytes (drop n bytes)
bytes_after zero bytes are = are
bytes_after (suc n) [] are = are
bytes_after (suc n) (b ∷ bytes) are = bytes_after n bytes are.1

pub bytes_before : (n : ℕ) (bytes : List ℕ) → AreBytes bytes → AreBytes (take n bytes)
bytes_before zero bytes are = tt
bytes_before (suc n) [] are = tt
bytes_before (suc n) (b ∷ bytes) are = (are.0, bytes_before n bytes are.1)

bytes_at : (n : ℕ) (fs : Slots) (bytes : List ℕ) → AreBytes bytes → AreBytes (rest_at n fs bytes)
bytes_at zero fs bytes are = are
bytes_at (suc n) [] bytes are = bytes_at n [] (drop 1 bytes) (bytes_after 1 bytes are)
bytes_at (suc n) (f ∷ fs) bytes are = bytes_at n fs (drop (slot_size f) bytes) (bytes_after (slot_size f) bytes are)

reset_at : (n : ℕ) (fs : Slots) → slot_at (map function_at_reset fs) n ≡ function_at_reset (slot_at fs n)
reset_at n [] = refl
reset_at zero (f ∷ fs) = refl
reset_at (suc n) (f ∷ fs) = reset_at n fs

fits_at : SlotsAreTaken → (n : ℕ) (fs : Slots) (bytes rest : List ℕ) → after_slots fs bytes ≡ Ok rest → n < length fs → FitsSlot (taken_slot (slot_at fs n) (rest_at n fs bytes)) (slot_at fs n)
fits_at law n [] bytes rest h within = absurd (omega arith)
fits_at law zero (f ∷ fs) bytes rest h within = (law f fs bytes rest h).fits
fits_at law (suc n) (f ∷ fs) bytes rest h within = fits_at law n fs (drop (slot_size f) bytes) rest (law f fs bytes rest h).others (omega (arith, within))

pub can_load : SlotsAreTaken → (n : ℕ) (fs : Slots) (bytes : List ℕ) → AreLoadable fs bytes → n < length fs → CanLoad (slot_at fs n) (rest_at n fs bytes)
can_load law n fs bytes are within = grind (arith, reset_at, fits_at, bytes_at)

-- ---- a guest at reset

reset_one : (f : Option Function) → function_at_reset f ≡ function_at_reset (function_at_reset f)
reset_one None = refl
reset_one (Some f) = refl

pub reset_twice : (fs : Slots) → map function_at_reset fs ≡ map function_at_reset (map function_at_reset fs)
reset_twice [] = refl
reset_twice (f ∷ fs) = ap₂ (λ (x : Option Function) (xs : Slots). x ∷ xs) (reset_one f) (reset_twice fs)

after_one : (f : Option Function) (bytes : List ℕ) → after_slot (function_at_reset f) bytes ≡ after_slot f bytes
after_one None bytes = refl
after_one (Some f) bytes = refl

after_others : (fs : Slots) (left : Left) → ((bytes : List ℕ) → after_slots (map function_at_reset fs) bytes ≡ after_slots fs bytes) → then_read (after_slots (map function_at_reset fs)) left ≡ then_read (after_slots fs) left
after_others fs (Ok bytes) same = same bytes
after_others fs (Err k) same = refl

pub reset_takes : (fs : Slots) (bytes : List ℕ) → after_slots (map function_at_reset fs) bytes ≡ after_slots fs bytes
reset_takes [] bytes = refl
reset_takes (f ∷ fs) bytes = ap (then_read (after_slots (map function_at_reset fs))) (after_one f bytes) ∙ after_others fs (after_slot f bytes) (reset_takes fs)

taken_one : (f : Option Function) (bytes : List ℕ) → taken_slot (function_at_reset f) bytes ≡ taken_slot f bytes
taken_one None bytes = refl
taken_one (Some f) bytes = refl

size_one : (f : Option Function) → slot_size (function_at_reset f) ≡ slot_size f
size_one None = refl
size_one (Some f) = refl

pub reset_taken : (fs : Slots) (bytes : List ℕ) → taken_slots (map function_at_reset fs) bytes ≡ taken_slots fs bytes
reset_taken [] bytes = refl
reset_taken (f ∷ fs) bytes = grind (arith, taken_one, size_one, reset_taken fs)

-- ---- the latch

pub latch_there : (bytes : List ℕ) (n : ℕ) (rest : List ℕ) → parse_number 4 bytes ≡ Some (parsed n rest) → latched n ≡ n → after_latch bytes ≡ Ok rest
latch_there bytes n rest read same = ap after_number read ∙ ap (λ (t : Bool). cond {A = Left} t (Ok rest) (Err 905)) (eq-eqb (latched n) n same)
