-- The offset at which bytes that a guest refuses stop fitting.
--     StopsAt g bytes n      including the byte at this offset, but not without it, they are refused as all of them are
--     OneStop      there is at most one such offset
--     stop_slot g bytes      the slot that contains it, or 32 if it is before the first slot
use Rattle.std.specs.Prelude.{List, [], ◌∷◌, ◌≡◌, ℕ, suc, Bool, true, false, ◌==◌, not, Option, Some, None, Ok, Err, take}
use Rattle.model_guests.specs.{Slots.Slots, Lone.LoneGuest}
use Rattle.model_images.specs.{ImageBytes.{magic, version}, LoadedBytes.{Left, then_read, after_beginning, after_latch, after_slot, load_fault}}

-- too few bytes are refused with 905, so bytes that are refused as a whole with 905 have no such offset
pub record StopsAt (g : LoneGuest) (bytes : List ℕ) (n : ℕ) : Type 0 where
  pub before : load_fault g (take n bytes) ≡ load_fault g bytes → ⊥
  pub there : load_fault g (take (suc n) bytes) ≡ load_fault g bytes

abbrev pub is_told : Option ℕ → Bool
is_told None = false
is_told (Some k) = not (k == 905)

abbrev pub OneStop : Type 0
OneStop = (g : LoneGuest) (bytes : List ℕ) (n m : ℕ) → is_told (load_fault g bytes) ≡ true → StopsAt g bytes n
    → StopsAt g bytes m → n ≡ m

-- ---- slots

abbrev pub one_more : (List ℕ → ℕ) → Left → ℕ
one_more next (Ok bytes) = suc (next bytes)
one_more next (Err k) = 0

-- how many slots are accepted, one after the other
abbrev pub slots_read : Slots → List ℕ → ℕ
slots_read [] bytes = 0
slots_read (f ∷ fs) bytes = one_more (slots_read fs) (after_slot f bytes)

abbrev pub in_slots : Slots → Left → ℕ
in_slots fs (Ok bytes) = slots_read fs bytes
in_slots fs (Err k) = 32

abbrev pub stop_slot : LoneGuest → List ℕ → ℕ
stop_slot g bytes = in_slots g.slots (then_read after_latch (after_beginning magic version bytes))
