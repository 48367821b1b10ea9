-- A guest by its name, after a change of one guest.
use Rattle.std.{proofs.Common.{◌≡◌, ℕ, zero, suc, false, cond, List, [], ◌∷◌, Some, None, Option, refl, arith}, specs.{Prelude.{map, replicate, slice_get, unwrap_or, option_map, option_and_then, IsFalse}, Str.bytes_eq}}
use Rattle.lists.specs.Elements.{Each}
use Rattle.model_registers.specs.Decoding.{Function}
use Rattle.model_board.specs.Paths.{Path}
use Rattle.model_guests.{specs.{Slots.{reset_function, slot_at}, Text.Text, Guests.{GuestNow, GuestsNow, function_in, guest_named, with_guest}}, proofs.Names.equal_texts}

abbrev pub path_at : List (Option Path) → ℕ → Option Path
path_at qs n = unwrap_or (slice_get qs n) None

abbrev pub Keeps : (GuestNow → GuestNow) → Type 0
Keeps g = (t : GuestNow) → (g t).name ≡ t.name

abbrev pub one : (GuestNow → GuestNow) → Text → GuestNow → GuestNow
one g n t = cond (bytes_eq n t.name) (g t) t

pub one_name : (g : GuestNow → GuestNow) → Keeps g → (n : Text) (t : GuestNow) → (one g n t).name ≡ t.name
one_name g keeps n t = grind arith

pub named_with : (g : GuestNow → GuestNow) → Keeps g → (n name : Text) (s : GuestsNow) → guest_named (with_guest g n s) name ≡ option_map (one g n) (guest_named s name)
named_with g keeps n name [] = refl
named_with g keeps n name (t ∷ ts) = grind (arith, one_name, named_with g keeps n name ts)

-- the guest that is found has the name, and what all have
pub record Found (P : GuestNow → Type 0) (name : Text) (t : GuestNow) : Type 0 where
  pub name_is : t.name ≡ name
  pub has : P t

pub found : (P : GuestNow → Type 0) (s : GuestsNow) (name : Text) (t : GuestNow) → Each P s → guest_named s name ≡ Some t → Found P name t
found P [] name t all at = cc
found P (u ∷ us) name t all at = grind (arith, found P us name t, equal_texts)

-- no function is anywhere in a guest that is not there
none_at : (k n : ℕ) → slot_at (map reset_function (replicate k None)) n ≡ None
none_at zero n = refl
none_at (suc k) zero = refl
none_at (suc k) (suc n) = none_at k n

abbrev pub path_of : Option GuestNow → ℕ → Option Path
path_of o n = option_and_then (λ (t : GuestNow). path_at t.paths n) o

abbrev pub function_of : Option GuestNow → ℕ → Option Function
function_of o n = option_and_then (λ (t : GuestNow). slot_at t.lone.slots n) o

pub function_named : (s : GuestsNow) (name : Text) (n : ℕ) → function_in s name n ≡ function_of (guest_named s name) n
function_named s name n = grind (arith, none_at 32 n)

-- a guest of the rest is found past the first
pub past_first : (t : GuestNow) (ts : GuestsNow) (name : Text) (u : GuestNow) → Each (λ (v : GuestNow). IsFalse (bytes_eq t.name v.name)) ts → guest_named ts name ≡ Some u → bytes_eq t.name name ≡ false
past_first t ts name u apart at = grind (arith, found)
