-- One guest among all, by its name: where it stands, and what changes of it come to.
use Rattle.std.{proofs.Common.{◌≡◌, ℕ, Bool, true, false, cond, [], ◌∷◌, ◌++◌, Some, None, Option, refl, sym, ap, ◌∙◌, arith}, specs.{Prelude.{slice_get, slice_set, IsFalse, IsSome}, Option.option_map_or, Str.bytes_eq}}
use Rattle.lists.{specs.Elements.EachPair, proofs.{FirstFound.found_passes, Indices.{set_same, found_at}}}
use Rattle.model_registers.specs.Decoding.{Function}
use Rattle.model_board.specs.Paths.{Path}
use Rattle.model_guests.{specs.{Text.Text, Grammar.has_name, Lone.{LoneGuest, emptied, filled, reset_guest}, Guests.{GuestNow, GuestsNow, guest_named, handed_over, lone_of, Move, with_guest, with_slot_emptied, with_slot_filled}, WorldNow.names_of, Inputs.{after_inputs, gets, inputs_of_move, loses}}, proofs.{Names.{equal_texts, same_text}, Along.by_index, GuestsByName.{function_of, Keeps, one_name, named_with}}}

abbrev pub AreApart : GuestsNow → Type 0
AreApart gs = EachPair (λ (g h : GuestNow). IsFalse (bytes_eq g.name h.name)) gs

pub name_found : (gs : GuestsNow) (name : Text) (x : GuestNow) → guest_named gs name ≡ Some x → x.name ≡ name
name_found gs name x at = equal_texts x.name name (found_passes (λ (u : GuestNow). bytes_eq u.name name) gs x at)

pub lone_found : (gs : GuestsNow) (name : Text) (x : GuestNow) → guest_named gs name ≡ Some x → lone_of gs name ≡ x.lone
lone_found gs name x at = ap (λ (o : Option GuestNow). option_map_or (λ (g : GuestNow). g.lone) o (reset_guest [])) at

pub guest_of_function : (o : Option GuestNow) (n : ℕ) (f : Function) → function_of o n ≡ Some f → (x : GuestNow) × (o ≡ Some x)
guest_of_function o n f h = grind arith

module _ (gs : GuestsNow) (apart : AreApart gs) (name : Text) (x : GuestNow) (at : guest_named gs name ≡ Some x) where
  place : (i : ℕ) × (slice_get gs i ≡ Some x)
  place = (found_at (λ (u : GuestNow). bytes_eq u.name name) gs x at).1

  with_there : (f : GuestNow → GuestNow) → with_guest f name gs ≡ slice_set gs place.0 (f x)
  with_there f = ap (λ (t : Text). with_guest f t gs) (sym (name_found gs name x at)) ∙ (by_index gs apart place.0 x place.1).1 f

  -- two changes that do the same to this guest
  pub with_alike : (f g : GuestNow → GuestNow) → f x ≡ g x → with_guest f name gs ≡ with_guest g name gs
  with_alike f g same = with_there f ∙ ap (slice_set gs place.0) same ∙ sym (with_there g)

  -- a change that leaves this guest
  pub with_none : (f : GuestNow → GuestNow) → f x ≡ x → with_guest f name gs ≡ gs
  with_none f same = with_there f ∙ ap (slice_set gs place.0) same ∙ set_same gs place.0 x place.1

-- two changes of one guest, one after the other
pub with_twice : (f g : GuestNow → GuestNow) → Keeps g → (name : Text) (gs : GuestsNow) → with_guest f name (with_guest g name gs) ≡ with_guest (λ t. f (g t)) name gs
with_twice f g keeps name [] = refl
with_twice f g keeps name (t ∷ ts) = grind (arith, with_twice f g keeps name ts, one_name)

-- ---- what guests hold after a change of one

pub lone_own : (f : GuestNow → GuestNow) → Keeps f → (k : LoneGuest → LoneGuest) → ((t : GuestNow) → (f t).lone ≡ k t.lone) → (name : Text) (gs : GuestsNow) → IsSome (guest_named gs name)
    → lone_of (with_guest f name gs) name ≡ k (lone_of gs name)
lone_own f keeps k does name gs there = grind (arith, named_with, name_found, same_text)

pub lone_other : (f : GuestNow → GuestNow) → Keeps f → (name other : Text) (gs : GuestsNow) → bytes_eq name other ≡ false → lone_of (with_guest f name gs) other ≡ lone_of gs other
lone_other f keeps name other gs apart = grind (arith, named_with, name_found)

pub lone_by : (f : GuestNow → GuestNow) → Keeps f → (k : LoneGuest → LoneGuest) → ((t : GuestNow) → (f t).lone ≡ k t.lone) → (n name : Text) (gs : GuestsNow) → IsSome (guest_named gs name)
    → lone_of (with_guest f n gs) name ≡ cond (bytes_eq n name) (k (lone_of gs name)) (lone_of gs name)
lone_by f keeps k does n name gs there = grind (arith, equal_texts n name, lone_own f keeps k does name gs there, lone_other f keeps n name gs)

pub still : (f : GuestNow → GuestNow) → Keeps f → (n name : Text) (gs : GuestsNow) → IsSome (guest_named gs name) → IsSome (guest_named (with_guest f n gs) name)
still f keeps n name gs there = grind (arith, named_with)

pub named_there : (gs : GuestsNow) (name : Text) → has_name (names_of gs) name ≡ true → IsSome (guest_named gs name)
named_there [] name h = h
named_there (t ∷ ts) name h = grind (arith, named_there ts name)

-- ---- moves

pub touched : (name : Text) (m : Move) (p : Option Path) (o : Option Function) (gs : GuestsNow) → IsSome (guest_named gs name)
    → lone_of (handed_over m p o gs) name ≡ after_inputs (lone_of gs name) (inputs_of_move name m o)
touched name m p None gs there = refl
touched name m p (Some f) gs there =
    let mid : GuestsNow = with_guest (with_slot_emptied m.slot) m.from gs in
    lone_by (with_slot_filled m.target p f.decl) (λ t. refl) (filled m.target f.decl) (λ t. refl) m.to name mid (still (with_slot_emptied m.slot) (λ t. refl) m.from name gs there)
    ∙ ap (λ (g : LoneGuest). cond (bytes_eq m.to name) (filled m.target f.decl g) g) (lone_by (with_slot_emptied m.slot) (λ t. refl) (emptied m.slot) (λ t. refl) m.from name gs there)
    ∙ cases (bytes_eq m.from name) (bytes_eq m.to name)
  where
    cases : (u v : Bool) → cond v (filled m.target f.decl (cond u (emptied m.slot (lone_of gs name)) (lone_of gs name))) (cond u (emptied m.slot (lone_of gs name)) (lone_of gs name))
        ≡ after_inputs (lone_of gs name) (cond u (loses m.slot ∷ []) [] ++ cond v (gets m.target f.decl ∷ []) [])
    cases u v = grind arith
