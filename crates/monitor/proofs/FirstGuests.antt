-- Slots and guests, one after the other, as they are before any of them did anything.
use Rattle.std.{proofs.{Common.{◌≡◌, ◌≤◌, ◌+◌, ◌-◌, ℕ, zero, suc, List, [], ◌∷◌, ◌++◌, length, take, Option, Some, None, refl, sym, ap, ap₂, ◌∙◌, subst, rules, arith}, lemmas.List.{append-nil, append_assoc, map-append, length-map, take_all}}, specs.Prelude.{map, flat_map, replicate, slice_get, IsSome}}
use Rattle.lists.{specs.Elements.Each, proofs.EachLemmas.each_parts}
use Rattle.model_registers.specs.{Decoding.Function, Declarations.Endpoint}
use Rattle.model_board.specs.{Paths.Path, Board.Board, State.State}
use Rattle.model_guests.specs.{Text.Text, Slots.{Slots, reset_function}, World.{Guest as Declared, World, declared, HasLawfulGuests}, Guests.{GuestNow, GuestsNow, guest_at_first}}
use Rattle.host_bridge.specs.HostState.{HostState}
use Rattle.bridge_forward.proofs.RoutingRows.{take_at}
use Rattle.window_packing.specs.Readies.{board_below}
use Rattle.monitor.specs.{declared.guest.{AssignedFunction.AssignedFunction, Guest.Guest}, Keeping.{IsSlot, AreSlots, IsGuest, AreGuests}, Beginnings.AreSlotsAtFirst, Counts.counts_of}

-- ---- one more

module _ (now : State) where
  slots_push : (qs : List (Option Path)) (fs : Slots) (os : List (Option AssignedFunction)) (q : Option Path) (f : Option Function) (o : Option AssignedFunction) → AreSlots now qs fs os → IsSlot now q f o
      → AreSlots now (qs ++ q ∷ []) (fs ++ f ∷ []) (os ++ o ∷ [])
  slots_push [] [] [] q f o are is = (is, tt)
  slots_push (p ∷ qs) (g ∷ fs) (k ∷ os) q f o are is = (are.0, slots_push qs fs os q f o are.1 is)
  slots_push qs fs os q f o are is = absurd are

  guests_push : (ts : List Text) (ws : GuestsNow) (gs : List Guest) (t : Text) (w : GuestNow) (g : Guest) → AreGuests now ts ws gs → IsGuest now t w g
      → AreGuests now (ts ++ t ∷ []) (ws ++ w ∷ []) (gs ++ g ∷ [])
  guests_push [] [] [] t w g are is = (is, tt)
  guests_push (s ∷ ts) (v ∷ ws) (k ∷ gs) t w g are is = (are.0, guests_push ts ws gs t w g are.1 is)
  guests_push ts ws gs t w g are is = absurd are

pub map_push : {A B : Type 0} (f : A → B) (xs : List A) (i : ℕ) (x : A) → slice_get xs i ≡ Some x → map f (take (i + 1) xs) ≡ map f (take i xs) ++ f x ∷ []
map_push f xs i x at = ap (map f) (take_at xs i x at) ∙ map-append f (take i xs) (x ∷ [])

-- ---- slots

-- with k empty ones
abbrev pub AreSlotsWith : HostState → List Path → ℕ → List (Option AssignedFunction) → Type 0
AreSlotsWith h ps k os = AreSlots h.state (map Some ps ++ replicate k None) (map reset_function (map (declared (board_below h)) ps ++ replicate k None)) os

one_more : {A : Type 0} (k : ℕ) (x : A) → replicate k x ++ x ∷ [] ≡ replicate (suc k) x
one_more zero x = refl
one_more (suc k) x = ap (λ ys. x ∷ ys) (one_more k x)

module _ (h : HostState) where
  abbrev b : Board
  b = board_below h

  pub slot_pushed : (ps : List Path) (i : ℕ) (p : Path) (o : AssignedFunction) (os : List (Option AssignedFunction)) → slice_get ps i ≡ Some p → AreSlotsWith h (take i ps) 0 os
      → IsSlot h.state (Some p) (reset_function (declared b p)) (Some o) → AreSlotsWith h (take (i + 1) ps) 0 (os ++ Some o ∷ [])
  slot_pushed ps i p o os at are is =
      let qs : List (Option Path) = map Some (take i ps) in
      let ds : List (Option Endpoint) = map (declared b) (take i ps) in
      let paths : (qs ++ []) ++ Some p ∷ [] ≡ map Some (take (i + 1) ps) ++ [] = ap (λ xs. xs ++ Some p ∷ []) (append-nil qs) ∙ sym (map_push Some ps i p at) ∙ sym (append-nil (map Some (take (i + 1) ps))) in
      let decls : (ds ++ []) ++ declared b p ∷ [] ≡ map (declared b) (take (i + 1) ps) ++ [] = ap (λ xs. xs ++ declared b p ∷ []) (append-nil ds) ∙ sym (map_push (declared b) ps i p at) ∙ sym (append-nil (map (declared b) (take (i + 1) ps))) in
      grind (arith, map-append, slots_push)

  pub all_filled : (ps : List Path) (i : ℕ) (os : List (Option AssignedFunction)) → length ps ≤ i → AreSlotsWith h (take i ps) 0 os → (k : ℕ) → k ≡ 0 → AreSlotsWith h ps k os
  all_filled ps i os past are k none = grind (arith, take_all)

  pub empty_pushed : (ps : List Path) (k : ℕ) (os : List (Option AssignedFunction)) → AreSlotsWith h ps k os → AreSlotsWith h ps (suc k) (os ++ None ∷ [])
  empty_pushed ps k os are =
      let qs : List (Option Path) = map Some ps in
      let ds : List (Option Endpoint) = map (declared b) ps in
      let paths : (qs ++ replicate k None) ++ None ∷ [] ≡ qs ++ replicate (suc k) None = append_assoc qs (replicate k None) (None ∷ []) ∙ ap (λ xs. qs ++ xs) (one_more k None) in
      let decls : (ds ++ replicate k None) ++ None ∷ [] ≡ ds ++ replicate (suc k) None = append_assoc ds (replicate k None) (None ∷ []) ∙ ap (λ xs. ds ++ xs) (one_more k None) in
      grind (arith, map-append, slots_push)

  pub all_slots : (ps : List Path) (k : ℕ) (os : List (Option AssignedFunction)) → k ≡ 32 - length ps → AreSlotsWith h ps k os → AreSlotsAtFirst h ps os
  all_slots ps k os all are = search (rules, length-map)

-- ---- guests

of_guest : (P : Path → Type 0) (gs : List Declared) (i : ℕ) (g : Declared) → Each P (flat_map (λ (g : Declared). g.slots) gs) → slice_get gs i ≡ Some g → Each P g.slots
of_guest P [] i g all at = cc
of_guest P (k ∷ gs) zero g all at = let same : k ≡ g = cc in subst (λ (x : Declared). Each P x.slots) same (each_parts P k.slots (flat_map (λ (g : Declared). g.slots) gs) all).0
of_guest P (k ∷ gs) (suc i) g all at = of_guest P gs i g (each_parts P k.slots (flat_map (λ (g : Declared). g.slots) gs) all).1 at

module _ (w : World) where
  pub slots_declared : HasLawfulGuests w → (i : ℕ) (g : Declared) → slice_get w.guests i ≡ Some g → Each (λ p. IsSome (declared w.board p)) g.slots
  slots_declared lawful i g at = of_guest (λ p. IsSome (declared w.board p)) w.guests i g lawful.endpoints at

-- over a state of the board
module _ (now : State) (w : World) where
  abbrev pub AreFirst : List Declared → List Guest → Type 0
  AreFirst ds gs = AreGuests now (map (λ (g : Declared). g.name) ds) (map (guest_at_first w) ds) gs × (counts_of gs ≡ map (λ (g : Declared). 0) ds)

  pub guest_pushed : (ds : List Declared) (i : ℕ) (d : Declared) (g : Guest) (gs : List Guest) → slice_get ds i ≡ Some d → AreFirst (take i ds) gs
      → g.latch ≡ 0 → g.changed ≡ 0 → AreSlots now (guest_at_first w d).paths (guest_at_first w d).lone.slots g.slots.items → AreFirst (take (i + 1) ds) (gs ++ g ∷ [])
  guest_pushed ds i d g gs at are latch unchanged slots = (
    subst (λ (ts : List Text). AreGuests now ts (map (guest_at_first w) (take (i + 1) ds)) (gs ++ g ∷ [])) (sym (map_push (λ (g : Declared). g.name) ds i d at))
        (subst (λ (ws : GuestsNow). AreGuests now (map (λ (g : Declared). g.name) (take i ds) ++ d.name ∷ []) ws (gs ++ g ∷ [])) (sym (map_push (guest_at_first w) ds i d at))
        (guests_push now (map (λ (g : Declared). g.name) (take i ds)) (map (guest_at_first w) (take i ds)) gs d.name (guest_at_first w d) g are.0
        (record { name_is = refl; latch = sym latch; slots = slots }))),
    map-append (λ (k : Guest). k.changed) gs (g ∷ []) ∙ ap₂ (λ (ns : List ℕ) (n : ℕ). ns ++ n ∷ []) are.1 unchanged
        ∙ sym (map_push (λ (k : Declared). 0) ds i d at),
  )
