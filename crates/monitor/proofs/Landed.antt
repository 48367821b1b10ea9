-- Where an address of a guest lands: slot after slot, by the guest's own copies.
use Rattle.std.{proofs.{Common.{◌≡◌, ℕ, zero, suc, ◌+◌, ◌<◌, ◌≤◌, List, [], ◌∷◌, length, Some, None, Option, drop, slice_get, refl, ap, arith, rules}, lemmas.List.drop_all}, specs.Prelude.{option_map, unwrap_or}}
use Rattle.lists.specs.Elements.{first_of_two}
use Rattle.model_registers.specs.{Registers.block, Decoding.{Space, Hit}}
use Rattle.model_board.specs.{Paths.Path, State.State}
use Rattle.model_guests.specs.Slots.{Slots, slot_at, Landing, landing_in, landing_from}
use Rattle.monitor.{specs.{declared.guest.AssignedFunction.AssignedFunction, Keeping.AreSlots, Reaches.Decodes}, proofs.Steps.{slot_there, slot_empty}}

pub same_count : (s : State) (qs : List (Option Path)) (fs : Slots) (os : List (Option AssignedFunction)) → AreSlots s qs fs os → length fs ≡ length os
same_count s [] [] [] are = refl
same_count s (q ∷ qs) (f ∷ fs) (o ∷ os) are = ap suc (same_count s qs fs os are.1)
same_count s qs fs os are = absurd are

module _ (space : Space) (addr : ℕ) where
  next : (fs : Slots) (n k : ℕ) → n < length fs
      → landing_from k space addr (drop n fs) ≡ first_of_two (landing_in k space addr (slot_at fs n)) (landing_from (k + 1) space addr (drop (n + 1) fs))
  next [] n k h = absurd (omega arith)
  next (f ∷ fs) zero k h = refl
  next (f ∷ fs) (suc n) k h = grind (arith, next fs n k)

  module _ (s : State) (qs : List (Option Path)) (fs : Slots) (os : List (Option AssignedFunction)) (are : AreSlots s qs fs os) (n : ℕ) (within : n < length os) where
    inside : n < length fs
    inside = omega (arith, same_count s qs fs os are)

    -- an empty slot
    pub passed_empty : unwrap_or (slice_get os n) None ≡ None → landing_from n space addr (drop n fs) ≡ landing_from (n + 1) space addr (drop (n + 1) fs)
    passed_empty none = search (rules, inside, next, slot_empty)

    decoded : (h : AssignedFunction) → slice_get os n ≡ Some (Some h) → (o : Option Hit) → Decodes h.own space addr o
        → landing_from n space addr (drop n fs)
        ≡ first_of_two (option_map (λ (k : Hit). let l : Landing = record { slot = n; place = block k.index k.offset } in l) o) (landing_from (n + 1) space addr (drop (n + 1) fs))
    decoded h at o decodes =
        let slot = slot_there s qs fs os n h are at in
        grind (arith, next, inside)

    pub passed : (h : AssignedFunction) → slice_get os n ≡ Some (Some h) → Decodes h.own space addr None → landing_from n space addr (drop n fs) ≡ landing_from (n + 1) space addr (drop (n + 1) fs)
    passed h at decodes = decoded h at None decodes

    pub landed : (h : AssignedFunction) (hit : Hit) → slice_get os n ≡ Some (Some h) → Decodes h.own space addr (Some hit)
        → landing_from n space addr (drop n fs) ≡ Some (record { slot = n; place = block hit.index hit.offset })
    landed h hit at decodes = decoded h at (Some hit) decodes

  pub nowhere : (s : State) (qs : List (Option Path)) (fs : Slots) (os : List (Option AssignedFunction)) → AreSlots s qs fs os → (n : ℕ) → length os ≤ n → landing_from n space addr (drop n fs) ≡ None
  nowhere s qs fs os are n h = ap (landing_from n space addr) (drop_all n fs (omega (arith, same_count s qs fs os are)))
