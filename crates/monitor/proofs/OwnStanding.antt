-- The own registers of a function in a slot are what its guest's file holds.
--     six_standing      six regions with the bases of a file
--     same_bases      their registers are those of the declared regions
--     own_empty, own_there      a slot of a guest by its index
use Rattle.std.{proofs.Common.{◌≡◌, ◌+◌, ℕ, List, [], ◌∷◌, length, Some, None, Option, slice_get, refl, sym, ap, ◌∙◌, subst, arith}, specs.Prelude.{map, option_map, unwrap_or}}
use Rattle.model_registers.specs.{Registers.File, Declarations.Region, OwnCopies.IsLawfulOwn, Decoding.{Function, base_address}}
use Rattle.model_board.specs.{Paths.Path, State.State}
use Rattle.model_guests.specs.{Slots.slot_at, WorldNow.WorldNow}
use Rattle.bars.specs.declared.region.BarWithBase.{BarWithBase}
use Rattle.monitor.{specs.{declared.{guest.{AssignedFunction.AssignedFunction, Guest.Guest}, queries.own_registers.OwnRegisters.OwnRegisters}, Keeping.{IsHeld, AreSlots}, ByIndex.{guest_nth, lone_nth}, Queries.IsGuestNth, OwnTold.{own_now, own_told, standing}}, proofs.Steps.{slot_there, slot_empty}}
use Rattle.bars.specs.Slots as bars

-- ---- six registers

abbrev standing_from : File → ℕ → List (Option BarWithBase) → List (Option BarWithBase)
standing_from file n [] = []
standing_from file n (o ∷ os) = option_map (standing file n) o ∷ standing_from file (n + 1) os

abbrev StandsAt : File → List (Option BarWithBase) → ℕ → Option BarWithBase → Type 0
StandsAt file placed n o = o ≡ option_map (standing file n) (bars.slot_at placed n)

six_from : (file : File) (placed : List (Option BarWithBase)) → length placed ≡ 6 → (a b c d e f : Option BarWithBase)
    → StandsAt file placed 0 a → StandsAt file placed 1 b → StandsAt file placed 2 c → StandsAt file placed 3 d → StandsAt file placed 4 e → StandsAt file placed 5 f
    → (a ∷ b ∷ c ∷ d ∷ e ∷ f ∷ []) ≡ standing_from file 0 placed
six_from file (p ∷ q ∷ r ∷ s ∷ t ∷ u ∷ []) six a b c d e f a-is b-is c-is d-is e-is f-is = cc
six_from file placed six a b c d e f a-is b-is c-is d-is e-is f-is = absurd (omega (arith, six))

rebased : (old new : File) (rs : List Region) (n : ℕ) (placed : List (Option BarWithBase)) → bars.bases_from n placed ≡ map (base_address old) rs
    → bars.bases_from n (standing_from new n placed) ≡ map (base_address new) rs
rebased old new [] n [] e = refl
rebased old new (r ∷ rs) n [] e = cc
rebased old new rs n (None ∷ placed) e = rebased old new rs (n + 1) placed e
rebased old new [] n (Some x ∷ placed) e = cc
rebased old new (r ∷ rs) n (Some x ∷ placed) e = grind (arith, rebased old new rs (n + 1) placed)

pub six_standing : (old new : File) (rs : List Region) (placed : List (Option BarWithBase)) → length placed ≡ 6 → bars.bases_from 0 placed ≡ map (base_address old) rs
    → (a b c d e f : Option BarWithBase)
    → StandsAt new placed 0 a → StandsAt new placed 1 b → StandsAt new placed 2 c → StandsAt new placed 3 d → StandsAt new placed 4 e → StandsAt new placed 5 f
    → bars.bases_from 0 (a ∷ b ∷ c ∷ d ∷ e ∷ f ∷ []) ≡ map (base_address new) rs
six_standing old new rs placed six same a b c d e f a-is b-is c-is d-is e-is f-is =
    ap (bars.bases_from 0) (six_from new placed six a b c d e f a-is b-is c-is d-is e-is f-is) ∙ rebased old new rs 0 placed same

-- ---- a slot of a guest by its index

module _ {w : WorldNow} {i : ℕ} {g : Guest} (is : IsGuestNth w i g) {slots : List (Option AssignedFunction)} (same : slots ≡ g.slots.items) (n : ℕ) where
  lent : AreSlots w.handoff (guest_nth w i).paths (lone_nth w i).slots slots
  lent = subst (AreSlots w.handoff (guest_nth w i).paths (lone_nth w i).slots) (sym same) is.slots

  pub own_empty : unwrap_or (slice_get slots n) None ≡ None → None ≡ option_map own_now (slot_at (lone_nth w i).slots n)
  own_empty none = ap (option_map own_now) (sym (slot_empty w.handoff (guest_nth w i).paths (lone_nth w i).slots slots n lent none))

  pub own_there : {held : AssignedFunction} → slice_get slots n ≡ Some (Some held) → (o : OwnRegisters)
      → ((s : State) (p : Path) (f : Function) → IsHeld s p f held → IsLawfulOwn held.own → own_told o ≡ own_now f)
      → Some (own_told o) ≡ option_map own_now (slot_at (lone_nth w i).slots n)
  own_there {held} there o told =
      let slot = slot_there w.handoff (guest_nth w i).paths (lone_nth w i).slots slots n held lent there in
      let lawful : IsLawfulOwn held.own = is.lawful n held (ap (λ (os : List (Option AssignedFunction)). slice_get os n) (sym same) ∙ there) in
      ap Some (told w.handoff slot.p slot.f slot.held lawful) ∙ ap (option_map own_now) (sym slot.function)
