-- Closed regions slot by slot, by own registers.
--     holds_by_offset      a region holds the addresses that have an offset in it
--     slot_told      those of a slot, by the registers that are told of it
--     slot_holds      the same where Command doesn't open the space
--     step      one slot more
use Rattle.std.{proofs.Common.{◌≡◌, ℕ, zero, suc, ◌+◌, ◌<◌, Bool, false, List, [], ◌∷◌, ◌++◌, length, drop, Some, None, Option, refl, sym, ap, ◌∙◌, append_assoc, arith}, specs.{Prelude.{map, filter, option_map, is_some, if◌then◌else◌}, Option.option_map_or}}
use Rattle.model_registers.specs.{Declarations.Region, OwnCopies.OwnCopies, Decoding.{Space, Function, opens_space, command_word, base_address}}
use Rattle.model_guests.specs.Slots.{Slots, slot_at}
use Rattle.model_lines.specs.WhyGuests.{closed_region, region_holds, closed_from, ClosedRegion}
use Rattle.bars.specs.{declared.region.BarWithBase.BarWithBase, Slots.placed, Hits.offset_in}
use Rattle.monitor.specs.OwnTold.{own_now}
use Rattle.board_told.specs.GuestFindings.{base_holds, closed_base, closed_at, closed_by, closed_in}

pub holds_by_offset : (space : Space) (n : ℕ) (r : BarWithBase) → is_some (offset_in space n r) ≡ base_holds space n (placed 0 r)
holds_by_offset space n r = grind arith

module _ (space : Space) (n : ℕ) where
  -- by the registers as they stand, as by what is declared
  rows : (slot : ℕ) (f : Function) (rs : List Region)
      → map (closed_base slot (command_word f.file)) (filter (base_holds space n) (map (base_address f.file) rs)) ≡ map (closed_region slot f.file) (filter (region_holds space n f.file) rs)
  rows slot f [] = refl
  rows slot f (r ∷ rs) = grind (arith, rows slot f rs)

  pub slot_told : (slot : ℕ) (o : Option OwnCopies) (p : Option Function) → o ≡ option_map own_now p → option_map_or (closed_by space n slot) o [] ≡ closed_in space n slot p
  slot_told slot o None e = ap (λ (q : Option OwnCopies). option_map_or (closed_by space n slot) q []) e
  slot_told slot o (Some f) e = grind (arith, rows)

  pub slot_holds : (slot : ℕ) (o : OwnCopies) (p : Option Function) → Some o ≡ option_map own_now p → opens_space o.command space ≡ false → closed_at space n slot o.command o.bases ≡ closed_in space n slot p
  slot_holds slot o p e shut = ap (λ (t : Bool). if t then [] else closed_at space n slot o.command o.bases) (sym shut) ∙ slot_told slot (Some o) p e

  next : (fs : Slots) (j k : ℕ) → j < length fs → closed_from space n k (drop j fs) ≡ closed_in space n k (slot_at fs j) ++ closed_from space n (k + 1) (drop (j + 1) fs)
  next [] j k h = absurd (omega arith)
  next (f ∷ fs) zero k h = refl
  next (f ∷ fs) (suc j) k h = grind (arith, next fs j k)

  pub step : (fs : Slots) (j : ℕ) → j < length fs → (before more all : List ClosedRegion) → before ++ closed_from space n j (drop j fs) ≡ all → more ≡ before ++ closed_in space n j (slot_at fs j)
      → more ++ closed_from space n (j + 1) (drop (j + 1) fs) ≡ all
  step fs j h before more all so_far e = grind (arith, append_assoc, next)
