-- An access of 1, 2 or 4 bytes to a function is one of enabled bytes of a word.
use Rattle.std.proofs.Common.{◌≡◌, inl, inr, ℕ, zero, suc, ◌+◌, ◌-◌, ◌*◌, ◌/◌, ◌^◌, ◌≤◌, refl, sym, subst, arith, rules}
use Rattle.model_registers.{specs.{Registers.all_bytes, ByteEnables.{IsWidth, lanes, enabled_bits}}, proofs.ByteAccesses.{aligned_lies_in_word, number_by_lanes, write_by_lanes}}
use Rattle.model_board.specs.PortLaws.{ConfigReadByLanes, ConfigWriteByLanes, PortsWhileNotEnabled}

-- all ones in the lanes of an access are all ones of its width
abbrev AreOnes : ℕ → ℕ → Type 0
AreOnes l w = enabled_bits (all_bytes w) ≡ enabled_bits (lanes ((2 ^ w - 1) * 2 ^ l)) / 256 ^ l

ones : (l w : ℕ) → IsWidth w → l + w ≤ 4 → AreOnes l w
ones l w (inl e) h = subst (AreOnes l) (sym e) (one l (omega arith))
  where
    one : (l : ℕ) → l + 1 ≤ 4 → AreOnes l 1
    one zero h = refl
    one (suc zero) h = refl
    one (suc (suc zero)) h = refl
    one (suc (suc (suc zero))) h = refl
    one (suc (suc (suc (suc l)))) h = absurd (omega arith)
ones l w (inr (inl e)) h = subst (AreOnes l) (sym e) (two l (omega arith))
  where
    two : (l : ℕ) → l + 2 ≤ 4 → AreOnes l 2
    two zero h = refl
    two (suc zero) h = refl
    two (suc (suc zero)) h = refl
    two (suc (suc (suc l))) h = absurd (omega arith)
ones l w (inr (inr e)) h = search rules

pub config_read_by_lanes : ConfigReadByLanes
config_read_by_lanes fs at off w width aligned = grind (arith, ones, aligned_lies_in_word, number_by_lanes)

pub config_write_by_lanes : ConfigWriteByLanes
config_write_by_lanes fs at off w v width aligned = search (rules, write_by_lanes, aligned_lies_in_word)

pub ports_while_not_enabled : PortsWhileNotEnabled
ports_while_not_enabled latch a w off = rw off refl
