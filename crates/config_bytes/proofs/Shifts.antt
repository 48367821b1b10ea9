-- Shifts by whole bytes, and masks of whole bytes.
use Rattle.std.{proofs.{lemmas.{Grind.common_steps, Nat.and_mask}, Common.{◌≡◌, ℕ, zero, suc, ◌+◌, ◌-◌, ◌*◌, ◌/◌, ◌%◌, ◌^◌, ◌≤◌, refl, sym, ap, ◌∙◌, arith}, Math.{Nat.{pow-suc, one-le-pow}, Pow.{shl_exact, pow-add}}}, specs.Prelude.bit_and}
use Rattle.model_registers.specs.ByteEnables.{LiesInWord, enables_of, to_lanes, from_lanes}

pub byte_power : (k : ℕ) → 2 ^ (8 * k) ≡ 256 ^ k
byte_power zero = refl
byte_power (suc k) =
    ap (λ n. 2 ^ n) (let more : 8 * suc k ≡ 8 * k + 8 = omega arith in more) ∙ pow-add 2 (8 * k) 8 ∙ ap (λ n. n * 256) (byte_power k) ∙ sym (pow-suc 256 k)

one_shifted : (k n : ℕ) → 1 + k ≤ n → 1 * 2 ^ k % 2 ^ n ≡ 2 ^ k
one_shifted k n h = shl_exact 1 k n (omega arith) h ∙ omega arith

pub shifted_enables : (off w : ℕ) → LiesInWord off w → (1 * 2 ^ w % 256 - 1) * 2 ^ (off % 4) % 256 ≡ enables_of off w
shifted_enables off w h =
    ap (λ n. (n - 1) * 2 ^ (off % 4) % 256) (one_shifted w 8 (omega arith))
    ∙ shl_exact w (off % 4) 8 (omega (arith, one-le-pow w 2 (omega arith))) (omega arith)

pub shifted_value : (off v : ℕ) → v * 2 ^ (8 * (off % 4)) % 4294967296 ≡ to_lanes off v
shifted_value off v = ap (λ n. v * n % 4294967296) (byte_power (off % 4))

pub masked_value : (off w word : ℕ) → LiesInWord off w → bit_and (word / 2 ^ (8 * (off % 4))) (1 * 2 ^ (8 * w) % 18446744073709551616 - 1) ≡ from_lanes off w word
masked_value off w word h = grind (arith, common_steps, one_shifted, and_mask, byte_power)
