-- The byte enables that are handed on.
use Rattle.std.{proofs.{Common.{◌≡◌, ℕ, ◌+◌, ◌-◌, Bool, not, ◌&&◌, List, [], ◌∷◌, refl, ap, ap₂, ◌∙◌, arith}, lemmas.{Nat.Bits.{bit_at_and, bit_at-lt}, Bool.{ne_eqb, or_from, and_right, le-ltb, Decides.nat_tests}}}, specs.{Prelude.bit_and, Int.bit_at}}
use Rattle.model_registers.{specs.{Registers.config, ByteEnables.{is_enabled, lanes}, OwnCopies.{is_own, forwarded_byte_enables}}, proofs.Owned.base_is_own}
use Rattle.guest_functions.specs.{declared.word.Word.Word, Words.{IsAt, copied_byte_enables}}

-- a lane of four that is enabled, and not masked
kept_lane : (enables m i : ℕ) → bit_at 15 i ≡ 1 → is_enabled (bit_and (bit_and enables 15) m) i ≡ (is_enabled enables i && is_enabled m i)
kept_lane enables m i four = grind (arith, bit_at_and, bit_at-lt, nat_tests)

-- the lanes of a word that are no own copies
record IsRest (off m : ℕ) : Type 0 where
  first : is_enabled m 0 ≡ not (is_own (config off))
  second : is_enabled m 1 ≡ not (is_own (config (off + 1)))
  third : is_enabled m 2 ≡ not (is_own (config (off + 1 + 1)))
  fourth : is_enabled m 3 ≡ not (is_own (config (off + 1 + 1 + 1)))

rest_of : (off : ℕ) (w : Word) → IsAt off w → IsRest off (255 - copied_byte_enables w)
rest_of off w e = grind (arith, base_is_own, or_from, ne_eqb, and_right, le-ltb)

pub handed : (off enables own : ℕ) (w : Word) → own ≡ copied_byte_enables w → IsAt off w → lanes (bit_and (bit_and enables 15) (255 - own)) ≡ forwarded_byte_enables (config off) (lanes enables)
handed off enables own w e at =
    let rest : IsRest off (255 - copied_byte_enables w) = rest_of off w at in
    let m : ℕ = 255 - copied_byte_enables w in
    let a : is_enabled (bit_and (bit_and enables 15) m) 0 ≡ (is_enabled enables 0 && not (is_own (config off))) = kept_lane enables m 0 refl ∙ ap (λ (t : Bool). is_enabled enables 0 && t) rest.first in
    let b : is_enabled (bit_and (bit_and enables 15) m) 1 ≡ (is_enabled enables 1 && not (is_own (config (off + 1)))) = kept_lane enables m 1 refl ∙ ap (λ (t : Bool). is_enabled enables 1 && t) rest.second in
    let c : is_enabled (bit_and (bit_and enables 15) m) 2 ≡ (is_enabled enables 2 && not (is_own (config (off + 1 + 1)))) = kept_lane enables m 2 refl ∙ ap (λ (t : Bool). is_enabled enables 2 && t) rest.third in
    let d : is_enabled (bit_and (bit_and enables 15) m) 3 ≡ (is_enabled enables 3 && not (is_own (config (off + 1 + 1 + 1)))) = kept_lane enables m 3 refl ∙ ap (λ (t : Bool). is_enabled enables 3 && t) rest.fourth in
    ap (λ n. lanes (bit_and (bit_and enables 15) (255 - n))) e
    ∙ ap₂ (λ (t : Bool) (ts : List Bool). t ∷ ts) a (ap₂ (λ (t : Bool) (ts : List Bool). t ∷ ts) b (ap₂ (λ (t : Bool) (ts : List Bool). t ∷ ts) c (ap (λ (t : Bool). t ∷ []) d)))
