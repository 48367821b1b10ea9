-- A line of a session whose text is longer than a reply may be.
--     otherwise      what is not false
--     longer_told      the answer, where such a text was told
use Rattle.std.{proofs.{Common.{◌≡◌, ◌-◌, ℕ, ◌≤◌, ◌<◌, Bool, true, false, length, ap, ◌∙◌, refl, arith, inl, inr, Some, length-append, length-drop}, lemmas.Bool.Decides.nat_tests}, specs.Prelude.{nat_lt, nat_le, if◌then◌else◌}}
use Rattle.model_guests.specs.Text.{Text}
use Rattle.model_lines.specs.Sessions.{SessionNow}
use Rattle.pciguest_c.specs.{TextsTold.{IsTold, at_front}, Calls.{IsAnswer, settled, refusal, tells, text, reply, buffer, unless_out}}

pub otherwise : (b : Bool) → (b ≡ false → ⊥) → b ≡ true
otherwise true not = refl
otherwise false not = absurd (not refl)

at_most : (a b : ℕ) → a ≤ b → nat_le a b ≡ true
at_most a b is = grind (arith, nat_tests)

above : (a b : ℕ) → b < a → nat_le a b ≡ false
above a b is = grind (arith, nat_tests)

not_below : (a b : ℕ) → b ≤ a → nat_lt a b ≡ false
not_below a b is = grind (arith, nat_tests)

-- what stands in a buffer of the same length had room there
had_room : (t before after : Text) → after ≡ at_front t before → length after ≡ length before → length t ≤ length before
had_room t before after is keeps = grind (arith, length-append, length-drop)

pub longer_told : (s y ran : SessionNow) (asks : Bool) (o t before after : Text) (old n new : ℕ) → asks ≡ true → 48 ≤ length before
    → o ≡ t → IsTold t before after n → length after ≡ length before → new ≡ length t → y ≡ s → y ≡ ran
    → IsAnswer (settled (Some s) (buffer before old) (if nat_lt (length before) 48 then refusal 902
    else (if asks then unless_out n (tells (text o) ran) else tells (reply o) ran))) (Some y) n (buffer after new)
longer_told s y ran asks o t before after old n new is room said told keeps len same goes =
    rw (is, said, not_below (length before) 48 room) (elim told.numbers [
      | inl z ↦ rw (z, at_most (length t) (length before) (had_room t before after (told.written z) keeps)) (record {
        number = refl;
        session = ap Some goes;
        place = ap (λ (out : Text). buffer out new) (told.written z) ∙ ap (λ (m : ℕ). buffer (at_front t before) m) len;
      })
      | inr w ↦ rw (w, above (length t) (length before) (told.room w)) (record {
        number = refl;
        session = ap Some same;
        place = ap (λ (out : Text). buffer out new) (told.unwritten (λ e. omega (arith, w, e))) ∙ ap (λ (m : ℕ). buffer before m) len;
      })
    ])
