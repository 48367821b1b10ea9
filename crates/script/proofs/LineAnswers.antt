-- What is answered of what a line means.
use Rattle.std.proofs.Common.{◌≡◌, ℕ, true, false, List, [], ◌∷◌, Some, sym, ap, ap₂, ◌∙◌, arith}
use Rattle.model_guests.{specs.{Accesses.{Event, Reply}, Text.Text, Grammar.{Who, guest, host, is_long}, Guests.{Move, lone_of}, Lone.answer, Replies.line_text, Lines.{Meaning, guest_event, host_move}, WorldNow.{WorldNow, guests_after, move_reply, names_now, written_by, after_meaning}, Calls.asks}, proofs.Along.names_meaning}
use Rattle.model_handoff.specs.{Actions.calls, Changes.{MachineNow, after_line_on_machine, after_on_machine, moves_by_call}}
use Rattle.lines.{specs.Lines.name_of, proofs.GuestNames.name_of-now}
use Rattle.monitor.{specs.{ByIndex.name_nth, Moves.move_nth}, proofs.Counts.counts_none}
use Rattle.script.specs.Refusals.{reply_to}

-- ---- guests by their places

name_there : (w : WorldNow) (g : ℕ) → name_nth w g ≡ name_of (names_now w) g
name_there w g = sym (name_of-now w.guests g)

abbrev pub move_of : WorldNow → ℕ → ℕ → ℕ → ℕ → Move
move_of w from slot to target = record { from = name_of (names_now w) from; slot = slot; to = name_of (names_now w) to; target = target }

move_there : (w : WorldNow) (from slot to target : ℕ) → move_nth w from slot to target ≡ move_of w from slot to target
move_there w from slot to target = grind (arith, name_there)

-- ---- what was told and done

pub record IsAnswered (m new : MachineNow) (x : Meaning) (who : Who) (r : Reply) : Type 0 where
  pub written : written_by m.world x ≡ line_text who r ∷ []
  pub after : new ≡ after_on_machine m (calls (asks x))
  pub reply : Some r ≡ reply_to m.world x

-- of an event of a guest, after which no guest has another name
pub answered : (m new : MachineNow) (g : ℕ) (e : Event) (r : Reply) → new ≡ after_on_machine m (calls (asks (guest_event (name_nth m.world g) e)))
    → r ≡ answer (lone_of m.world.guests (name_nth m.world g)) e → IsAnswered m new (guest_event (name_of (names_now m.world) g) e) (guest (name_of (names_now new.world) g)) r
answered m new g e r after reply =
    let world : new.world ≡ after_meaning m.world (guest_event (name_nth m.world g) e) = ap (λ (x : MachineNow). x.world) after in
    let told = reply ∙ ap (λ (n : Text). answer (lone_of m.world.guests n) e) (name_there m.world g) in
    record {
      written = ap₂ (λ (ns : List Text) (x : Reply). line_text (guest (name_of ns g)) x ∷ [])
          (sym (ap names_now world ∙ names_meaning m.world.guests (guest_event (name_nth m.world g) e))) (sym told);
      after = after ∙ ap (λ (n : Text). after_on_machine m (calls (asks (guest_event n e)))) (name_there m.world g);
      reply = ap Some told;
    }

-- of a move
pub moved : (m new : MachineNow) (from slot to target : ℕ) (r : Reply) → new ≡ after_on_machine m (calls (asks (host_move (move_nth m.world from slot to target))))
    → r ≡ move_reply m.world.guests (move_nth m.world from slot to target) → IsAnswered m new (host_move (move_of m.world from slot to target)) host r
moved m new from slot to target r after reply =
    let same = move_there m.world from slot to target in
    let told = reply ∙ ap (λ (v : Move). move_reply m.world.guests v) same in
    record {
      written = ap (λ (x : Reply). line_text host x ∷ []) (sym told);
      after = after ∙ ap (λ (v : Move). after_on_machine m (calls (asks (host_move v)))) same;
      reply = ap Some told;
    }

-- ---- what does nothing

pub nothing_done : (m : MachineNow) (x : Meaning) → guests_after m.world.guests x ≡ m.world.guests → ((n : Text) → moves_by_call n m.world.guests (asks x) ≡ false) → m ≡ after_on_machine m (calls (asks x))
nothing_done m x same none = grind (arith, counts_none)

pub long_done : (m : MachineNow) (line : Text) → is_long line ≡ true → m ≡ after_line_on_machine m line
long_done m line long = grind (arith, nothing_done)
