-- Every line that is written is one line: cut into lines, the output is these lines again.
--     written_along      the lines that lines of a script write
use Rattle.std.{proofs.Common.{◌≡◌, Bool, true, cond, List, [], ◌∷◌, ◌++◌, Option, refl, sym, ap, ◌∙◌, append_assoc, arith}, specs.Prelude.IsTrue}
use Rattle.lists.{specs.Elements.Each, proofs.EachLemmas.each_append}
use Rattle.model_guests.{specs.{Accesses.{Event, refused}, Lone.answer, Text.{Text, lines, text_of_lines}, Grammar.{HostRead, guest, host, nobody}, World.is_name, Guests.{Move, lone_of}, Lines.{Meaning, bad, event_or_bad, guest_event, host_move, host_read, meaning, nothing, read_or_move}, Replies.who_text, WorldNow.{WorldNow, names_now, host_reply, move_reply, written_by, after_line, output}}, proofs.{Along.names_stay, Names.{lacks, named_facts}, OutputLines.{lines_again, line_one_line}}}

abbrev pub written_along : WorldNow → List Text → List Text
written_along w [] = []
written_along w (l ∷ ls) = written_by w (meaning (names_now w) l) ++ written_along (after_line w l) ls

pub text_of_lines-append : (xs ys : List Text) → text_of_lines (xs ++ ys) ≡ text_of_lines xs ++ text_of_lines ys
text_of_lines-append [] ys = refl
text_of_lines-append (x ∷ xs) ys = ap (λ (t : Text). (x ++ 10 ∷ []) ++ t) (text_of_lines-append xs ys) ∙ sym (append_assoc (x ++ 10 ∷ []) (text_of_lines xs) (text_of_lines ys))

pub output_along : (ls : List Text) (w : WorldNow) → output w ls ≡ text_of_lines (written_along w ls)
output_along [] w = refl
output_along (l ∷ ls) w = grind (arith, output_along ls (after_line w l), text_of_lines-append)

abbrev TellsOneLine : Meaning → Type 0
TellsOneLine nothing = Unit {0}
TellsOneLine (guest_event name e) = lacks 10 name ≡ true
TellsOneLine (host_read r) = Unit {0}
TellsOneLine (host_move m) = Unit {0}
TellsOneLine (bad who n) = lacks 10 (who_text who) ≡ true

tells_cases : (name : Text) (e : Option Event) (r : Option HostRead) (m : Option Move) (c h g : Bool) → (g ≡ true → lacks 10 name ≡ true)
    → TellsOneLine (cond c nothing (cond h (read_or_move r m) (cond g (event_or_bad name e) (bad nobody 402))))
tells_cases name e r m c h g k = grind arith

written_one_line : (w : WorldNow) (m : Meaning) → TellsOneLine m → Each (λ l. lacks 10 l ≡ true) (written_by w m)
written_one_line w nothing h = tt
written_one_line w (guest_event name e) h = (line_one_line (guest name) (answer (lone_of w.guests name) e) h, tt)
written_one_line w (host_read r) h = (line_one_line host (host_reply w r) refl, tt)
written_one_line w (host_move m) h = (line_one_line host (move_reply w.guests m) refl, tt)
written_one_line w (bad who n) h = (line_one_line who (refused n) h, tt)

along_one_line : (ns : List Text) → Each (λ n. IsTrue (is_name n)) ns → (ls : List Text) (w : WorldNow) → names_now w ≡ ns → Each (λ l. lacks 10 l ≡ true) (written_along w ls)
along_one_line ns lawful [] w same = tt
along_one_line ns lawful (l ∷ ls) w same = grind (arith, along_one_line ns lawful ls (after_line w l), each_append, written_one_line, names_stay, tells_cases, named_facts)

pub lines_written : (w : WorldNow) (ns : List Text) → Each (λ n. IsTrue (is_name n)) ns → names_now w ≡ ns → (ls : List Text) → lines (output w ls) ≡ written_along w ls
lines_written w ns lawful same ls = ap lines (output_along ls w) ∙ lines_again (written_along w ls) (along_one_line ns lawful ls w same)
