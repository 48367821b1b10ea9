-- Each guest's reply lines, and what it holds, are those of its inputs.
use Rattle.std.{proofs.{Common.{◌≡◌, Bool, true, false, cond, List, [], ◌∷◌, ◌++◌, Some, None, Option, refl, sym, ap, ◌∙◌, eqb, arith}, lemmas.{List.Elements.filter-append, Bool.not-true}}, specs.{Prelude.{codes, IsTrue, drop, filter, map, find}, List.starts_with, Option.option_map_or, Str.bytes_eq}}
use Rattle.lists.{specs.Elements.Each, proofs.Tests.{left_true, right_true}}
use Rattle.model_board.specs.Paths.{Path}
use Rattle.model_guests.{specs.{Accesses.{Event, refused}, Lone.{LoneGuest, after_event, answer, reset_guest}, Text.{Text, lines}, Grammar.{HostRead, event_of, guest, has_first_word, has_name, host, host_read_of, is_comment, is_own_line, nobody}, World.{Guest, World, declared, is_name, names}, Guests.{GuestsNow, Move, guest_after, guest_at_first, lone_of}, Lines.{Meaning, bad, event_or_bad, guest_event, host_move, host_read, meaning, meaning_of_words, move_of, nothing, read_or_move}, Replies.reply_text, WorldNow.{WorldNow, world_over, names_of, names_now, host_reply, move_reply, written_by, after_meaning, after_line, after_lines}, Inputs.{Input, after_input, after_inputs, after_own, inputs, inputs_of_meaning, lone_event, lone_output, own_line}, Isolation.{Isolated, TwoWorlds}}, proofs.{Names.{lacks, NameFacts, named_facts, begins, equal_texts, same_text}, GuestFiles.other_name, Along.{names_stay, names_at_first}, WrittenLines.{written_along, lines_written}, OneGuest.{lone_by, named_there, touched}}}

-- ---- one guest among all

abbrev has : GuestsNow → Text → Bool
has s name = has_name (names_of s) name

abbrev slots_named : List Guest → Text → List Path
slots_named gs name = option_map_or (λ (g : Guest). g.slots) (find (λ (g : Guest). bytes_eq g.name name) gs) []

first_lone : (w : World) (gs : List Guest) (name : Text) → lone_of (map (guest_at_first w) gs) name ≡ reset_guest (map (declared w.board) (slots_named gs name))
first_lone w [] name = refl
first_lone w (g ∷ gs) name = grind (arith, first_lone w gs name)

-- ---- an own line

abbrev replies_in : Text → List Text → List Text
replies_in name ls = filter (λ l. starts_with eqb l (name ++ codes ": ")) ls

own_words : (ns : List Text) (name : Text) (ws : List Text) → NameFacts name → has_name ns name ≡ true → has_first_word name ws ≡ true
    → meaning_of_words ns ws ≡ event_or_bad name (event_of (drop 1 ws))
own_words ns name [] facts h first = cc
own_words ns name (w ∷ ws) facts h first = grind (arith, equal_texts w name first)

own_after : (w : WorldNow) (name : Text) (o : Option Event) → has w.guests name ≡ true → lone_of (after_meaning w (event_or_bad name o)).guests name ≡ after_own (lone_of w.guests name) o
own_after w name None h = refl
own_after w name (Some e) h =
    let same = same_text name in
    lone_by (guest_after e) (λ t. refl) (λ (g : LoneGuest). after_event g e) (λ t. refl) name name w.guests (named_there w.guests name h) ∙ rw same refl

-- ---- a line of another

abbrev Foreign : Text → Meaning → Type 0
Foreign name nothing = Unit {0}
Foreign name (guest_event n e) = (bytes_eq name n ≡ false) × (lacks 58 n ≡ true)
Foreign name (host_read r) = Unit {0}
Foreign name (host_move m) = Unit {0}
Foreign name (bad (guest n) k) = (bytes_eq name n ≡ false) × (lacks 58 n ≡ true)
Foreign name (bad host k) = Unit {0}
Foreign name (bad nobody k) = Unit {0}

foreign_cases : (name n : Text) (e : Option Event) (r : Option HostRead) (m : Option Move) (c h g : Bool) → bytes_eq name n ≡ false → (g ≡ true → lacks 58 n ≡ true)
    → Foreign name (cond c nothing (cond h (read_or_move r m) (cond g (event_or_bad n e) (bad nobody 402))))
foreign_cases name n e r m c h g d k = grind arith

foreign_words : (ns : List Text) (name : Text) (ws : List Text) → Each (λ m. IsTrue (is_name m)) ns → has_first_word name ws ≡ false
    → Foreign name (meaning_of_words ns ws)
foreign_words ns name [] all first = tt
foreign_words ns name (w ∷ ws) all first =
    foreign_cases name w (event_of ws) (host_read_of ws) (move_of ns ws) (is_comment w) (bytes_eq w (codes "host")) (has_name ns w) (other_name w name first) (λ h. (named_facts ns w all h).no_colon)

other_line : (name n r : Text) → lacks 58 name ≡ true → lacks 58 n ≡ true → bytes_eq name n ≡ false → replies_in name (((n ++ codes ": ") ++ r) ∷ []) ≡ []
other_line name n r h k d = let e : starts_with eqb ((n ++ codes ": ") ++ r) (name ++ codes ": ") ≡ false = begins n name r k h ∙ d in rw e

nothing_written : (w : WorldNow) (name : Text) (m : Meaning) → NameFacts name → Foreign name m → replies_in name (written_by w m) ≡ []
nothing_written w name nothing facts f = refl
nothing_written w name (guest_event n e) facts f = other_line name n (reply_text (answer (lone_of w.guests n) e)) facts.no_colon f.1 f.0
nothing_written w name (host_read r) facts f = other_line name (codes "host") (reply_text (host_reply w r)) facts.no_colon refl facts.not_host
nothing_written w name (host_move m) facts f = other_line name (codes "host") (reply_text (move_reply w.guests m)) facts.no_colon refl facts.not_host
nothing_written w name (bad (guest n) k) facts f = other_line name n (reply_text (refused k)) facts.no_colon f.1 f.0
nothing_written w name (bad host k) facts f = other_line name (codes "host") (reply_text (refused k)) facts.no_colon refl facts.not_host
nothing_written w name (bad nobody k) facts f = other_line name (codes "?") (reply_text (refused k)) facts.no_colon refl facts.not_nobody

other_after : (w : WorldNow) (name : Text) (m : Meaning) → has w.guests name ≡ true → Foreign name m
    → lone_of (after_meaning w m).guests name ≡ after_inputs (lone_of w.guests name) (inputs_of_meaning name w.guests m)
other_after w name nothing h f = refl
other_after w name (guest_event n e) h f =
    let other : bytes_eq n name ≡ false = other_name name n f.0 in
    lone_by (guest_after e) (λ t. refl) (λ (g : LoneGuest). after_event g e) (λ t. refl) n name w.guests (named_there w.guests name h) ∙ rw other refl
other_after w name (host_read r) h f = refl
other_after w name who h f = grind (arith, touched, named_there)

other_is_silent : (gs : GuestsNow) (name : Text) (m : Meaning) (g : LoneGuest) (more : List Input)
    → lone_output name g (inputs_of_meaning name gs m ++ more) ≡ lone_output name (after_inputs g (inputs_of_meaning name gs m)) more
other_is_silent gs name m g more = grind arith

-- ---- all lines

after_inputs-append : (xs ys : List Input) (g : LoneGuest) → after_inputs g (xs ++ ys) ≡ after_inputs (after_inputs g xs) ys
after_inputs-append [] ys g = refl
after_inputs-append (x ∷ xs) ys g = after_inputs-append xs ys (after_input g x)

-- what is fixed along a script: the names, and that this is one of them
module _ (ns : List Text) (name : Text) (lawful : Each (λ n. IsTrue (is_name n)) ns) (facts : NameFacts name) (k : has_name ns name ≡ true) where
  abbrev Stands : WorldNow → Type 0
  Stands w = (names_now w ≡ ns) × (has w.guests name ≡ true)

  stands_after : (w : WorldNow) (l : Text) → Stands w → Stands (after_line w l)
  stands_after w l h = (names_stay w l ∙ h.0, ap (λ (xs : List Text). has_name xs name) (names_stay w l) ∙ h.1)

  own_means : (w : WorldNow) → Stands w → (l : Text) → is_own_line name l ≡ true → meaning (names_now w) l ≡ event_or_bad name (lone_event l)
  own_means w h l e = grind (arith, not-true, left_true, own_words, right_true)

  other_means : (w : WorldNow) → Stands w → (l : Text) → is_own_line name l ≡ false → Foreign name (meaning (names_now w) l)
  other_means w h l e = grind (arith, foreign_words)

  after_inputs_of : (w : WorldNow) → Stands w → (l : Text) (own : Bool) → is_own_line name l ≡ own
      → lone_of (after_line w l).guests name ≡ after_inputs (lone_of w.guests name) (cond own (own_line l ∷ []) (inputs_of_meaning name w.guests (meaning (names_now w) l)))
  after_inputs_of w h l own e = grind (arith, own_means, own_after, other_after, other_means)

  replies_from : (ls : List Text) (w : WorldNow) → Stands w → replies_in name (written_along w ls) ≡ lone_output name (lone_of w.guests name) (inputs w.guests name ls)
  replies_from [] w h = refl
  replies_from (l ∷ ls) w h = grind (arith, filter-append, written_along, step, replies_from ls (after_line w l) (stands_after w l h), stands_after)
    where
      step : (own : Bool) → is_own_line name l ≡ own
          → replies_in name (written_along (after_line w l) ls) ≡ lone_output name (lone_of (after_line w l).guests name) (inputs (after_line w l).guests name ls)
          → replies_in name (written_by w (meaning (names_now w) l)) ++ replies_in name (written_along (after_line w l) ls)
          ≡ lone_output name (lone_of w.guests name) (cond own (own_line l ∷ []) (inputs_of_meaning name w.guests (meaning (names_now w) l)) ++ inputs (after_line w l).guests name ls)
      step true e rest = grind (arith, own_means w h l e, begins, same_text, written_along (after_line w l) ls, after_inputs_of w h l true e)
      step false e rest =
          ap (λ (x : List Text). x ++ replies_in name (written_along (after_line w l) ls)) (nothing_written w name (meaning (names_now w) l) facts (other_means w h l e))
          ∙ rest ∙ ap (λ (g : LoneGuest). lone_output name g (inputs (after_line w l).guests name ls)) (after_inputs_of w h l false e)
          ∙ sym (other_is_silent w.guests name (meaning (names_now w) l) (lone_of w.guests name) (inputs (after_line w l).guests name ls))

  holds_from : (ls : List Text) (w : WorldNow) → Stands w → lone_of (after_lines w ls).guests name ≡ after_inputs (lone_of w.guests name) (inputs w.guests name ls)
  holds_from [] w h = refl
  holds_from (l ∷ ls) w h = grind (arith, holds_from ls (after_line w l), stands_after, after_inputs_of, after_inputs-append)

-- ---- the whole script

pub isolated_over : Isolated
isolated_over w lawful s name script h =
    let now : WorldNow = world_over w s in
    let facts : NameFacts name = named_facts (names w) name lawful h in
    let same : names_now now ≡ names w = names_at_first w in
    let there : has now.guests name ≡ true = ap (λ (ns : List Text). has_name ns name) same ∙ h in
    let first = first_lone w w.guests name in
    grind (arith, lines_written now (names w) lawful same (lines script), replies_from (names w) name lawful facts h (lines script) now (same, there), holds_from)

pub two_worlds_agree : TwoWorlds
two_worlds_agree name v w one other lawful_v lawful_w agree s t = grind (arith, isolated_over)
