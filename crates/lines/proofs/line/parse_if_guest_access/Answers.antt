use Rattle.std.proofs.Common.{ap, sym, ◌∙◌, rules}
use Rattle.model_guests.specs.{Text.words, Lines.{event_or_bad, meaning_of_words}}
use Rattle.lines.{specs.Lines.{texts, name_of}, proofs.NameLemmas.{found, meaning-short, meaning_of_guest}}
use Rattle.lines.proofs.line.parse_if_guest_access.Goals as goal

pub returns-clause-meaning : goal.returns-clause-meaning
returns-clause-meaning c =
    let names = texts c.args.names.now in
    let g = c.in_ok-guest.guest in
    ap (event_or_bad (name_of names g)) (sym c.in_ok-access.ensures)
    ∙ meaning_of_guest c.args.names.now c.in_ok-first.first.now (words c.in_ok-first.text.now) g c.in_ok-guest.ensures (search rules) (search rules)
    ∙ ap (meaning_of_words names) (sym c.in_ok-first.ensures)
    ∙ meaning-short names c.args.line.now c.if-line-gt-LONGEST_LINE.false

pub returns-clause-first : goal.returns-clause-first
returns-clause-first c = (found c.args.names.now c.in_ok-first.first.now c.in_ok-guest.guest c.in_ok-guest.ensures).first
