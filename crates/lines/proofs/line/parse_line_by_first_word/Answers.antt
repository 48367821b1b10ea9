use Rattle.lines.{specs.Lines.{texts, IsFirst}, proofs.NameLemmas.{found, guests_are_this}}
use Rattle.lines.proofs.line.parse_line_by_first_word.Goals as goal

pub returns-in-Some-clause-first : goal.returns-in-Some-clause-first
returns-in-Some-clause-first c =
    let first = (found c.args.names.now c.args.first.now c.in-Some.guest c.in-Some.ensures).first in
    guests_are_this (IsFirst (texts c.args.names.now)) c.in-Some.guest c.parse_after_guest.result c.parse_after_guest.ensures.guest first
