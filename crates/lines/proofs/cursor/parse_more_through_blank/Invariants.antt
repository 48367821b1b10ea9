use Rattle.std.proofs.Common.{◌≡◌, ◌<◌, ◌^◌, drop}
use Rattle.model_guests.specs.Numbers.{below, digits_from}
use Rattle.lines.specs.Cursors.{before_blank, after_blank}
use Rattle.lines.proofs.cursor.parse_more_through_blank.Given as goal

abbrev pub invariant-loop-i : goal.invariant-loop-i
invariant-loop-i l = record {
  read : below (2 ^ 64) (digits_from l.base l.number (before_blank (drop l.i l.text)))
      ≡ below (2 ^ 64) (digits_from l.base l.start (before_blank l.text));
  after : after_blank (drop l.i l.text) ≡ after_blank l.text;
  small : l.number < 2 ^ 64;
}
