use Rattle.std.proofs.Common.{◌≡◌, ◌<◌, false, drop, get_or}
use Rattle.model_guests.specs.Text.{is_blank}
use Rattle.lines.specs.Cursors.{IsRead}
use Rattle.lines.proofs.cursor.parse_eight_hex_digits.Given as goal

abbrev pub invariant-loop-i : goal.invariant-loop-i
invariant-loop-i l = record {
  read : IsRead 16 l.text l.number (drop l.i l.text);
  word : 0 < l.i → is_blank (get_or l.text 0 0) ≡ false;
}
