use Rattle.std.proofs.Common.{◌≡◌, ◌<◌, ◌^◌, drop}
use Rattle.model_guests.specs.Numbers.{below, digits_from}
use Rattle.lines.proofs.numbers.parse_digits.Given as goal

abbrev pub invariant-loop-byte : goal.invariant-loop-byte
invariant-loop-byte l = record {
  read : below (2 ^ 64) (digits_from l.base l.number (drop l.byte-index l.digits))
      ≡ below (2 ^ 64) (digits_from l.base 0 l.digits);
  small : l.number < 2 ^ 64;
}
