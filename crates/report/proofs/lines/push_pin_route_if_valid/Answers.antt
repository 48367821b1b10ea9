use Rattle.std.proofs.Common.{◌≡◌, eqb, ltb, false, ne_eqb, le-ltb, append-nil}
use Rattle.report.proofs.lines.push_pin_route_if_valid.Goals as goal

pub returns : goal.returns
returns c =
    let none : eqb c.args.pin 0 ≡ false = ne_eqb c.args.pin 0 c.if-pin-eq0.false in
    let few : ltb 4 c.args.pin ≡ false = le-ltb 4 c.args.pin c.if-pin-gt4.false in
    rw (none, few) (simp append-nil c.push_pin_route.ensures)
