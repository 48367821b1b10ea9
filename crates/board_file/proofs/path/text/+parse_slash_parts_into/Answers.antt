use Rattle.std.proofs.{lemmas.{Grind.common_steps, List.take_rest}, Common.{◌≡◌, suc, ◌-◌, sym, is_some, Some, drop, arith}}
use Rattle.board_file.{specs.PathTexts.parse_leading_part, proofs.PathSteps.{one_more, some_map, pushed_after}}
use Rattle.board_file.proofs.path.text.+parse_slash_parts_into.Goals as goal

pub returns-in-Some-clause-all : goal.returns-in-Some-clause-all
returns-in-Some-clause-all t c = grind (arith, common_steps, take_rest, one_more, is_some, some_map)

pub returns-in-Some-clause-pushed : goal.returns-in-Some-clause-pushed
returns-in-Some-clause-pushed t c =
    let room : c.args.room ≡ suc (c.args.room - 1) = omega arith in
    let found : parse_leading_part (drop 1 c.args.text.now) ≡ Some (c.in-Some.found.0, c.in-Some.found.1.now) = rw (take_rest c.args.text.now 1) at (sym c.in-Some.ensures) in
    let e = one_more c.args.room (c.args.room - 1) c.args.text.now (c.in-Some.found.0, c.in-Some.found.1.now) (omega arith) room c.if-slash-ne47.false found in
    rw e (pushed_after c.in-Some.found.0 _ c.args.path.now _ _ c.push.ensures c.parse_slash_parts_into.ensures.pushed)
