-- A number of at most eight bytes fits.
use Rattle.std.proofs.Common.{rules, arith, ◌-◌}
use Rattle.pciguest_c.proofs.DeviceBytes.{one_more, eight}
use Rattle.pciguest_c.proofs.values.bytes.+read_le_bytes.Goals as goal

pub overflow_mul-result : goal.overflow_mul-result
overflow_mul-result t c =
    let n = c.args.count in
    let small = one_more n (n - 1) 0 c.in_ok-above.above (omega arith) (omega arith) c.in_ok-above.ensures.small in
    omega (arith, eight n c.requires.few)

pub overflow_add-result : goal.overflow_add-result
overflow_add-result t c =
    let n = c.args.count in
    let small = one_more n (n - 1) c.from.result c.in_ok-above.above (omega arith) (search rules) c.in_ok-above.ensures.small in
    omega (arith, eight n c.requires.few)

pub returns-clause-small : goal.returns-clause-small
returns-clause-small t c = grind (arith, one_more)
