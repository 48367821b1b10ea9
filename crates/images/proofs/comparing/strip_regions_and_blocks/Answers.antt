use Rattle.std.proofs.Common.{arith}
use Rattle.images.proofs.ComparedBytes.{are_counted, ends, rest_goes_on}
use Rattle.images.proofs.comparing.strip_regions_and_blocks.Goals as goal

pub strip_counted_blocks-requires : goal.strip_counted_blocks-requires
strip_counted_blocks-requires c =
    let are = are_counted c.args.values.now c.deref-2.result.now c.requires (grind arith) in
    record { lawful = are.lawful; count = are.count }

pub returns-in_err-bytes-clause-refused : goal.returns-in_err-bytes-clause-refused
returns-in_err-bytes-clause-refused c = grind (arith, ends)

pub returns-clause-left : goal.returns-clause-left
returns-clause-left c =
    let all = rest_goes_on c.args.values.now c.deref.result.now c.deref-2.result.now c.args.bytes.now c.in_ok-bytes.bytes.now (grind arith) (grind arith) c.in_ok-bytes.ensures.left in
    grind arith

pub returns-clause-refused : goal.returns-clause-refused
returns-clause-refused c =
    let all = rest_goes_on c.args.values.now c.deref.result.now c.deref-2.result.now c.args.bytes.now c.in_ok-bytes.bytes.now (grind arith) (grind arith) c.in_ok-bytes.ensures.left in
    grind arith
