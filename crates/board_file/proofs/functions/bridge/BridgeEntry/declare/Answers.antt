use Rattle.std.proofs.{Common.{nat_abs, arith, lt-ltb}, lemmas.Grind.common_steps}
use Rattle.board_file.proofs.Declaring.{fixed_bits}
use Rattle.board_file.proofs.functions.bridge.BridgeEntry.declare.Goals as goal

pub unwrap-requires-2 : goal.unwrap-requires-2
unwrap-requires-2 c =
    let b = c.args.self.now in
    let vendor = lt-ltb (nat_abs b.vendor) 0xffff c.requires.vendor in
    let status = fixed_bits b.fixed_status c.requires.status in
    let secondary = fixed_bits b.fixed_secondary_status c.requires.secondary_status in
    grind (arith, common_steps)
