-- A word read by the enables of a number holds that number in its lanes.
use Rattle.std.proofs.{Common.{◌≡◌, ◌*◌, ◌/◌, arith}, Math.Nat.one-le-pow}
use Rattle.model_registers.{specs.{Registers.{config, read}, ByteEnables.{lanes, enables_of, enabled_bytes}}, proofs.ByteAccesses.number_from_word}
use Rattle.headers.proofs.register_words.read_register.Goals as goal

pub returns-clause-value : goal.returns-clause-value
returns-clause-value c =
    let file = c.args.cells.now.now in
    let off = c.args.off in
    let width = c.args.width in
    let word = c.read-word.result in
    let shown : word ≡ read file (config (off / 4 * 4)) (lanes (enables_of off width)) = cc in
    let alone : word ≡ enabled_bytes (lanes (enables_of off width)) word = cc in
    let law = number_from_word file (config off) width word c.requires shown alone in
    grind arith

pub returns-clause-fits : goal.returns-clause-fits
returns-clause-fits c = grind (arith, one-le-pow)
