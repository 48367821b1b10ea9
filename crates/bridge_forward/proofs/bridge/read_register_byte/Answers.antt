-- A word read by the enables of a byte holds that byte in its lane.
use Rattle.std.proofs.Common.{◌≡◌, ◌*◌, ◌/◌, arith, ◌∙◌}
use Rattle.model_registers.{specs.{Registers.{config, read}, ByteEnables.{lanes, enables_of, enabled_bytes, from_lanes}}, proofs.ByteAccesses.number_from_word}
use Rattle.bridge_forward.proofs.bridge.read_register_byte.Goals as goal

pub returns : goal.returns
returns c =
    let file = c.args.cells.now.now in
    let off = c.args.off in
    let word = c.read-word.result in
    let enables : c.enables_of.result ≡ enables_of off 1 = cc in
    let shown : word ≡ read file (config (off / 4 * 4)) (lanes (enables_of off 1)) = cc in
    let alone : word ≡ enabled_bytes (lanes (enables_of off 1)) word = cc in
    let law = number_from_word file (config off) 1 word (omega arith) shown alone in
    let same : c.from_lanes.result ≡ from_lanes off 1 word = cc in
    same ∙ law
