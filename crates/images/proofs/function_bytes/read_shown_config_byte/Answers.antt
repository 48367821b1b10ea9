use Rattle.std.proofs.Common.{arith}
use Rattle.model_registers.{specs.Registers.config, proofs.ByteAccesses.number_by_lanes}
use Rattle.images.specs.Shown.{shown_byte, source}
use Rattle.images.proofs.function_bytes.read_shown_config_byte.Goals as goal

pub returns : goal.returns
unfolding shown_byte
returns c =
    let src = source c.args.endpoint.now c.args.own.now (config c.args.off) in
    let whole = number_by_lanes src (config c.args.off) 1 (omega arith) in
    grind arith
