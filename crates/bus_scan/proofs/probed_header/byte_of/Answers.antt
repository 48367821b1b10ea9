use Rattle.std.proofs.{Common.{◌*◌, ◌/◌, ◌%◌, ◌^◌, ap, ◌∙◌}, lemmas.Nat.and_mask}
use Rattle.config_bytes.proofs.Shifts.{byte_power}
use Rattle.bus_scan.proofs.probed_header.byte_of.Goals as goal

pub returns : goal.returns
returns c = and_mask (c.args.word / 2 ^ (8 * c.args.lane)) 8 ∙ ap (λ n. c.args.word / n % 256) (byte_power c.args.lane)
