use Rattle.std.proofs.Common.{arith}
use Rattle.board_file.proofs.Declaring.{config_off}
use Rattle.board_file.proofs.functions.config.ConfigEntryPartEntry.declare_if_masks_hold.Goals as goal

pub magnitude_as_u16-requires : goal.magnitude_as_u16-requires
magnitude_as_u16-requires c = grind (arith, config_off c.args.self.now c.requires)
