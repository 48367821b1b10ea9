use Rattle.std.proofs.Common.{arith}
use Rattle.board_file.proofs.Declaring.{small, regions_of, configs_of, capabilities_of, decided}
use Rattle.board_file.proofs.functions.endpoint.EndpointEntry.declare_if_masks_hold.Goals as goal

pub declare_all_if_masks_hold-requires : goal.declare_all_if_masks_hold-requires
declare_all_if_masks_hold-requires c = grind (arith, regions_of)

pub declare_all_if_masks_hold-requires-2 : goal.declare_all_if_masks_hold-requires-2
declare_all_if_masks_hold-requires-2 c = grind (arith, configs_of)

pub declare_all_if_masks_hold-requires-3 : goal.declare_all_if_masks_hold-requires-3
declare_all_if_masks_hold-requires-3 c = grind (arith, capabilities_of)

pub values_without_capabilities-requires : goal.values_without_capabilities-requires
values_without_capabilities-requires c = small c.args.self.now c.requires

pub returns : goal.returns
returns c = grind (arith, decided)
