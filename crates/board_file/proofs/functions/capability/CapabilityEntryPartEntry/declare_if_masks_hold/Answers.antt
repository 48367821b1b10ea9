use Rattle.board_file.proofs.Declaring.{capability_fits}
use Rattle.board_file.proofs.functions.capability.CapabilityEntryPartEntry.declare_if_masks_hold.Goals as goal

pub declare_capability_if_masks_hold-requires : goal.declare_capability_if_masks_hold-requires
declare_capability_if_masks_hold-requires c = let (id, off) = capability_fits c.args.self.now c.requires in record { id = id; off = off }
