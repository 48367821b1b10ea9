use Rattle.std.proofs.Common.{arith}
use Rattle.model_registers.proofs.Bases.{base_room, size_limits}
use Rattle.bars.{specs.Slots.placed, proofs.Regions.width_limit}
use Rattle.bars.proofs.region.BarWithBase.register_value.Goals as goal

pub overflow_add-result : goal.overflow_add-result
overflow_add-result c = grind (arith, base_room (placed 0 c.args.self.now) c.requires, width_limit c.args.self.now.decl.kind, size_limits)
