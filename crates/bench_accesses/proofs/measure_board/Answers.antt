use Rattle.std.proofs.Common.{ap}
use Rattle.model_board.specs.Routing.{routing}
use Rattle.bench_accesses.proofs.measure_board.Goals as goal

pub measure_accesses-requires : goal.measure_accesses-requires
measure_accesses-requires g c =
    c.in-Ok.ensures c.into_parts-host.result.0 (ap (λ parts. routing parts.0.state.functions) c.into_parts-host.ensures.parts)
