use Rattle.std.proofs.Common.{length, ap, ◌∙◌}
use Rattle.model_board.specs.State.{State}
use Rattle.monitor.proofs.Calls.{kept_in}
use Rattle.monitor.proofs.engine.Engine.count.Goals as goal

pub returns : goal.returns
returns g c = c.count.ensures ∙ ap (λ (s : State). length s.functions) (kept_in c.self.invariant.1 c.self.view_is).agrees
