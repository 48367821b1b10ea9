use Rattle.bridge_forward.proofs.Known.{none_later}
use Rattle.bridge_forward.proofs.routes.Routes.invalidate_all.Goals as goal

pub returns-then-self-lt18446744073709551615 : goal.returns-then-self-lt18446744073709551615
returns-then-self-lt18446744073709551615 c = none_later c.self.inside.time c.self.inside.bridges.items c.self.invariant
