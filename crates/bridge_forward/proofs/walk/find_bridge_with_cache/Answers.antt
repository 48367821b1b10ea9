use Rattle.std.proofs.Common.{arith}
use Rattle.bridge_forward.proofs.KnownRoutes.{found_some, known_at, routes_more}
use Rattle.bridge_forward.proofs.walk.find_bridge_with_cache.Goals as goal

pub returns-in-Some-clause-found : goal.returns-in-Some-clause-found
returns-in-Some-clause-found c = grind (arith, known_at)

pub returns-clause-routes : goal.returns-clause-routes
returns-clause-routes c = grind (arith, routes_more, found_some)
