use Rattle.std.proofs.Common.{rules}
use Rattle.monitor.proofs.{Shown.names_kept, Calls.kept_in}
use Rattle.monitor.proofs.engine.Engine.names.Goals as goal

pub returns : goal.returns
returns g c = search (rules, kept_in, names_kept)
