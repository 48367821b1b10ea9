-- What a session is once its board, or its guests, were lent.
--     LendsBoard s b      it is driven, with the board that was left behind b
--     LendsMonitor s m      it is given, with the guests that were left behind m
use Rattle.std.specs.{Prelude.Option, Borrow.{LendsIf, MutBor, Fml}}
use Rattle.model_handoff.specs.Changes.{MachineNow}
use Rattle.model_lines.specs.Sessions.{DrivenNow, SessionNow, driven, given}
use Rattle.claim_table.specs.contracts.table.Table as table
use Rattle.claim_table.specs.contracts.table.TableRoute.TheImpl as route
use Rattle.monitor.specs.contracts.engine.Engine as engine
use Rattle.session.specs.contracts.board.Board as board
use Rattle.session.specs.contracts.session.Session as session

abbrev pub LendsBoard : MutBor SessionNow → Option (MutBor DrivenNow) → Fml
LendsBoard s b = LendsIf session.the_row board.the_row s b driven s.now

abbrev pub LendsMonitor : MutBor SessionNow → Option (MutBor MachineNow) → Fml
LendsMonitor s m = LendsIf session.the_row (engine.the_row table.the_row route.ghosts) s m given s.now
