use Rattle.std.proofs.{Common.{subst}, lemmas.Result.IfOk-weaker}
use Rattle.model_registers.specs.Apertures.{Apertures}
use Rattle.model_board.specs.Board.{Board}
use Rattle.bus_scan.specs.SizedTables.{IsTableOf}
use Rattle.window_packing.specs.Readies.{board_below}
use Rattle.board_fit.specs.Verdicts.{IsVerdict}
use Rattle.board_fit.proofs.judging.judge.Goals as goal

pub returns-in-Ok-clause-verdict : goal.returns-in-Ok-clause-verdict
returns-in-Ok-clause-verdict c =
    let b = board_below c.args.host in
    let table = subst (λ (x : Board). IsTableOf x c.in-Ok.table) c.in-Ok.ensures.found.board c.in-Ok.ensures.found.table in
    let same = c.apertures-apertures.ensures in
    IfOk-weaker c.judge_function_table.result _ _
    (λ v said. subst (λ (a : Apertures). IsVerdict c.args.warned c.args.source.now.file b a v) same (said b table))
    c.judge_function_table.ensures.verdict
