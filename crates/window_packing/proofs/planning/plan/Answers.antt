use Rattle.std.proofs.{Common.{◌≡◌, List, sym, subst, arith}, lemmas.Result.err_from_is_err_and}
use Rattle.model_board.specs.{Board.IsBoard, Lawful.HasLawfulDecls}
use Rattle.model_set_up.specs.{SetUpWrites.planned, FunctionTable.{TableRow, board_in}}
use Rattle.window_packing.proofs.TablePlans.{listable_rows, planned_rows, refusal_of, plan_of, placeable_of, lawful_of}
use Rattle.window_packing.proofs.planning.plan.Goals as goal

is_board : (t rows : List TableRow) → rows ≡ t → IsBoard (board_in t) → IsBoard (board_in rows)
is_board t rows e h = subst (λ (x : List TableRow). IsBoard (board_in x)) (sym e) h

is_lawful : (t rows : List TableRow) → rows ≡ t → HasLawfulDecls (board_in t) → HasLawfulDecls (board_in rows)
is_lawful t rows e h = subst (λ (x : List TableRow). HasLawfulDecls (board_in x)) (sym e) h

pub returns-in_err-placement-clause-refused : goal.returns-in_err-placement-clause-refused
returns-in_err-placement-clause-refused c =
    let p = err_from_is_err_and c.from_residual-in_err-placement.result c.from_residual-in_err-placement.ensures.1 in
    rw (p.1, p.2) (λ b h. refusal_of _ _ c.rows-rows.ensures b h c.args.apertures.now _ c.in_err-placement.ensures.refused)

pub new-requires : goal.new-requires
new-requires c = grind (arith, listable_rows, is_board, is_lawful)

-- the plan of what was found
found : (c : goal.After-drop-above-2) → c.new.result ≡ planned (board_in c.rows-rows.result.now) c.args.apertures.now
found c =
    let t = c.args.table.now in
    let rows = c.rows-rows.result.now in
    let e = c.rows-rows.ensures in
    planned_rows rows (is_board t rows e c.requires.board) (is_lawful t rows e c.requires.declarations) c.args.apertures.now
    c.in_ok-paths.paths.items c.in_ok-paths.ensures c.in_ok-placement.placement c.in_ok-placement.ensures.placed
    c.in_ok-settings.settings.items c.in_ok-settings.ensures c.new.result c.new.ensures

pub returns-clause-planned : goal.returns-clause-planned
returns-clause-planned c = λ b h. plan_of _ _ c.rows-rows.ensures b h c.args.apertures.now _ (found c)

pub returns-clause-lawful : goal.returns-clause-lawful
returns-clause-lawful c = λ b h.
    lawful_of _ _ c.rows-rows.ensures b h c.args.apertures.now c.in_ok-placement.ensures.placed.io.apertures c.in_ok-placement.ensures.kept _ (found c)

pub returns-clause-placeable : goal.returns-clause-placeable
returns-clause-placeable c = λ b h.
    placeable_of _ _ c.rows-rows.ensures b h c.args.apertures.now c.in_ok-placement.ensures.placed.io.apertures c.in_ok-placement.ensures.kept
