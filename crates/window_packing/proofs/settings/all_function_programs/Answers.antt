use Rattle.std.{proofs.Common.{◌≡◌, ℕ, List, [], ◌∷◌, ◌++◌, Some, ap, ap₂, sym, ◌∙◌, subst}, specs.List.slice_get}
use Rattle.model_board.specs.{Paths.last_part, Board.Row, Cycles.BusAddress}
use Rattle.model_set_up.specs.{Reach.address_of, SetUpWrites.{RegisterValues, FunctionProgram, writes_of, settings}, FunctionTable.{TableRow, found_decl, table_row, board_in, sized_table}}
use Rattle.lists.proofs.Indices.{read_at, same_at, map_at}
use Rattle.bridge_forward.proofs.RoutingRows.{take_at}
use Rattle.window_packing.proofs.BusIndex.{row_in}
use Rattle.window_packing.proofs.settings.all_function_programs.Goals as goal

pub loop-i-preserved : goal.loop-i-preserved
loop-i-preserved c =
    let rows = c.args.rows.now in
    let b = board_in rows in
    let a = c.args.apertures.now in
    let i = c.loop-i.i in
    let t = c.index-rows-i.result in
    let read : slice_get rows i ≡ Some t = read_at rows i t c.loop-i-test.true c.index-rows-i.is in
    let at : slice_get b i ≡ Some (row_in t) = map_at row_in rows i t read in
    let numbered : t ≡ table_row b found_decl (row_in t) = same_at (sized_table b) i t (table_row b found_decl (row_in t)) (subst (λ (ts : List TableRow). slice_get ts i ≡ Some t) c.requires.numbered read) (map_at (table_row b found_decl) b i (row_in t) at) in
    let number = c.address.ensures ∙ ap (λ (n : ℕ). let x : BusAddress = record { bus = n; part = last_part t.path } in x) (ap (λ (u : TableRow). u.bus) numbered) in
    let one = ap₂ (λ (x : BusAddress) (y : RegisterValues). let s : FunctionProgram = record { at = x; writes = y } in s) number (c.register_values_of_row.ensures (row_in t) at) in
    let setting : Row → FunctionProgram = λ r. record { at = address_of b r.path; writes = writes_of b a r.path r.decl } in
    c.in_ok-push.ensures.items ∙ ap₂ (λ (xs : List FunctionProgram) (y : FunctionProgram). xs ++ y ∷ []) c.loop-i.invariant one ∙ sym (take_at (settings b a) i (setting (row_in t)) (map_at setting b i (row_in t) at))
