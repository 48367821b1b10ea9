use Rattle.std.{proofs.{Common.{◌≡◌, List, map, ap, subst, ◌∙◌}, lemmas.Result.IfOk-weaker}, specs.{List.filter_map, BTreeSet.IsFromIterResult}}
use Rattle.model_board.specs.Paths.{Path}
use Rattle.paths.specs.PathOrders.{path_cmp}
use Rattle.board_file.specs.Entries.{File}
use Rattle.board_fit.{specs.{PathSets.{parent_bridge, remarks_on_bridges_not_in}, Warnings.{all_function_paths, empty_bridge_remarks, with_index}}, proofs.PathSets.empty}
use Rattle.board_fit.specs.declared.remark.Remark.TheVariants as remark
use Rattle.board_fit.proofs.warnings.empty_bridge_remarks.Goals as goal

pub returns : goal.returns
returns c =
    let f = c.args.file.now in
    let filled = c.in_ok-filled.filled in
    let set : IsFromIterResult path_cmp (filter_map parent_bridge (all_function_paths f)) filled =
    subst (λ (ps : List Path). IsFromIterResult path_cmp (filter_map parent_bridge ps) filled) (c.deref.ensures.value ∙ c.in_ok-paths.ensures) c.in_ok-filled.ensures in
    IfOk-weaker c.remarks_on_bridges_not_in.result (λ v. v.items ≡ remarks_on_bridges_not_in filled c.deref-2.result.now) (λ v. v.items ≡ empty_bridge_remarks f)
    (λ v is. is ∙ ap (remarks_on_bridges_not_in filled) (c.deref-2.ensures.value ∙ ap (λ (x : File). x.bridges) c.file.view_is) ∙ ap (map (with_index remark.EmptyBridge)) (empty (all_function_paths f) filled set _)) c.remarks_on_bridges_not_in.ensures
