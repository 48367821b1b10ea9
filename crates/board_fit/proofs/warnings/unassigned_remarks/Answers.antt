use Rattle.std.{proofs.{Common.{◌≡◌, ◌==◌, ℕ, false, List, length, map, ap, sym, subst, ◌∙◌, arith}, lemmas.Result.IfOk-weaker}, specs.{Prelude.◌≢◌, BTreeSet.IsFromIterResult}}
use Rattle.paths.specs.PathOrders.{path_cmp}
use Rattle.board_file.specs.Entries.{Guest}
use Rattle.board_fit.{specs.{PathSets.{remarks_on_endpoints_not_in, valid_slot_paths}, Warnings.with_index}, proofs.PathSets.of_none}
use Rattle.board_fit.specs.declared.remark.Remark.TheVariants as remark
use Rattle.board_fit.proofs.warnings.unassigned_remarks.Goals as goal

none_of : (n : ℕ) → n ≢ 0 → (n == 0) ≡ false
none_of n other = grind arith

pub returns : goal.returns
returns c =
    let given = c.in_ok-given.given in
    let guests = c.file.inside.guests.items in
    let set : IsFromIterResult path_cmp (valid_slot_paths guests) given =
    subst (λ (gs : List Guest). IsFromIterResult path_cmp (valid_slot_paths gs) given) c.deref.ensures.value c.in_ok-given.ensures in
    let some : (length guests == 0) ≡ false = ap (λ (n : ℕ). n == 0) (sym (c.len.ensures ∙ c.file.inside.guests.ok.0)) ∙ none_of c.len.result c.if-len-eq0.false in
    rw (← c.file.view_is, some) (IfOk-weaker c.remarks_on_endpoints_not_in.result (λ v. v.items ≡ remarks_on_endpoints_not_in given c.deref-2.result.now) _
    (λ v is. is ∙ ap (remarks_on_endpoints_not_in given) c.deref-2.ensures.value ∙ ap (map (with_index remark.EndpointOfNone)) (of_none guests given set _)) c.remarks_on_endpoints_not_in.ensures)
