-- `of` has the pointer of a box from a call, and what the box owned stays with it.
use mathlib.Core.List.{[], ◌∷◌}
use mathlib.Core.Path.{refl, ap}
use base.Logic.{emp, id⊢}
use base.Fml.{ftrue, fsep, flft}
use base.Fraction.{full_share}
use mir.Syntax.{Args, a_type, dcons, dnil}
use mir.MapTy.{inst_fn}
use mir.Val.{vstruct, vcons, vnil}
use contract.BorrowLft.{◌⊑◌}
use contract.Monad.{fact, fact_i}
use contract.Running.{tables}
use types.Kit.{Item, ‵, raw, ◌⊛◌, some, later, ◌$◌, ◌∵◌, !, qed, done, drop, move, use0, use1, split, join, fjoin, feq_l, pick, await, suffices}
use types.Part.{agg}
use types.Run.{enter, of_opd, no_more, and_then, returns}
use types.ByLocal.{alloc_all, pass_all, free_all, look_at, get, sets, lands_as}
use denote.Exit.{no}
use denote.Laws.{Is}
use denote.Param.{bounded, param}
use denote.Param.Laws.{param_laws}
use denote.RawPtr.{Ptr, RawPtr, rawptr_Lawful, ptr_val}
use denote.Signature.{plain}
use denote.Steps.{nothing, owned, only}
use denote.Struct.Struct.{Struct, Struct-Makes}
use denote.Struct.Owning.{shape, to}
use denote.Struct.Laws.{RawPtr-plain}
use denote.Triple.Call.{calls_at}
use denote.Triple.Spec.{triple_of}
use denote.Triple.Table.{framed}
use denote.Triple.Walked.{Stays, stay_dropped, walk_of, says, ends_at}
use Rattle.std.{proofs.raw_atomic.Walks.proved, specs.Box.Ownership.box_owns}
use Rattle.core.proofs.alloc.Calls.{Goes-blank}
use Rattle.std_alloc.proofs.{ResultValues.and_tt, boxed.Box.into_raw.Met.met}
use Rattle.std_heap.{specs.contracts.GlobalAllocator.TheImpl.{ghosts, dict}, proofs.GlobalAllocator.TheImpl.Met.passed}
use Rattle.std_alloc.specs.contracts.boxed.Box as Box
use Rattle.std_alloc.proofs.boxed.Box.TheLaws as box
use Rattle.std_alloc.specs.contracts.boxed.Box.into_raw as g
use Rattle.std_heap.specs.contracts.Global as Heap
use Rattle.std_heap.proofs.Global.TheLaws as heap
use denote.Param.NoDrop.{glues}
use Rattle.pciguest_c.{specs.Owning.may_free, proofs.{Moved.{Passed, passed_laws, drops}, unboxed.Unboxed.of.Statement.statement}}
use Rattle.pciguest_c.proofs.Destruct++none.drop.Code as none
use Rattle.pciguest_c.specs.contracts.unboxed.Unboxed as Unboxed
use Rattle.pciguest_c.specs.contracts.unboxed.Unboxed.of as f
use Rattle.pciguest_c.proofs.unboxed.Unboxed.of.Code as code

pub of_spec : {M : Type 1} → statement M
unfolding none.code
of_spec {M} 𝓤 𝓛 𝓜 𝓡 wired X lawful drop_x glue =
    let R = param 0 X in let From = Box.the_row R Heap.the_row ghosts in let To = Unboxed.the_row R in let Words = Struct (shape (Unboxed.the_type R)) in
    let Freer = Passed Heap.the_row in let freer_laws = passed_laws Heap.the_row heap.the_row_laws refl in
    let T = f.ended X drop_x in let stayed : Stays T.signature.params T.kept = (stay_dropped _ no, tt) in
    let c = f.clauses X drop_x 𝓛 𝓜.mem 𝓡.returns in let W = walk_of 𝓛 T stayed c in let 𝓣 = tables 𝓤 𝓛.H 𝓜 𝓡 𝓡.env in
    let args : Args = bounded (a_type ∷ []) (X, tt) (dcons drop_x dnil) in let fn = inst_fn args code.function in
    let lowers = box.lowers R Heap.the_row ghosts (param_laws 0 X lawful) heap.the_row_laws heap.the_told in
    proved 𝓛 T stayed c 𝓜 𝓡 (Goes-blank 𝓛 1 (plain (λ _. From)) no (λ κs x w. tt), tt)
    (f.Key.name args) fn (code.unfolded 𝓤 𝓛.H 𝓜 𝓡 wired (X, tt) drop_x)
    (λ κs. ((λ d. lowers.lowered d ∷ []), tt)) (λ κs. (lowers.val_is, tt)) (λ κs qs bounds a _ are.
    let d = a.0 in let w = lowers.lowered d in let y : W.Ghost = ((κs, qs, bounds, a, (w ∷ [], tt)), tt) in
    let typed = ((box.the_row_laws R Heap.the_row ghosts (param_laws 0 X lawful) heap.the_row_laws).lawful 𝓛).typed d (w ∷ []) are.0 in
    let G = triple_of 𝓛 (g.signature X Freer ghosts dict drops drop_x) (g.spec X Freer ghosts dict drops drop_x 𝓛 𝓜.mem 𝓡.returns) in
    let z : G.Ghost = (((κs.0, ([], tt)), (qs.0, (full_share, tt)), tt, (d, tt), (w ∷ [], tt)), tt) in
    let ts : Item 𝓤 = ‵ (flft κs.0 qs.0) ⊛ ‵ (flft [] full_share) ⊛ ‵ ftrue in
    qed 𝓛 (((‵ (flft κs.0 qs.0) ⊛ ‵ ftrue) ⊛ (‵ (From.own_val d (w ∷ [])) ⊛ ‵ ftrue)) ∷ (raw (fact 𝓤 (κs.0 ⊑ X.lives)) ⊛ ‵ ftrue) ∷ []) ∵
    split ! $ split ! $ move ! (1 ∷ []) $ use0 𝓛 (‵ (flft [] full_share)) (𝓛.lfts.lft-nil full_share) $ join ! $ move ! (1 ∷ 0 ∷ []) $ join ! $ join ! $
    move ! (1 ∷ []) $ split ! $ move ! (1 ∷ []) $ use0 𝓛 (raw (fact 𝓤 ([] ⊑ Heap.the_row.lives))) (fact_i 𝓤 ([] ⊑ Heap.the_row.lives) (emp 𝓤) (heap.the_within [])) $ join ! $
    move ! (1 ∷ 0 ∷ []) $ join ! $ move ! (1 ∷ 0 ∷ []) $ join ! $ use1 𝓛 (raw (G.pre z)) (id⊢ 𝓤 _) $
    enter ! _ _ _ _ _ $ alloc_all ! (λ l. pass_all ! refl typed $
    sets ! (of_opd ! (get ! refl)) refl typed.0 $
    calls_at ! (framed 𝓤 𝓛.H 𝓜 𝓣) G (met 𝓤 𝓛 𝓜 𝓡 (code.calls-std_alloc::boxed::Box::into_raw 𝓡.env wired) X Freer lawful freer_laws ghosts dict drops drop_x
    (passed 𝓡.env (code.calls-std_heap::GlobalAllocator::allocate 𝓡.env wired) (code.calls-std_heap::GlobalAllocator::deallocate 𝓡.env wired)
    (code.calls-std_heap::GlobalAllocator::grow 𝓡.env wired) (code.calls-std_heap::GlobalAllocator::shrink 𝓡.env wired) M 𝓤 𝓛 𝓜 𝓡)
    (glues "pciguest_c::Destruct++none::drop" 𝓡.env (code.calls-pciguest_c::Destruct++none::drop 𝓡.env wired) Freer freer_laws M 𝓤 𝓛 𝓜 𝓡) glue)
    z (and_then ! (get ! refl) (no_more !)) (λ u.
    use1 𝓛 (later (some (λ (r : Ptr). (ts ⊛ ‵ (RawPtr.own_val r (u ∷ []))) ⊛
    some (λ (_ : (Unit {0} × (Unit {0} × Unit {0})) × Unit {0}). ‵ (fsep (fsep ftrue (fsep ftrue ftrue)) ftrue) ⊛ ‵ (box_owns may_free R r d.value))))) (id⊢ 𝓤 _) $
    await ! tt $ pick ! (λ r. split ! $ move ! (1 ∷ []) $ pick ! (λ _. split ! $ drop ! $ move ! (1 ∷ []) $ split ! $ move ! (1 ∷ []) $ feq_l ! (λ told.
    -- [the tokens; what the pointer owns]
    let pointer = (rawptr_Lawful 𝓛).typed r _ refl in let made : To.Denot = record { at = r; value = d.value } in let v = vstruct (vcons (ptr_val r) vnil) in
    lands_as ! (ap only told) refl pointer.0 $
    sets ! (agg ! (and_then ! (get ! refl) (no_more !))) refl (and_tt _ pointer.0.0, (pointer.0.1, tt)) $
    returns ! (look_at ! 0 refl) $ free_all ! refl $ split ! $ move ! (1 ∷ []) $ split ! $ drop ! $ move ! (2 ∷ []) $
    owned ! Words (Is Words) (Struct-Makes 𝓛 (shape (Unboxed.the_type R)) (RawPtr-plain, tt)) (to (Unboxed.the_type R) made) (v ∷ []) ((ptr_val r ∷ [], tt), (refl, (refl, tt))) $ fjoin ! $
    suffices ! _ (ends_at 𝓛 T stayed c y v made (tt, tt) (tt, tt)) $ says ! refl $
    nothing ! $ nothing ! $ fjoin ! $ join ! $ move ! (2 ∷ 1 ∷ []) $ join ! $ join ! $ done !))))))
