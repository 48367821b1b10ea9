-- `into_box` hands the pointer, with the session that it owns, to a call that makes a box of it.
use mathlib.Core.List.{List, [], ◌∷◌}
use mathlib.Core.Path.{◌≡◌, refl, sym, ap, ◌∙◌}
use base.Logic.{emp, id⊢}
use base.Fml.{ftrue, fsep, flft}
use base.Fraction.{full_share}
use mir.Val.{Val}
use contract.BorrowLft.{◌⊑◌, ⊑_refl}
use contract.Monad.{fact, fact_i}
use contract.Running.{tables}
use types.Kit.{Item, ‵, raw, ◌⊛◌, some, later, ◌$◌, ◌∵◌, !, qed, done, drop, move, use0, use1, split, split3, join, fjoin, fsplit, feq_i, at_ret, pick, await, rewrite, suffices}
use types.Part.{whole, sub}
use types.Run.{enter, first, blocks, exec, of_opd, stop, fld, no_more, and_then, returns}
use types.ByLocal.{alloc_all, pass_all, free_all, look_at, get, get_in, sets, lands_last, env}
use denote.Exit.{yes}
use denote.Laws.{Is, shows}
use denote.Param.NoDrop.{glues}
use denote.RawPtr.{rawptr_Lawful, ptr_val}
use denote.Signature.{plain}
use denote.Steps.{nothing, heard, peeks}
use denote.Triple.Call.{calls_at_last}
use denote.Triple.Spec.{triple_of}
use denote.Triple.Table.{framed}
use denote.Triple.Walked.{Stays, stay_dropped, walk_of, says, Goes-dropped, ends_at}
use Rattle.std.{proofs.{raw_atomic.Walks.proved, VecSteps.Shapes.after}, specs.Prelude.{Option, Some, IsSome}}
use Rattle.std_alloc.proofs.boxed.Box.from_raw.Met.{met}
use Rattle.std_heap.{specs.contracts.GlobalAllocator.TheImpl.{ghosts, dict}, proofs.GlobalAllocator.TheImpl.Met.passed}
use Rattle.pciguest_c.{proofs.{Moved.{Passed, passed_laws, drops, some_of}, owner.Owner.into_box.Statement.statement}, specs.contracts.owner.Owner.the_row as Owner}
use Rattle.std_alloc.specs.contracts.boxed.Box as Box
use Rattle.std_alloc.proofs.boxed.Box.TheLaws as box
use Rattle.std_alloc.specs.contracts.boxed.Box.from_raw as g
use Rattle.std_heap.specs.contracts.Global as Heap
use Rattle.std_heap.proofs.Global.TheLaws as heap
use Rattle.session.specs.contracts.session.Session as Session
use Rattle.session.proofs.session.Session.TheLaws as session
use Rattle.pciguest_c.proofs.Destruct++none.drop.Code as none
use Rattle.pciguest_c.proofs.owner.Owner.TheLaws as owner
use Rattle.pciguest_c.specs.contracts.owner.Owner.into_box as f
use Rattle.pciguest_c.proofs.owner.Owner.into_box.Code as code

abbrev stayed : Stays f.ended.signature.params f.ended.kept
stayed = (stay_dropped _ yes, (stay_dropped _ yes, tt))

pub into_box_spec : {M : Type 1} → statement M
unfolding none.code
into_box_spec {M} 𝓤 𝓛 𝓜 𝓡 wired =
    let X = Session.the_row in let To = Box.the_row X Heap.the_row ghosts in let alive = ◌⊑◌ [] [] in
    let Asked = Passed X in let Freer = Passed Heap.the_row in let freer_laws = passed_laws Heap.the_row heap.the_row_laws refl in
    let c = f.clauses 𝓛 𝓜.mem 𝓡.returns in let W = walk_of 𝓛 f.ended stayed c in let 𝓣 = tables 𝓤 𝓛.H 𝓜 𝓡 𝓡.env in
    proved 𝓛 f.ended stayed c 𝓜 𝓡 (Goes-dropped 𝓛 0 (plain (λ _. Owner)) yes (λ κs x w. refl), (Goes-dropped 𝓛 0 (plain (λ _. Heap.the_row)) yes (λ κs x w. refl), tt))
    f.Key.name code.function (code.unfolded 𝓤 𝓛.H 𝓜 𝓡 wired)
    (λ κs. ((λ d. owner.lowered d ∷ []), ((λ h. heap.lowered h ∷ []), tt))) (λ κs. (owner.lowers.val_is, (heap.lowers.val_is, tt))) (λ κs qs bounds a _ are.
    let d = a.0 in let w = owner.lowered d in let h = heap.lowered a.1.0 in
    let y : W.Ghost = ((κs, qs, bounds, a, (w ∷ [], (h ∷ [], tt))), tt) in
    let typed = (owner.the_row_laws.lawful 𝓛).typed d (w ∷ []) are.0 in let fits = (heap.the_row_laws.lawful 𝓛).typed a.1.0 (h ∷ []) are.1.0 in
    let pointer = (rawptr_Lawful 𝓛).typed d.at _ refl in let G = triple_of 𝓛 (g.signature Asked Freer ghosts dict drops) (g.spec Asked Freer ghosts dict drops 𝓛 𝓜.mem 𝓡.returns) in
    let ts : Item 𝓤 = ‵ (flft [] full_share) ⊛ ‵ (flft [] full_share) ⊛ ‵ ftrue in
    qed 𝓛 ((‵ ftrue ⊛ (‵ (Owner.own_val d (w ∷ [])) ⊛ (‵ (Heap.the_row.own_val a.1.0 (h ∷ [])) ⊛ ‵ ftrue))) ∷ raw (fact 𝓤 (IsSome d.value)) ∷ []) ∵
    move ! (1 ∷ []) $ heard ! _ (λ is_some. let there = some_of d.value is_some in
    let z : G.Ghost = ((([], ([], tt)), (full_share, (full_share, tt)), tt, (a.1.0, (d.at, tt)), (h ∷ [], (ptr_val d.at ∷ [], tt))), there.0) in
    split ! $ drop ! $ split ! $
    rewrite ! 0 (λ (v : Option X.Denot). ‵ (Owner.own_val (record d { value = v }) (w ∷ []))) there.1 refl $ fsplit ! $ drop ! $
    -- [what the pointer owns; the handle]
    use0 𝓛 (raw (fact 𝓤 alive)) (fact_i 𝓤 alive (emp 𝓤) (⊑_refl [])) $ join ! $ use0 𝓛 (raw (fact 𝓤 alive)) (fact_i 𝓤 alive (emp 𝓤) (⊑_refl [])) $ join ! $
    move ! (1 ∷ []) $ split ! $ move ! (1 ∷ []) $ feq_i ! (List Val) (ptr_val d.at ∷ []) (ptr_val d.at ∷ []) refl $ fjoin ! $ move ! (1 ∷ 0 ∷ []) $ fjoin ! $
    nothing ! $ use0 𝓛 (‵ (flft [] full_share)) (𝓛.lfts.lft-nil full_share) $ join ! $ use0 𝓛 (‵ (flft [] full_share)) (𝓛.lfts.lft-nil full_share) $ join ! $
    join ! $ join ! $ use1 𝓛 (raw (G.pre z)) (id⊢ 𝓤 _) $
    enter ! _ _ _ _ _ $ alloc_all ! (λ l. pass_all ! refl (typed.0, (fits.0, tt)) $
    sets ! (of_opd ! (get_in ! (fld ! refl (stop !)) (sub ! 0 refl (whole !)))) refl pointer.0 $
    first ! $ blocks ! $ sets ! (of_opd ! (get ! refl)) refl pointer.0 $
    calls_at_last ! (framed 𝓤 𝓛.H 𝓜 𝓣) G (met 𝓤 𝓛 𝓜 𝓡 (code.calls-std_alloc::boxed::Box::from_raw 𝓡.env wired) Asked Freer (passed_laws X session.the_row_laws refl) freer_laws ghosts dict drops
    (passed 𝓡.env (code.calls-std_heap::GlobalAllocator::allocate 𝓡.env wired) (code.calls-std_heap::GlobalAllocator::deallocate 𝓡.env wired)
    (code.calls-std_heap::GlobalAllocator::grow 𝓡.env wired) (code.calls-std_heap::GlobalAllocator::shrink 𝓡.env wired) M 𝓤 𝓛 𝓜 𝓡)
    (glues "pciguest_c::Destruct++none::drop" 𝓡.env (code.calls-pciguest_c::Destruct++none::drop 𝓡.env wired) Freer freer_laws M 𝓤 𝓛 𝓜 𝓡))
    z (and_then ! (get ! refl) (and_then ! (get ! refl) (no_more !))) (λ u.
    use1 𝓛 (later (some (λ (r : To.Denot). (ts ⊛ ‵ (To.own_val r (u ∷ []))) ⊛ some (λ (_ : Unit {0} × (Unit {0} × Unit {0})). ‵ (fsep ftrue (fsep ftrue ftrue)) ⊛
    (raw (fact 𝓤 (r.value ≡ there.0)) ⊛ raw (fact 𝓤 (r.alloc ≡ a.1.0))))))) (id⊢ 𝓤 _) $
    await ! tt $ pick ! (λ r. split ! $ move ! (1 ∷ []) $ pick ! (λ _. split3 ! $ drop ! $ heard ! (r.value ≡ there.0) (λ same. drop ! $ split ! $ drop ! $
    -- [the box]
    peeks ! To (Is To) (shows 𝓛 To) r (u ∷ []) (λ is.
    let good = ((box.the_row_laws X Heap.the_row ghosts session.the_row_laws heap.the_row_laws).lawful 𝓛).typed r (u ∷ []) is in
    lands_last ! refl good.0 $ exec ! 𝓣.C 𝓣.Λ (env code.function.locals l) (after 2 code.function.body) (at_ret _ (W.post y)) $
    sets ! (of_opd ! (get ! refl)) refl good.0 $ returns ! (look_at ! 0 refl) $ free_all ! refl $
    suffices ! _ (ends_at 𝓛 f.ended stayed c y u r (tt, (tt, tt)) (tt, (tt, tt))) $ says ! (there.1 ∙ ap Some (sym same)) $
    nothing ! $ nothing ! $ fjoin ! $ nothing ! $ fjoin ! $ join ! $ nothing ! $ join ! $ done !))))))))
