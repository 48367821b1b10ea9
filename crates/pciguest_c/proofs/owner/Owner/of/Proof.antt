-- `of` moves a pointer, and what it owns goes with it.
use mathlib.Core.List.{[], ◌∷◌}
use mathlib.Core.Path.{refl}
use base.Logic.{id⊢}
use base.Fml.{ftrue}
use types.Kit.{‵, ◌⊛◌, ◌$◌, ◌∵◌, !, qed, done, drop, move, use1, split, join, fjoin, suffices}
use types.Part.{whole, sub, agg}
use types.Run.{enter, of_opd, stop, fld, no_more, and_then, returns}
use types.ByLocal.{alloc_all, pass_all, free_all, look_at, get, get_in, sets}
use denote.Exit.{yes}
use denote.Signature.{plain}
use denote.RawPtr.{rawptr_Lawful}
use denote.Steps.{nothing}
use denote.Triple.Walked.{Stays, stay_dropped, walk_of, says, Goes-dropped, ends_at}
use Rattle.std.{proofs.raw_atomic.Walks.proved, specs.Prelude.Some}
use Rattle.pciguest_c.{specs.contracts.owner.Owner.the_row as Owner, proofs.owner.Owner.of.Statement.statement}
use Rattle.session.specs.contracts.session.Session as Session
use Rattle.session.proofs.session.Session.TheLaws as session
use Rattle.pciguest_c.specs.contracts.unboxed.Unboxed as Unboxed
use Rattle.pciguest_c.proofs.unboxed.Unboxed.TheLaws as unboxed
use Rattle.pciguest_c.specs.contracts.owner.Owner.of as f
use Rattle.pciguest_c.proofs.owner.Owner.of.Code as code

abbrev stayed : Stays f.ended.signature.params f.ended.kept
stayed = (stay_dropped _ yes, tt)

pub of_spec : {M : Type 1} → statement M
of_spec 𝓤 𝓛 𝓜 𝓡 wired =
    let From = Unboxed.the_row Session.the_row in let lowers = unboxed.lowers Session.the_row session.the_row_laws in
    let c = f.clauses 𝓛 𝓜.mem 𝓡.returns in let W = walk_of 𝓛 f.ended stayed c in
    proved 𝓛 f.ended stayed c 𝓜 𝓡 (Goes-dropped 𝓛 0 (plain (λ _. From)) yes (λ κs x w. refl), tt)
    f.Key.name code.function (code.unfolded 𝓤 𝓛.H 𝓜 𝓡 wired)
    (λ κs. ((λ d. lowers.lowered d ∷ []), tt)) (λ κs. (lowers.val_is, tt)) (λ κs qs bounds a _ are.
    let d = a.0 in let w = lowers.lowered d in let y : W.Ghost = ((κs, qs, bounds, a, (w ∷ [], tt)), tt) in
    let made : Owner.Denot = record { at = d.at; value = Some d.value } in
    let typed = ((unboxed.the_row_laws Session.the_row session.the_row_laws).lawful 𝓛).typed d (w ∷ []) are.0 in
    let pointer = (rawptr_Lawful 𝓛).typed d.at _ refl in
    qed 𝓛 ((‵ ftrue ⊛ (‵ (From.own_val d (w ∷ [])) ⊛ ‵ ftrue)) ∷ ‵ ftrue ∷ []) ∵
    split ! $ drop ! $ split ! $ use1 𝓛 (‵ (Owner.own_val made (w ∷ []))) (id⊢ 𝓤 _) $ move ! (1 ∷ 2 ∷ []) $ drop ! $ drop ! $
    enter ! _ _ _ _ _ $ alloc_all ! (λ l. pass_all ! refl typed $
    sets ! (of_opd ! (get_in ! (fld ! refl (stop !)) (sub ! 0 refl (whole !)))) refl pointer.0 $
    sets ! (of_opd ! (get ! refl)) refl pointer.0 $
    sets ! (agg ! (and_then ! (get ! refl) (no_more !))) refl typed.0 $
    returns ! (look_at ! 0 refl) $ free_all ! refl $
    suffices ! _ (ends_at 𝓛 f.ended stayed c y w made (tt, tt) (tt, tt)) $ says ! refl $
    nothing ! $ nothing ! $ fjoin ! $ join ! $ nothing ! $ join ! $ done !))
