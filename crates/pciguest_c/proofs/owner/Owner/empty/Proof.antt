-- `empty` makes an owner of nothing.
use mathlib.Core.List.{[], ◌∷◌}
use mathlib.Core.Path.{refl}
use base.Fml.{ftrue}
use types.Kit.{‵, ◌⊛◌, ◌$◌, ◌∵◌, !, qed, done, drop, split, join, fjoin, suffices}
use types.Part.{agg}
use types.Run.{lit, enter, no_more, and_then, returns}
use types.ByLocal.{alloc_all, pass_all, free_all, look_at, sets}
use denote.Steps.{nothing, owned}
use lib.Dec.{lit<}
use denote.Laws.{Is}
use denote.RawPtr.{null_ptr, ptr_val}
use denote.Struct.Struct.{Struct, Struct-Makes}
use denote.Struct.Owning.{shape, to}
use denote.Struct.Laws.{RawPtr-plain}
use denote.Triple.Walked.{walk_of, says, ends_at}
use Rattle.std.{proofs.raw_atomic.Walks.proved, specs.Prelude.None}
use Rattle.pciguest_c.{specs.contracts.owner.Owner.{the_type, the_row as Owner}, proofs.owner.Owner.empty.Statement.statement}
use Rattle.pciguest_c.proofs.owner.Owner.TheLaws as owner
use Rattle.pciguest_c.specs.contracts.owner.Owner.empty as f
use Rattle.pciguest_c.proofs.owner.Owner.empty.Code as code

pub empty_spec : {M : Type 1} → statement M
empty_spec 𝓤 𝓛 𝓜 𝓡 wired =
    let c = f.clauses 𝓛 𝓜.mem 𝓡.returns in let W = walk_of 𝓛 f.ended tt c in
    proved 𝓛 f.ended tt c 𝓜 𝓡 tt f.Key.name code.function (code.unfolded 𝓤 𝓛.H 𝓜 𝓡 wired)
    (λ κs. tt) (λ κs. tt) (λ κs qs bounds a _ are.
    let made : Owner.Denot = record { at = null_ptr; value = None } in let w = owner.lowered made in
    let y : W.Ghost = ((κs, qs, bounds, a, tt), tt) in let Words = Struct (shape the_type) in
    qed 𝓛 ((‵ ftrue ⊛ ‵ ftrue) ∷ ‵ ftrue ∷ []) ∵
    split ! $ drop ! $ drop ! $ drop ! $
    enter ! _ _ _ _ _ $ alloc_all ! (λ l. pass_all ! refl tt $
    sets ! (agg ! (and_then ! (lit ! tt) (no_more !))) refl (tt, (record { fits = lit< tt }, tt)) $
    returns ! (look_at ! 0 refl) $ free_all ! refl $
    suffices ! _ (ends_at 𝓛 f.ended tt c y w made tt tt) $ says ! refl $
    nothing ! $ owned ! Words (Is Words) (Struct-Makes 𝓛 (shape the_type) (RawPtr-plain, tt)) (to the_type made) (w ∷ []) ((ptr_val null_ptr ∷ [], tt), (refl, (refl, tt))) $ fjoin ! $
    nothing ! $ join ! $ nothing ! $ join ! $ done !))
