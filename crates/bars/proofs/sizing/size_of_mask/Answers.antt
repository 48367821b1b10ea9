use Rattle.std.{proofs.Common.{ap, sym, subst, ◌∙◌, refl}, specs.Prelude.Some}
use Rattle.model_registers.specs.Declarations.{Kind, Bar, IsLawfulSize}
use Rattle.bars.{specs.Kinds.kind_of, proofs.Masks.{size_is, told_shows, same_bar, shown_types}}
use Rattle.bars.proofs.sizing.size_of_mask.Goals as goal

pub returns-in_err-kind-clause-found : goal.returns-in_err-kind-clause-found
returns-in_err-kind-clause-found c = λ b lawful shows.
    let told = c.in_err-kind.ensures.found b.kind (shown_types b c.args.low c.args.high lawful shows) in cc

pub returns-in-Ok-clause-shown : goal.returns-in-Ok-clause-shown
returns-in-Ok-clause-shown c =
    let kind : Kind = kind_of c.in_ok-kind.kind in
    let lawful = c.in-Ok.ensures.taken.0 refl in (
      lawful,
      told_shows kind c.args.low c.args.high _ (size_is kind c.args.low c.args.high _ _ _ c.bar_width_mask.ensures c.join_registers.ensures (c.from.ensures ∙ c.type_bits.ensures))
          c.ranges.low.fits c.ranges.high.fits c.in_ok-kind.ensures.shown lawful,
    )

pub returns-in-Ok-clause-found : goal.returns-in-Ok-clause-found
returns-in-Ok-clause-found c = λ b lawful shows.
    let kind : Kind = kind_of c.in_ok-kind.kind in
    ap Some
    (same_bar kind _ c.args.low c.args.high (size_is kind c.args.low c.args.high _ _ _ c.bar_width_mask.ensures c.join_registers.ensures (c.from.ensures ∙ c.type_bits.ensures)) b
    (c.in_ok-kind.ensures.found b.kind (shown_types b c.args.low c.args.high lawful shows)) c.ranges.low.fits c.ranges.high.fits lawful shows)

pub returns-in-Err-clause-found : goal.returns-in-Err-clause-found
returns-in-Err-clause-found c = λ b lawful shows.
    let kind : Kind = kind_of c.in_ok-kind.kind in
    let same = same_bar kind _ c.args.low c.args.high (size_is kind c.args.low c.args.high _ _ _ c.bar_width_mask.ensures c.join_registers.ensures (c.from.ensures ∙ c.type_bits.ensures)) b
    (c.in_ok-kind.ensures.found b.kind (shown_types b c.args.low c.args.high lawful shows)) c.ranges.low.fits c.ranges.high.fits lawful shows in
    let taken = c.in-Err.ensures.taken.1 (subst (λ (x : Bar). IsLawfulSize x.kind x.size) (sym same) lawful) in cc
