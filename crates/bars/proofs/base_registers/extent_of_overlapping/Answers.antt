use Rattle.std.proofs.Common.{◌∙◌, subst, arith}
use Rattle.bars.{specs.{Kinds.named_space, Extents.IsOutside, declared.extent.Extent.Extent}, proofs.{Passed.{passed_unused, passed_region}, base_registers.extent_of_overlapping.Goals.{in-Some, in_default}}}
use Rattle.bars.proofs.base_registers.extent_of_overlapping.Goals as goal

pub loop-reg-preserved : goal.loop-reg-preserved
loop-reg-preserved c = λ a from to out.
    let space = named_space c.args.space in
    let n = c.loop-reg.reg in
    elim c.match-regions-reg.branch [
      | in-Some w ↦
          let still : IsOutside w.widened_if_overlapping-extent.result a = subst (λ (e : Extent). IsOutside e a) w.extent-is out in
          c.loop-reg.invariant a from to (w.widened_if_overlapping-extent.ensures.wider a still)
          ∙ passed_region space a n c.args.regions.now _ (omega arith) w.in-Some.region w.in-Some.is (w.widened_if_overlapping-extent.ensures.holds a from to still)
      | in_default w ↦
          c.loop-reg.invariant a from to (subst (λ (e : Extent). IsOutside e a) w.extent-is out)
          ∙ passed_unused space a n c.args.regions.now _ (omega arith) w.in_default.not-Some
    ]
