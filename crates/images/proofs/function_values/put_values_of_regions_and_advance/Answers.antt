use Rattle.std.proofs.Common.{◌∙◌, refl, arith}
use Rattle.images.{proofs.Puts.next_of, specs.Shown.region_values}
use Rattle.images.proofs.function_values.put_values_of_regions_and_advance.Goals as goal

pub loop-region-preserved : goal.loop-region-preserved
loop-region-preserved c =
    let f = region_values c.args.endpoint.now c.args.own.now in
    let s = next_of f c.in-Some.region.now c.loop-region.left.now c.in-Some.rest.now c.loop-region.next c.put_values_of_region_and_advance-next.result (f c.in-Some.region.now) c.loop-region.out c.put_values_of_region_and_advance-next.new.out (grind arith)
    refl c.put_values_of_region_and_advance-next.ensures.bytes c.put_values_of_region_and_advance-next.ensures.end c.loop-region.invariant.room in
    record { lawful = grind arith; counts = grind arith; room = s.room; end = s.end ∙ c.loop-region.invariant.end; bytes = s.bytes ∙ c.loop-region.invariant.bytes }
