use Rattle.std.proofs.Common.{◌≡◌, ◌+◌, ◌∙◌, ◌∷◌, ℕ, List, ap, refl, arith}
use Rattle.model_registers.specs.Registers.{config}
use Rattle.model_images.specs.StepLaws.{written_run}
use Rattle.monitor.proofs.{LoadSteps.go_on, LoadedParts.{begins, passes}}
use Rattle.monitor.proofs.saved.load_function.guest_config_write_bytes.Goals as goal

pub loop-byte-init : goal.loop-byte-init
loop-byte-init c = record { passed = λ k. begins k (written_run c.args.bytes.now (config c.args.first)); within = c.requires.within; counts = refl }

pub guest_config_write_byte-requires : goal.guest_config_write_byte-requires
guest_config_write_byte-requires c = go_on c.requires.keeps (c.loop-byte.invariant.passed c.requires.keeps).becomes

pub loop-byte-preserved : goal.loop-byte-preserved
loop-byte-preserved c =
    let first : c.loop-byte.left.now ≡ c.in-Some.byte.now ∷ c.in-Some.rest.now = grind arith in
    record {
      passed = λ k.
          let p = c.loop-byte.invariant.passed k in
          passes k p (written_run c.in-Some.rest.now (config (c.loop-byte.off + 1))) (c.guest_config_write_byte.ensures.becomes (go_on k p.becomes))
          (ap (λ (vs : List ℕ). written_run vs (config c.loop-byte.off) p.file) first);
      within = let many = c.loop-byte.invariant.within in grind arith;
      counts = c.guest_config_write_byte.ensures.counts ∙ c.loop-byte.invariant.counts;
    }
