use Rattle.std.proofs.{Common.{◌++◌, take, sym, ap, ◌∙◌, append_assoc, take-append-drop, arith}, KnownBytes.Appends-trans}
use Rattle.streams.proofs.Transfers.{none_failed, rest_is}
use Rattle.streams.proofs.writing.write_all.Goals as goal

pub loop-rest-preserved : goal.loop-rest-preserved
loop-rest-preserved g c =
    let done = c.loop-rest.invariant.taken.0 in
    let rest = c.loop-rest.rest.now in
    let n = c.in_ok-n.n in
    record {
      taken = (
        done ++ take n rest,
        c.loop-rest.invariant.taken.1 ∙ sym (append_assoc done (take n rest) _ ∙ ap (λ l. done ++ l) (ap (λ l. take n rest ++ l) (rest_is rest n) ∙ take-append-drop n rest)),
        Appends-trans _ _ _ done (take n rest) c.loop-rest.invariant.taken.2 c.in_ok-n.ensures.bytes,
      );
      failures = omega (arith, c.in_ok-n.ensures.failures, none_failed n c.if-n-eq0.false, c.loop-rest.invariant.failures);
    }
