use Rattle.std.{proofs.Common.{◌≡◌, Ok, Err, sym, ap, subst}, specs.Prelude.{IfErr, IfOk}}
use Rattle.model_images.specs.{ImageBytes.{magic, version}, Layouts.le_bytes, LoadedBytes.{after_version, then_read}}
use Rattle.images.{specs.Faults.number_of, proofs.ComparedBytes.{begins, no_beginning}}
use Rattle.images.proofs.heading.strip_image_header.Goals as goal

pub returns-in-Some-clause-left : goal.returns-in-Some-clause-left
returns-in-Some-clause-left c =
    let e = c.in-Some.ensures.cases in
    subst (λ l. IfOk c.strip_version.result (λ r. then_read (after_version version) l ≡ Ok r.now)) (sym (begins 905 (le_bytes 4 magic) c.args.bytes.now c.in-Some.rest.now e.0 e.1)) c.strip_version.ensures.left

pub returns-in-Some-clause-refused : goal.returns-in-Some-clause-refused
returns-in-Some-clause-refused c =
    let e = c.in-Some.ensures.cases in
    subst (λ l. IfErr c.strip_version.result (λ why. then_read (after_version version) l ≡ Err (number_of why))) (sym (begins 905 (le_bytes 4 magic) c.args.bytes.now c.in-Some.rest.now e.0 e.1)) c.strip_version.ensures.refused

pub returns-in-None-clause-refused : goal.returns-in-None-clause-refused
returns-in-None-clause-refused c = ap (then_read (after_version version)) (no_beginning (le_bytes 4 magic) c.args.bytes.now c.in-None.ensures.cases)
