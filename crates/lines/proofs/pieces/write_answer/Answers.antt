use Rattle.std.{proofs.{Common.{◌++◌, subst}, KnownBytes.Appends-trans, lemmas.Result.on_err_weaker}, specs.Io.StartsWith}
use Rattle.model_guests.{specs.Text.Text, proofs.RunLines.starts_after}
use Rattle.lines.proofs.pieces.write_answer.Goals as goal

pub returns-in-Some-clause-err : goal.returns-in-Some-clause-err
returns-in-Some-clause-err g c =
    let old = g.W.Writer.written c.args.writer.now in
    let mid = g.W.Writer.written c.write_all.new.writer in
    let new = g.W.Writer.written c.write_all-in-Some.new.writer in
    let text = c.args.text.now in
    rw c.in-Some.is (on_err_weaker c.write_all-in-Some.result (λ failed. (
      text ++ failed.0,
      subst (λ (t : Text). StartsWith (text ++ t) (text ++ failed.0)) c.as_bytes.ensures.value (starts_after text c.as_bytes.result.now failed.0 failed.1),
      Appends-trans old mid new text failed.0 c.in_ok-write_all.ensures.ok failed.2,
    )) c.write_all-in-Some.ensures.err)
