use Rattle.std.proofs.{Common.{◌++◌, ap, codes, string_bytes}, lemmas.Result.IfOk-equal}
use Rattle.model_guests.specs.{PathTexts.{hexadecimal, path_text}, Text.Text}
use Rattle.model_findings.specs.AuditText.{region_text}
use Rattle.findings_render.proofs.Chains.{six_right_to_left}
use Rattle.findings_render.proofs.issue_lines.push_prefetched.Goals as goal

pub returns : goal.returns
returns c =
    IfOk-equal c.write.result _ _ _ c.write.ensures.bytes (ap (λ (x : Text). string_bytes c.args.text.now ++ x)
    (six_right_to_left (region_text c.args.region.now) (codes ": bridge ") (path_text c.args.bridge.now) (codes " forwards ") (hexadecimal c.args.address) (codes " as prefetchable")))
