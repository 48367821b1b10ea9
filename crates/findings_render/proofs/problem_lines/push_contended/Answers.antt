use Rattle.std.proofs.{Common.{◌++◌, ◌∙◌, ap, codes, string_bytes}, lemmas.Result.IfOk-equal}
use Rattle.model_guests.specs.{PathTexts.hexadecimal, Text.Text}
use Rattle.model_findings.specs.{Agents.Agent, AuditText.{agent_text, space_text}}
use Rattle.findings_render.proofs.Chains.{all_right_to_left}
use Rattle.findings_render.proofs.problem_lines.push_contended.Goals as goal

pub returns : goal.returns
returns c =
    let old = string_bytes c.args.text.now in
    let agents = agent_text c.args.one.now ++ codes " and " ++ agent_text c.args.other.now ++ codes ": address conflict at " in
    IfOk-equal c.write.result _ _ _ c.write.ensures.bytes
    (ap (λ (x : Text). old ++ x) (all_right_to_left (agent_text c.args.one.now) (codes " and ") (agent_text c.args.other.now) (codes ": address conflict at ") c.space_name-space.result.now (codes " ") (hexadecimal c.args.address))
    ∙ ap (λ (s : Text). old ++ (agents ++ s ++ codes " " ++ hexadecimal c.args.address)) (c.space_name-space.ensures ∙ ap (λ (a : Agent). space_text a.space) c.one.view_is))
