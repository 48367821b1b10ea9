use Rattle.std.{proofs.{Common.{◌++◌, ap, sym, ◌∙◌}, lemmas.List.{append-nil, at_drop_all}}, specs.Prelude.flat_map}
use Rattle.lists.proofs.Members.{flat_map_flat}
use Rattle.model_board.specs.Routing.{RoutingRow}
use Rattle.findings.specs.{Regions.regions_of, BridgeViolations.{bars_to_check, blames_of}}
use Rattle.findings.proofs.bridge_violation.first_violations.Goals as goal

pub returns : goal.returns
returns c =
    let rows = c.args.rows.now in
    let charge = c.args.charge in
    let now = c.loop-row.told.items in
    let rest = at_drop_all (flat_map (λ (r : RoutingRow). flat_map (blames_of charge rows) (regions_of (bars_to_check charge) r))) rows c.loop-row.row-index c.loop-row-test.false in
    sym (append-nil now) ∙ ap (λ xs. now ++ xs) (sym rest) ∙ c.loop-row.invariant ∙ sym (flat_map_flat (blames_of charge rows) (regions_of (bars_to_check charge)) rows)
