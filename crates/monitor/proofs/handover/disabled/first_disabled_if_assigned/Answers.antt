use Rattle.std.{proofs.Common.{◌≡◌, Bool, cond, None, ap, sym, ◌∙◌}, specs.{Prelude.{flat_map, slice_get}, List.list_any}}
use Rattle.model_board.specs.{Paths.{Path, path_eq}, Routing.RoutingRow}
use Rattle.model_findings.specs.OpenRegions.{closed_of}
use Rattle.model_guests.specs.World.{Guest}
use Rattle.monitor.proofs.ClosedRows.{among_guests}
use Rattle.monitor.proofs.handover.disabled.first_disabled_if_assigned.Goals as goal

pub returns-then-any_guest_has_path : goal.returns-then-any_guest_has_path
returns-then-any_guest_has_path c =
    let ps = flat_map (λ (g : Guest). g.slots) c.args.decls.now in
    let at : c.row.inside.path ≡ c.args.row.now.path = ap (λ (r : RoutingRow). r.path) c.row.view_is in
    let told = c.any_guest_has_path.ensures ∙ among_guests c.row.inside.path c.args.decls.now ∙ ap (λ (p : Path). list_any (λ q. path_eq q p) ps) at in
    c.first_disabled_of_row.ensures ∙ ap (λ (t : Bool). cond t (slice_get (closed_of c.args.row.now) 0) None) (sym (sym told ∙ c.if-any_guest_has_path.true))

pub returns-else-any_guest_has_path : goal.returns-else-any_guest_has_path
returns-else-any_guest_has_path c =
    let ps = flat_map (λ (g : Guest). g.slots) c.args.decls.now in
    let at : c.row.inside.path ≡ c.args.row.now.path = ap (λ (r : RoutingRow). r.path) c.row.view_is in
    let told = c.any_guest_has_path.ensures ∙ among_guests c.row.inside.path c.args.decls.now ∙ ap (λ (p : Path). list_any (λ q. path_eq q p) ps) at in
    ap (λ (t : Bool). cond t (slice_get (closed_of c.args.row.now) 0) None) (sym (sym told ∙ c.if-any_guest_has_path.false))
