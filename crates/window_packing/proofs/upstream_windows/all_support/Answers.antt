use Rattle.std.{proofs.Common.{◌≡◌, ℕ, ◌+◌, ◌-◌, List, length, get_or, slice_set, refl, sym, ap, ◌∙◌, subst, arith}, specs.List.slice_get}
use Rattle.model_set_up.specs.FunctionTable.{board_in}
use Rattle.lists.proofs.Indices.{read_at}
use Rattle.window_packing.{specs.declared.upstream_windows.UpstreamSupport.UpstreamSupport, proofs.AboveRows.{Followed, more_rows, all_told, length_board}}
use Rattle.window_packing.proofs.upstream_windows.all_support.Goals as goal

pub loop-i-preserved : goal.loop-i-preserved
loop-i-preserved c =
    let rows = c.args.rows.now in
    let e = read_at rows c.loop-i.i c.index-rows-i.result (omega arith) c.index-rows-i.is in
    let path : c.parts-depth.result.now ≡ c.index-rows-i.result.path = cc in
    let more =
    more_rows rows c.requires c.loop-i.i c.loop-i.list.items c.loop-i.buses c.loop-i.invariant c.index-rows-i.result e c.parts-depth.result.now path (get_or c.loop-i.buses (length c.parts-depth.result.now - 1) 0) refl
    c.support_of_bus.result c.support_of_bus.ensures.root (λ k q up n g h. c.support_of_bus.ensures.others k q up n g (ap (λ (xs : List UpstreamSupport). slice_get xs k) c.deref.ensures.value ∙ h)) in
    subst (λ (xs : List UpstreamSupport). Followed (board_in rows) (c.loop-i.i + 1) xs (slice_set c.loop-i.buses (length c.parts-depth.result.now) (c.loop-i.i + 1))) (sym c.in_ok-push.ensures.items) more

pub returns : goal.returns
returns c =
    let rows = c.args.rows.now in
    let all : c.loop-i.i ≡ length (board_in rows) = omega (arith, length_board rows) in
    all_told (board_in rows) c.loop-i.list.items c.loop-i.buses (subst (λ (n : ℕ). Followed (board_in rows) n c.loop-i.list.items c.loop-i.buses) all c.loop-i.invariant)
