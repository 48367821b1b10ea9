use Rattle.std.{proofs.{Common.{◌≡◌, ◌||◌, Bool, false, not, Some, get_or, ap, sym, ◌∙◌, arith}, lemmas.Option.slice_get-get_or}, specs.List.{slice_get, list_all}}
use Rattle.model_registers.specs.Declarations.{Bridge}
use Rattle.model_board.specs.Board.{Row, Board}
use Rattle.model_set_up.specs.{Pools.{bridges_above, opens_io, has_io}, FunctionTable.board_in}
use Rattle.lists.proofs.Indices.{read_at, map_at, fails_at}
use Rattle.window_packing.{specs.declared.upstream_windows.UpstreamSupport.UpstreamSupport, proofs.{AboveRows.{length_board, tells_at}, BusIndex.row_in, PoolSteps.above_count, RowTests.{all_more, all_rows_pass}}}
use Rattle.window_packing.proofs.planning.has_io_paths.Goals as goal
use Rattle.window_packing.proofs.planning.has_io_paths.Goals.{After-has_io_path_if_needed}

abbrev passes : Board → Row → Bool
passes b r = not (opens_io r.decl) || list_all (λ (d : Bridge). has_io d.io) (bridges_above b r.path)

module _ (c : After-has_io_path_if_needed) where
  abbrev b : Board
  b = board_in c.args.rows.now

  at : slice_get b c.loop-i.i ≡ Some (row_in c.index-rows-i.result)
  at = map_at row_in c.args.rows.now c.loop-i.i _ (read_at c.args.rows.now c.loop-i.i c.index-rows-i.result c.loop-i-test.true c.index-rows-i.is)

  tested : c.has_io_path_if_needed.result ≡ passes b (row_in c.index-rows-i.result)
  tested =
      let nothing : UpstreamSupport = record { bus = 0; io = false; pref = false; pref64 = false } in
      let xs = c.args.above.now in
      let told = slice_get-get_or xs c.loop-i.i nothing (omega (arith, above_count b xs c.requires, length_board c.args.rows.now, c.loop-i-test.true)) in
      let io = (tells_at b xs c.loop-i.i (row_in c.index-rows-i.result) (get_or xs c.loop-i.i nothing) c.requires at told).io in
      c.has_io_path_if_needed.ensures ∙ ap (λ (t : Bool). not (opens_io c.index-rows-i.result.decl) || t) io

pub returns-then-not-has_io_path_if_needed : goal.returns-then-not-has_io_path_if_needed
returns-then-not-has_io_path_if_needed c =
    let k = (goal.at.returns-then-not-has_io_path_if_needed c).After-has_io_path_if_needed in
    sym (fails_at (passes (b k)) (b k) c.loop-i.i (row_in c.index-rows-i.result) (at k) (sym (tested k) ∙ c.if-not-has_io_path_if_needed.true))

pub loop-i-preserved : goal.loop-i-preserved
loop-i-preserved c =
    let k = (goal.at.loop-i-preserved c).After-has_io_path_if_needed in
    all_more (passes (b k)) (b k) c.loop-i.i (row_in c.index-rows-i.result) (at k) c.loop-i.invariant (sym (tested k) ∙ c.if-not-has_io_path_if_needed.false)

pub returns : goal.returns
returns c = grind (arith, all_rows_pass, length_board)
