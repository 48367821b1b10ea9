use Rattle.std.proofs.Common.{rules, ◌≡◌, ◌+◌, get_or, ap, ◌∙◌, arith}
use Rattle.model_set_up.specs.FunctionTable.{board_in}
use Rattle.lists.proofs.Indices.{at_below}
use Rattle.window_packing.{specs.Placed.PlacedPool, proofs.{AboveRows.length_board, PlacedFunctions.{behind_first_is, behind_pack, window_some, window_room}}}
use Rattle.window_packing.proofs.settings.window_behind_row.Goals as goal
use Rattle.window_packing.proofs.settings.window_behind_row.Goals.{After-index-2}

-- the bus behind the function of a row, as it is read
module _ (c : After-index-2) where
  first : c.index.result.now ≡ get_or c.args.placed.now.firsts (c.args.i + 1) c.index.result.now
  first = c.index.ensures ∙ ap (λ (p : PlacedPool). get_or p.firsts (c.args.i + 1) c.index.result.now) c.placed.view_is

  pack : c.index-2.result.now ≡ get_or c.args.placed.now.packs (c.args.i + 1) c.index-2.result.now
  pack = c.index-2.ensures ∙ ap (λ (p : PlacedPool). get_or p.packs (c.args.i + 1) c.index-2.result.now) c.placed.view_is

pub window_or_disabled-requires : goal.window_or_disabled-requires
window_or_disabled-requires c =
    let r = at_below (board_in c.args.rows.now) c.args.i (omega (arith, length_board c.args.rows.now, c.requires.there)) in
    record {
      closed = search rules;
      some = window_some c.requires.placed c.requires.board c.requires.declarations c.args.i r.1 _ (pack c);
      room = window_room c.requires.placed c.requires.board c.requires.declarations c.args.i r.1 _ (pack c) _ (first c);
    }

pub returns : goal.returns
returns c = grind (arith, behind_pack, pack, behind_first_is, first)
