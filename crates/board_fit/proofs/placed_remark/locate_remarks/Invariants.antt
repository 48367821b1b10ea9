use Rattle.toml.specs.View.{table_view}
use Rattle.lists.specs.Elements.{Each}
use Rattle.std.proofs.Common.{◌≡◌, ◌++◌, map, drop}
use Rattle.board_fit.specs.PlacedRemarks.{remark_of, IsPlacedRemark}
use Rattle.board_fit.proofs.placed_remark.locate_remarks.Given as goal

abbrev pub invariant-remarks : goal.invariant-remarks
invariant-remarks l = record {
  same : map remark_of l.all.items ++ drop l.remark-index l.remarks ≡ l.remarks;
  places : Each (IsPlacedRemark l.places.text.now (table_view l.places.document.now)) l.all.items;
}
