-- Remarks with their places in the file.
--     remark_of l      the remark
--     IsPlacedRemark text ms l      its place, if it has one, is that of the value at its key, and so is that of the other
--         entry
use Rattle.std.specs.Prelude.{◌≡◌, ℕ, List, option_map, IfSome}
use Rattle.toml.specs.Data.{Members}
use Rattle.diagnostics.specs.EntryPlaces.{IsPlaceOf, entry_of as other_entry}
use Rattle.board_fit.specs.{declared.{remark.Remark.Remark, placed_remark.PlacedRemark.PlacedRemark}, Remarks.{entry_of, key_of, other_of, other_key}}

abbrev pub remark_of : PlacedRemark → Remark
remark_of l = l.remark

pub record IsPlacedRemark (text : List ℕ) (ms : Members) (l : PlacedRemark) : Type 0 where
  pub place : IfSome l.place (IsPlaceOf text ms (entry_of l.remark) (key_of l.remark))
  pub other : option_map other_entry l.other ≡ other_of l.remark
  pub other_place : IfSome l.other (λ o. IfSome o.place (IsPlaceOf text ms o.entry other_key))
