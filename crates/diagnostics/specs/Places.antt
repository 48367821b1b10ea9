-- The place of a value in the text of a document.
--     IsMarked      with its mark in each of these places the text is a document of the same shape
--     Stands places start end      one of the places begins and ends there
--     IsPlace      a place of these with its line; with its mark there the value at the end of the way, which was
--                  another, is the mark
--     GoesOn way longer      the longer way begins with the way
--     IsPlaceWithin      the place of a value at the end of a way, or of one inside that value
use Rattle.std.specs.{Prelude.{◌≡◌, ℕ, true, false, List, ◌++◌, length, Some, option_map}, List.slice_get}
use Rattle.toml.specs.{Data.{table, Members}, Parse.parse_document}
use Rattle.diagnostics.specs.{declared.{steps.Step.Step, scanning.Extent.Extent, text_place.TextPlace.TextPlace}, LineNumbers.line_of, Marks.{are_ordered_within, replace_with_marks, is_mark_of_place_at}, Shapes.members_have_same_shape, Ways.value_at}

pub record IsMarked (text : List ℕ) (before : Members) (places : List Extent) : Type 0 where
  pub in_order : are_ordered_within 0 (length text) places ≡ true
  pub alike : option_map (members_have_same_shape before) (parse_document (replace_with_marks text 0 places)) ≡ Some true

pub record Stands (places : List Extent) (start end : ℕ) : Type 0 where
  pub index : ℕ
  pub place : Extent
  pub found : slice_get places index ≡ Some place
  pub is_start : place.start ≡ start
  pub is_end : place.end ≡ end

pub record IsPlace (text : List ℕ) (before : Members) (way : List Step) (p : TextPlace) : Type 0 where
  pub places : List Extent
  pub is_marked : IsMarked text before places
  pub stands : Stands places p.start p.end
  pub is_line : p.line ≡ line_of p.start text
  pub is_mark_now :
      option_map (λ after. is_mark_of_place_at p.start (value_at way (table after))) (parse_document (replace_with_marks text 0 places))
      ≡ Some true
  pub was_other : is_mark_of_place_at p.start (value_at way (table before)) ≡ false

-- ---- a place inside a value

pub record GoesOn (way longer : List Step) : Type 0 where
  pub rest : List Step
  pub is_longer : longer ≡ way ++ rest

pub record IsPlaceWithin (text : List ℕ) (before : Members) (way : List Step) (p : TextPlace) : Type 0 where
  pub longer : List Step
  pub goes_on : GoesOn way longer
  pub is_place : IsPlace text before longer p
