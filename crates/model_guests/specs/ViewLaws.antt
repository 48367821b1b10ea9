-- A guest's file is the board's file with the guest's copies inserted: a monitor stores only the copies.
--     ViewIsFile      on a board that agrees with the guest's file, the view is that file
--     ViewAgrees      the board agrees with its own view, whatever the copies hold
use Rattle.std.specs.Prelude.{◌≡◌, IsTrue, IsFalse}
use Rattle.model_registers.specs.{Registers.{Place, place_eq, File, cell_at}, OwnCopies.is_own, CopiedFiles.{places_of, agreed_file, with_copies}}
use Rattle.lists.specs.Elements.{EachPair}

abbrev pub HasPlacesApart : File → Type 0
HasPlacesApart file = EachPair (λ p q. IsFalse (place_eq p q)) (places_of file)

abbrev pub ViewIsFile : Type 0
ViewIsFile = (left own copies : File) → HasPlacesApart own → places_of own ≡ places_of left
    → ((p : Place) → IsTrue (is_own p) → cell_at own p ≡ cell_at copies p)
    → with_copies copies (agreed_file left own) ≡ own

abbrev pub ViewAgrees : Type 0
ViewAgrees = (left own copies : File) → places_of own ≡ places_of left
    → agreed_file left (with_copies copies (agreed_file left own)) ≡ agreed_file left own
