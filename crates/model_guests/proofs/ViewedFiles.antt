-- A guest's file is the board's with the guest's copies put in.
use Rattle.std.{proofs.Common.{◌≡◌, false, [], ◌∷◌, refl, ◌∙◌, arith}, specs.Prelude.IsTrue}
use Rattle.lists.specs.Elements.{Each}
use Rattle.model_registers.{proofs.Owned.other_cell, specs.{Registers.{Place, File, cell_at}, OwnCopies.is_own, CopiedFiles.{agreed_file, places_of, with_copies}}}
use Rattle.model_guests.{specs.ViewLaws.{ViewAgrees, ViewIsFile}, proofs.{AgreedFiles.agreed_common, TablePlaces.found_entries}}

module _ (full copies : File) (held : (p : Place) → IsTrue (is_own p) → cell_at full p ≡ cell_at copies p) where
  entries_are : (ls os : File) → places_of os ≡ places_of ls → Each (λ e. cell_at full e.place ≡ e.cell) os → with_copies copies (agreed_file ls full) ≡ os
  entries_are [] [] same found = refl
  entries_are [] (o ∷ os) same found = cc
  entries_are (l ∷ ls) [] same found = cc
  entries_are (l ∷ ls) (o ∷ os) same found = grind (arith, entries_are ls os)

pub overlay_gives_guest_registers : ViewIsFile
overlay_gives_guest_registers left own copies distinct same held = entries_are own copies held left own same (found_entries own distinct)

-- ---- the board agrees with its view

alike_files : (f g : File) → ((p : Place) → is_own p ≡ false → cell_at f p ≡ cell_at g p) → (left : File) → agreed_file left f ≡ agreed_file left g
alike_files f g same [] = refl
alike_files f g same (e ∷ es) = grind (arith, alike_files f g same es)

pub view_agrees : ViewAgrees
view_agrees left own copies same =
    alike_files (with_copies copies (agreed_file left own)) own (λ p h. other_cell copies (agreed_file left own) p h ∙ agreed_common left own p same h) left
