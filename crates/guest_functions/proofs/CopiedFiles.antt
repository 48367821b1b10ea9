-- A file with a guest's own copies put in: what it reads, and how it changes.
use Rattle.std.{proofs.Common.{◌≡◌, ℕ, ◌+◌, ◌*◌, ◌/◌, ◌%◌, true, false, cond, [], ◌∷◌, refl, ap, ap₂, ◌∙◌, arith}, specs.{Prelude.bit_or, Int.Bits.{or_zero_r, and_zero_r}}}
use Rattle.model_registers.{specs.{Cell.{Cell, no_cell, written}, Registers.{Place, block, place_eq, after, File, changed}, OwnCopies.is_own, CopiedFiles.with_copies}, proofs.RegisterFiles.{place_same, change_at_place, place_turned}}
use Rattle.guest_functions.specs.CopyLaws.{OtherCell, HandedRead, BlockRead, CopiedWrite, BlockWrite, SameCopies, CopiesHeld}

pub apart : (p q : Place) → is_own p ≡ true → is_own q ≡ false → place_eq p q ≡ false
apart p q own other = grind (arith, place_same)

-- ---- one entry

abbrev KeepsNoCell : (Cell → Cell) → Type 0
KeepsNoCell f = f no_cell ≡ no_cell

pub own_change : (f : Cell → Cell) → KeepsNoCell f → (p : Place) (own file : File) → is_own p ≡ true → changed f p (with_copies own file) ≡ with_copies (changed f p own) file
own_change f still p own [] mine = refl
own_change f still p own (e ∷ es) mine = grind (arith, own_change f still p own es mine, apart, place_turned, change_at_place)

pub other_change : (f : Cell → Cell) (p : Place) (own file : File) → is_own p ≡ false → changed f p (with_copies own file) ≡ with_copies own (changed f p file)
other_change f p own [] other = refl
other_change f p own (e ∷ es) other = grind (arith, other_change f p own es other, place_same)

pub same_copies : SameCopies
same_copies own given same [] = refl
same_copies own given same (e ∷ es) = grind (arith, same_copies own given same es)

-- a change of the copies elsewhere, or of the file at their places, is not seen
unseen_change : (f : Cell → Cell) → KeepsNoCell f → (p : Place) (own file : File) → is_own p ≡ false → with_copies (changed f p own) file ≡ with_copies own file
unseen_change f still p own file other = grind (arith, same_copies, change_at_place, place_turned, apart)

pub hidden_change : (f : Cell → Cell) (p : Place) (own file : File) → is_own p ≡ true → with_copies own (changed f p file) ≡ with_copies own file
hidden_change f p own [] mine = refl
hidden_change f p own (e ∷ es) mine = grind (arith, hidden_change f p own es mine, apart, place_turned)

-- ---- writes

no_cell_stays : (b : ℕ) → KeepsNoCell (written b)
no_cell_stays b = ap (λ n. record { value = n; writable = 0; clearable = 0 }) (ap (λ n. bit_or n 0) (and_zero_r b) ∙ or_zero_r 0)

-- a write reaches the copies by itself, and the file by the bytes that are handed on
pub copied_write : CopiedWrite
copied_write [] v p own file = refl
copied_write (false ∷ ons) v p own file = copied_write ons (v / 256) (after p) own file
copied_write (true ∷ ons) v p own file = grind (arith, copied_write ons (v / 256) (after p), no_cell_stays, own_change, other_change, unseen_change)

-- in a region there are no copies
pub copied_block_write : BlockWrite
copied_block_write [] v n a own file = refl
copied_block_write (false ∷ ons) v n a own file = copied_block_write ons (v / 256) n (a + 1) own file
copied_block_write (true ∷ ons) v n a own file = grind (arith, copied_block_write ons (v / 256) n (a + 1) own (changed (written (v % 256)) (block n a) file), other_change)

-- ---- reads

pub other_cell : OtherCell
other_cell own [] p other = refl
other_cell own (e ∷ es) p other = grind (arith, other_cell own es p other, place_same)

-- the bytes that are handed on are the file's
pub handed_read : HandedRead
handed_read [] p own file = refl
handed_read (on ∷ ons) p own file = grind (arith, handed_read ons (after p) own file, other_cell)

pub block_read : BlockRead
block_read [] n a own file = refl
block_read (on ∷ ons) n a own file = ap₂ (λ (c : Cell) m. cond on c.value 0 + 256 * m) (other_cell own file (block n a) refl) (block_read ons n (a + 1) own file)

-- ---- the copies of a file itself

-- where no place stands twice, copies that the file holds change nothing
pub copies_held : CopiesHeld
copies_held own [] held = refl
copies_held own (e ∷ es) held = grind (arith, copies_held own es)
