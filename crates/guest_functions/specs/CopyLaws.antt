-- Laws of a register file with a guest's copies inserted (PCI Local Bus 3.0, chapter 6.1): its reads, its changes, and
-- that it keeps holding the copies.
use Rattle.std.specs.Prelude.{◌≡◌, ◌<◌, ◌^◌, ◌+◌, ℕ, Bool, true, false, List, length, map}
use Rattle.lists.specs.Elements.{Each}
use Rattle.model_registers.specs.{Registers.{Place, block, PlacedCell, File, cell_at, read, write, raise}, ByteEnables.enabled_bytes, Declarations.{Region, HasLawfulRegions}, EndpointTable.opened, OwnCopies.{is_own, OwnCopies, own_file, HoldsOwn, forwarded_byte_enables, bare, IsLawfulOwn}, CopiedFiles.with_copies}

-- ---- reads

-- a place that isn't copied has the file's own cell
abbrev pub OtherCell : Type 0
OtherCell = (own file : File) (p : Place) → is_own p ≡ false → cell_at (with_copies own file) p ≡ cell_at file p

-- the forwarded bytes, and those of a region's block, come from the file
abbrev pub HandedRead : Type 0
HandedRead = (enables : List Bool) (p : Place) (own file : File)
    → read (with_copies own file) p (forwarded_byte_enables p enables) ≡ read file p (forwarded_byte_enables p enables)

abbrev pub BlockRead : Type 0
BlockRead = (enables : List Bool) (n a : ℕ) (own file : File)
    → read (with_copies own file) (block n a) enables ≡ read file (block n a) enables

-- ---- how it changes

-- a write changes the copies directly, and the file through the forwarded bytes
abbrev pub CopiedWrite : Type 0
CopiedWrite = (enables : List Bool) (v : ℕ) (p : Place) (own file : File)
    → write enables v p (with_copies own file)
    ≡ with_copies (write enables v p own) (write (forwarded_byte_enables p enables) v p file)

-- a region has no copied bytes
abbrev pub BlockWrite : Type 0
BlockWrite = (enables : List Bool) (v n a : ℕ) (own file : File)
    → write enables v (block n a) (with_copies own file) ≡ with_copies own (write enables v (block n a) file)

-- a raise changes the file only: the copies have no bits that a device can raise
abbrev pub CopiedRaise : Type 0
CopiedRaise = (own : OwnCopies) (m : ℕ) (p : Place) (file : File)
    → raise m p (with_copies (own_file own) file) ≡ with_copies (own_file own) (raise m p file)

-- raising bits at a copied place changes nothing in the guest's file
abbrev pub HiddenRaise : Type 0
HiddenRaise = (own : OwnCopies) (m : ℕ) (p : Place) (file : File) → is_own p ≡ true
    → raise m p (with_copies (own_file own) file) ≡ with_copies (own_file own) file

abbrev pub CopiesStay : Type 0
CopiesStay = (own : OwnCopies) (m : ℕ) (p : Place) → raise m p (own_file own) ≡ own_file own

-- files that agree at the copied places hold the same copies
abbrev pub SameCopies : Type 0
SameCopies = (own other : File) → ((p : Place) → is_own p ≡ true → cell_at other p ≡ cell_at own p) → (file : File)
    → with_copies other file ≡ with_copies own file

-- inserting copies that the file already holds changes nothing
abbrev pub CopiesHeld : Type 0
CopiesHeld = (own file : File) → Each (λ (e : PlacedCell). is_own e.place ≡ true → cell_at own e.place ≡ e.cell) file
    → with_copies own file ≡ file

-- ---- a file goes on holding the copies

abbrev pub RaisedHeld : Type 0
RaisedHeld = (own : OwnCopies) (file : File) → HoldsOwn file own → (m : ℕ) (p : Place) → HoldsOwn (raise m p file) own

-- after a write, the file holds the copies as this write changes them
abbrev pub WrittenHeld : Type 0
WrittenHeld = (own new : OwnCopies) (file : File) → HoldsOwn file own → (enables : List Bool) (v : ℕ) (p : Place)
    → own_file new ≡ write enables v p (own_file own) → HoldsOwn (write enables v p file) new

abbrev pub BlockWrittenHeld : Type 0
BlockWrittenHeld = (own : OwnCopies) (file : File) → HoldsOwn file own → (enables : List Bool) (v n a : ℕ)
    → HoldsOwn (write enables v (block n a) file) own

-- ---- copies of lawful regions

abbrev pub LawfulCopies : Type 0
LawfulCopies = (own : OwnCopies) (rs : List Region) → HasLawfulRegions rs → map bare rs ≡ map opened own.bases
    → IsLawfulOwn own

-- the copied bytes and any forwarded bytes of a word add up to a number whose disabled bytes are 0
abbrev pub SumOfBytes : Type 0
SumOfBytes = (own : OwnCopies) → IsLawfulOwn own → (enables : List Bool) (p : Place) (n : ℕ)
    → (let sum : ℕ = read (own_file own) p enables + enabled_bytes (forwarded_byte_enables p enables) n in
    sum ≡ enabled_bytes enables sum)

abbrev pub EnabledBytesFit : Type 0
EnabledBytesFit = (enables : List Bool) (n : ℕ) → enabled_bytes enables n < 256 ^ length enables
