-- Laws of accesses: an access of 1, 2 or 4 bytes accesses the enabled bytes of the word that contains it. PCI Local Bus
-- 3.0, chapter 3.2.2.
--     AlignedLiesInWord      an access at a multiple of its width lies in one word
--     NumberByLanes, LanesFit, NumberFromWord, AllOnesByLanes      reads of a number by the byte lanes of its word
--     WriteByLanes      a write of a number by the byte lanes of its word
--     DisabledRead, DisabledStay      disabled bytes read 0, and a write leaves them unchanged
--     HoldsBytes, NumberFits, ReadsEnabled      if each cell holds a byte, a number of n bytes is below 256^n, and disabled bytes read 0
use Rattle.std.specs.Prelude.{◌≡◌, ◌<◌, ℕ, ◌-◌, ◌/◌, ◌%◌, ◌^◌, Bool, false, List, replicate}
use Rattle.lists.specs.Elements.{Each}
use Rattle.model_registers.specs.{Registers.{Place, offset_of, PlacedCell, File, read, write, number, all_bytes, all_ones}, ByteEnables.{lanes, enabled_bytes, IsWidth, LiesInWord, enables_of, to_lanes, from_lanes, word_of}}

-- an access at a multiple of its width lies in one word
abbrev pub AlignedLiesInWord : Type 0
AlignedLiesInWord = (a w : ℕ) → IsWidth w → a % w ≡ 0 → LiesInWord a w

-- reading a number reads the enabled bytes of its word
abbrev pub NumberByLanes : Type 0
NumberByLanes = (file : File) (p : Place) (w : ℕ) → LiesInWord (offset_of p) w
    → number file p w ≡ read file (word_of p) (lanes (enables_of (offset_of p) w)) / 256 ^ (offset_of p % 4)

-- in a word whose other bytes are 0, the number in these lanes is the word shifted down
abbrev pub LanesFit : Type 0
LanesFit = (off w word : ℕ) → LiesInWord off w → word ≡ enabled_bytes (lanes (enables_of off w)) word
    → from_lanes off w word ≡ word / 256 ^ (off % 4)

-- so reading such a word gives the number
abbrev pub NumberFromWord : Type 0
NumberFromWord = (file : File) (p : Place) (w word : ℕ) → LiesInWord (offset_of p) w
    → word ≡ read file (word_of p) (lanes (enables_of (offset_of p) w))
    → word ≡ enabled_bytes (lanes (enables_of (offset_of p) w)) word
    → from_lanes (offset_of p) w word ≡ number file p w

-- a word of all ones has all ones in each of its lanes
abbrev pub AllOnesByLanes : Type 0
AllOnesByLanes = (off w : ℕ) → LiesInWord off w → from_lanes off w (2 ^ 32 - 1) ≡ all_ones w

-- writing a number writes the enabled bytes of its word
abbrev pub WriteByLanes : Type 0
WriteByLanes = (file : File) (p : Place) (w v : ℕ) → LiesInWord (offset_of p) w
    → write (all_bytes w) v p file
    ≡ write (lanes (enables_of (offset_of p) w)) (to_lanes (offset_of p) v) (word_of p) file

-- disabled bytes read 0, and a write leaves them unchanged
abbrev pub DisabledRead : Type 0
DisabledRead = (k : ℕ) (file : File) (p : Place) → read file p (replicate k false) ≡ 0

abbrev pub DisabledStay : Type 0
DisabledStay = (k v : ℕ) (file : File) (p : Place) → write (replicate k false) v p file ≡ file

-- each cell's value is a byte
abbrev pub HoldsBytes : File → Type 0
HoldsBytes file = Each (λ (e : PlacedCell). e.cell.value < 256) file

abbrev pub NumberFits : Type 0
NumberFits = (file : File) → HoldsBytes file → (p : Place) (w : ℕ) → number file p w < 256 ^ w

abbrev pub ReadsEnabled : Type 0
ReadsEnabled = (file : File) → HoldsBytes file → (p : Place) (ons : List Bool)
    → read file p ons ≡ enabled_bytes ons (read file p ons)
