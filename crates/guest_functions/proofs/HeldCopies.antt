-- What a guest's own copies hold: bytes, of which none rises. A file goes on holding them.
use Rattle.std.{proofs.{Common.{◌≡◌, ℕ, zero, suc, ◌+◌, ◌/◌, ◌<◌, Bool, cond, List, [], ◌∷◌, refl, sym, ap, subst, ◌∙◌, arith}, Math.Nat.pow-suc}, specs.{Prelude.{bit_and, bit_or}, Int.Bits.{or_zero_r, and_zero_r}}}
use Rattle.lists.{specs.Elements.Each, proofs.EachLemmas.each_append}
use Rattle.model_registers.{proofs.{BareRegions.bare_lawful, Files.{write_none, config_has_no_block}, RegisterFiles.change_at_place, Owned.{none_else, own_writes}, ConstantCells.raised_none}, specs.{Cell.{Cell, raised}, Registers.{Place, config, block, after, PlacedCell, File, cell_at, write, raise, field}, FileLaws.{IsConfig, IsConfigFile}, Declarations.HasLawfulRegions, EndpointTable.{BaseAddress, base_file, command_cells, command_mask}, OwnCopies.{OwnCopies, own_file, forwarded_byte_enables}}}
use Rattle.guest_functions.{specs.CopyLaws.{CopiedRaise, HiddenRaise, CopiesStay, RaisedHeld, WrittenHeld, BlockWrittenHeld, LawfulCopies, SumOfBytes, EnabledBytesFit}, proofs.CopiedFiles.{own_change, other_change, hidden_change}}

-- ---- what the copies are

-- a byte, of which no bit rises
record IsLowByte (e : PlacedCell) : Type 0 where
  byte : e.cell.value < 256
  low : e.cell.clearable ≡ 0

low_field : (w a v m : ℕ) → Each IsLowByte (field (config a) w v m 0)
low_field zero a v m = tt
low_field (suc w) a v m = (record { byte = omega arith; low = refl }, low_field w (a + 1) (v / 256) (m / 256))

low_bases : (bs : List BaseAddress) → Each IsLowByte (base_file bs)
low_bases [] = tt
low_bases (b ∷ bs) = grind (arith, low_bases bs, each_append, low_field)

low_own : (own : OwnCopies) → Each IsLowByte (own_file own)
low_own own = each_append IsLowByte (command_cells own.command) (base_file own.bases) (low_field 2 4 own.command command_mask) (low_bases own.bases)

record IsLowCell (c : Cell) : Type 0 where
  byte : c.value < 256
  low : c.clearable ≡ 0

low_cell : (file : File) → Each IsLowByte file → (p : Place) → IsLowCell (cell_at file p)
low_cell [] all p = record { byte = omega arith; low = refl }
low_cell (e ∷ es) all p = grind (arith, low_cell es)

-- a raise of such cells changes nothing
not_raised : (m : ℕ) (c : Cell) → c.clearable ≡ 0 → raised m c ≡ c
not_raised m c low =
    ap (λ n. record c { value = n }) (ap (λ n. bit_or c.value (bit_and m n)) low ∙ ap (bit_or c.value) (and_zero_r m) ∙ or_zero_r c.value)

low_stays : (m : ℕ) (p : Place) (file : File) → Each IsLowByte file → raise m p file ≡ file
low_stays m p [] all = refl
low_stays m p (e ∷ es) all = grind (arith, low_stays m p es, not_raised)

pub copies_stay : CopiesStay
copies_stay own m p = low_stays m p (own_file own) (low_own own)

-- ---- copies of a lawful declaration

pub lawful_copies : LawfulCopies
lawful_copies own rs lawful same = subst HasLawfulRegions same (bare_lawful rs lawful)

-- ---- a word of copies and bytes that are handed on

-- the bytes of the two add up to the enabled bytes of a word
pub sum_of_bytes : SumOfBytes
sum_of_bytes own lawful [] p n = refl
sum_of_bytes own lawful (on ∷ ons) p n = grind (arith, sum_of_bytes own lawful ons (after p) (n / 256), low_cell, low_own, none_else)

pub enabled_bytes-fits : EnabledBytesFit
enabled_bytes-fits [] n = omega arith
enabled_bytes-fits (on ∷ ons) n = grind (arith, enabled_bytes-fits ons (n / 256), pow-suc)

-- ---- a file that goes on holding the copies

-- a raise anywhere changes no cell of the copies
pub raised_held : RaisedHeld
raised_held own file holds m q p mine = grind (arith, change_at_place, raised_none, not_raised, low_cell, low_own)

pub written_held : WrittenHeld
written_held own new file holds ons v q stored p mine =
    own_writes own file holds q p ons v
    ∙ ap (λ (t : Bool). cond t (cell_at (write ons v q (own_file own)) p) (cell_at (write (forwarded_byte_enables q ons) v q file) p)) mine
    ∙ ap (λ (f : File). cell_at f p) (sym stored)

fields_config : (w a v m : ℕ) → IsConfigFile (field (config a) w v m 0)
fields_config zero a v m = tt
fields_config (suc w) a v m = (tt, fields_config w (a + 1) (v / 256) (m / 256))

bases_config : (bs : List BaseAddress) → IsConfigFile (base_file bs)
bases_config [] = tt
bases_config (b ∷ bs) = grind (arith, bases_config bs, each_append, fields_config)

own_config : (own : OwnCopies) → IsConfigFile (own_file own)
own_config own = each_append (λ (e : PlacedCell). IsConfig e.place) (command_cells own.command) (base_file own.bases) (fields_config 2 4 own.command command_mask) (bases_config own.bases)

-- a write in a region leaves them
pub block_written_held : BlockWrittenHeld
block_written_held own file holds ons v n a =
    written_held own own file holds ons v (block n a) (sym (write_none ons v (block n a) (own_file own) (config_has_no_block ons n a (own_file own) (own_config own))))

-- ---- raises

pub hidden_raise : HiddenRaise
hidden_raise own m p file mine = grind (arith, own_change, raised_none, copies_stay)

pub copied_raise : CopiedRaise
copied_raise own m p file = grind (arith, hidden_raise, hidden_change, other_change)
