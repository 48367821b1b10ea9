-- The words of a bridge, written over its bus numbers, leave its windows and Command 3: whatever the spans are.
use Rattle.std.{proofs.{Common.{◌≡◌, ℕ, ◌+◌, ◌-◌, ◌*◌, ◌/◌, ◌%◌, ◌^◌, ◌<◌, Bool, [], ◌∷◌, ◌++◌, refl, sym, ap, ap₂, ◌∙◌, zero-add, arith}, lemmas.Nat.{and_mask, and_block, or_block}, Math.Nat.{mod-eq_of_lt, add-zero}}, specs.{Prelude.{bit_and, bit_or}, Int.Bits.{or_zero_l, or_zero_r, and_zero_l, and_zero_r}}}
use Rattle.model_registers.specs.{Cell.{Cell, written}, Registers.{config, PlacedCell, File}, Declarations.{IoDecode, no_io, io16, io32, PrefDecode, no_pref, pref32, pref64, Bridge}, BridgeTable.{Window, no_window, BridgeValues, address_bits, io_cells, mem_cells, pref_cells, bridge_header, bridge_file}}
use Rattle.model_set_up.specs.{Scanning.{BusNumbers, with_numbers}, SetUpWrites.Windows}
use Rattle.window_packing.{specs.WordWrites.{bridge_words, memory_base_and_limit, io_base_and_limit, io_base_and_limit_upper}, proofs.FileWrites.{file_after, joined_after}}

-- ---- one byte

abbrev settable : ℕ → ℕ → Cell
settable v m = record { value = v; writable = m; clearable = 0 }

-- a byte whose bits are all writable takes what is written
byte : (x n : ℕ) → x ≡ n → n < 256 → written x (settable 0 255) ≡ settable n 255
byte x n e h = ap (λ v. settable v 255) value
  where
    value : bit_or (bit_or 0 (bit_and x 255)) (bit_and 0 (255 - x)) ≡ n
    value = ap₂ bit_or (or_zero_l (bit_and x 255) ∙ and_mask x 8 ∙ omega arith) (and_zero_l (255 - x)) ∙ or_zero_r n

-- one whose low four bits tell the decode keeps them
nibble : (x d k n : ℕ) → x ≡ k * 16 → k < 16 → d < 16 → n ≡ k * 16 + d → written x (settable d 240) ≡ settable n 240
nibble x d k n e h l is = ap (λ v. settable v 240) value
  where
    low : bit_and (bit_and d 15) 255 ≡ d
    low = ap (λ m. bit_and m 255) (and_mask d 4 ∙ mod-eq_of_lt l) ∙ and_mask d 8 ∙ omega arith

    high : bit_and x 240 ≡ k * 16
    high = ap (λ y. bit_and y 240) (e ∙ sym (add-zero (k * 16))) ∙ and_block 4 k 15 0 0 (omega arith) (omega arith) ∙ ap (λ m. m * 16 + 0) (and_mask k 4 ∙ mod-eq_of_lt h) ∙ add-zero (k * 16)

    joined : bit_or d (k * 16) ≡ n
    joined = ap₂ bit_or (sym (zero-add d)) (sym (add-zero (k * 16))) ∙ or_block 4 0 k d 0 l (omega arith) ∙ ap₂ (λ u v. u * 16 + v) (or_zero_l k) (or_zero_r d) ∙ sym is

    value : bit_or (bit_or (bit_and (bit_and d 15) 255) (bit_and x 240)) (bit_and (bit_and d 0) (255 - x)) ≡ n
    value = ap₂ bit_or (ap₂ bit_or low high ∙ joined) (ap (λ m. bit_and m (255 - x)) (and_zero_r d) ∙ and_zero_l (255 - x)) ∙ or_zero_r n

abbrev at : ℕ → Cell → PlacedCell
at a c = record { place = config a; cell = c }

-- the two registers of a memory window
window_part : (n d : ℕ) → d < 16 → (s : Window) → (let x : ℕ = memory_base_and_limit s in at n (written (x % 256) (settable d 240)) ∷ at (n + 1) (written (x / 256 % 256) (settable 0 255)) ∷ at (n + 2) (written (x / 256 / 256 % 256) (settable d 240))
    ∷ at (n + 3) (written (x / 256 / 256 / 256 % 256) (settable 0 255)) ∷ [])
    ≡ (let a : ℕ = address_bits (2 ^ 20) s.first d in let b : ℕ = address_bits (2 ^ 20) s.last d in at n (settable (a % 256) 240) ∷ at (n + 1) (settable (a / 256 % 256) 255) ∷ at (n + 2) (settable (b % 256) 240) ∷ at (n + 3) (settable (b / 256 % 256) 255) ∷ [])
window_part n d l s =
    let x = memory_base_and_limit s in
    let a = address_bits (2 ^ 20) s.first d in
    let b = address_bits (2 ^ 20) s.last d in
    λ i.
    at n (nibble (x % 256) d (s.first / 2 ^ 20 % 16) (a % 256) (omega arith) (omega arith) l (omega arith) i)
    ∷ at (n + 1) (byte (x / 256 % 256) (a / 256 % 256) (omega arith) (omega arith) i)
    ∷ at (n + 2) (nibble (x / 256 / 256 % 256) d (s.last / 2 ^ 20 % 16) (b % 256) (omega arith) (omega arith) l (omega arith) i)
    ∷ at (n + 3) (byte (x / 256 / 256 / 256 % 256) (b / 256 % 256) (omega arith) (omega arith) i)
    ∷ []

-- ---- the parts of the file

module _ (w : Windows) where
  mem_part : file_after (bridge_words w) (mem_cells no_window) ≡ mem_cells w.mem
  mem_part = window_part 0x20 0 (omega arith) w.mem

  io_part : (d : IoDecode) → file_after (bridge_words w) (io_cells d no_window) ≡ io_cells d w.io
  io_part no_io = refl
  io_part io16 =
      let s = w.io in
      let x = io_base_and_limit s in
      let a = address_bits (2 ^ 12) s.first 0 in
      let b = address_bits (2 ^ 12) s.last 0 in
      λ i.
      at 0x1c (nibble (x % 256) 0 (s.first / 2 ^ 12 % 16) (a % 256) (omega arith) (omega arith) (omega arith) (omega arith) i)
      ∷ at 0x1d (nibble (x / 256 % 256) 0 (s.last / 2 ^ 12 % 16) (b % 256) (omega arith) (omega arith) (omega arith) (omega arith) i)
      ∷ []
  io_part io32 =
      let s = w.io in
      let x = io_base_and_limit s in
      let a = address_bits (2 ^ 12) s.first 1 in
      let b = address_bits (2 ^ 12) s.last 1 in
      let y = io_base_and_limit_upper s in
      let c = s.first / 2 ^ 16 in
      let d = s.last / 2 ^ 16 in
      λ i.
      at 0x1c (nibble (x % 256) 1 (s.first / 2 ^ 12 % 16) (a % 256) (omega arith) (omega arith) (omega arith) (omega arith) i)
      ∷ at 0x1d (nibble (x / 256 % 256) 1 (s.last / 2 ^ 12 % 16) (b % 256) (omega arith) (omega arith) (omega arith) (omega arith) i)
      ∷ at 0x30 (byte (y % 256) (c % 256) (omega arith) (omega arith) i)
      ∷ at 0x31 (byte (y / 256 % 256) (c / 256 % 256) (omega arith) (omega arith) i)
      ∷ at 0x32 (byte (y / 256 / 256 % 256) (d % 256) (omega arith) (omega arith) i)
      ∷ at 0x33 (byte (y / 256 / 256 / 256 % 256) (d / 256 % 256) (omega arith) (omega arith) i)
      ∷ []

  pref_part : (d : PrefDecode) → file_after (bridge_words w) (pref_cells d no_window) ≡ pref_cells d w.pref
  pref_part no_pref = refl
  pref_part pref32 = window_part 0x24 0 (omega arith) w.pref
  pref_part pref64 =
      let c = w.pref.first / 2 ^ 32 in
      let d = w.pref.last / 2 ^ 32 in
      λ i.
      window_part 0x24 1 (omega arith) w.pref i ++
      at 0x28 (byte (c % 256) (c % 256) refl (omega arith) i)
      ∷ at 0x29 (byte (c / 256 % 256) (c / 256 % 256) refl (omega arith) i)
      ∷ at 0x2a (byte (c / 256 / 256 % 256) (c / 256 / 256 % 256) refl (omega arith) i)
      ∷ at 0x2b (byte (c / 256 / 256 / 256 % 256) (c / 256 / 256 / 256 % 256) refl (omega arith) i)
      ∷ at 0x2c (byte (d % 256) (d % 256) refl (omega arith) i)
      ∷ at 0x2d (byte (d / 256 % 256) (d / 256 % 256) refl (omega arith) i)
      ∷ at 0x2e (byte (d / 256 / 256 % 256) (d / 256 / 256 % 256) refl (omega arith) i)
      ∷ at 0x2f (byte (d / 256 / 256 / 256 % 256) (d / 256 / 256 / 256 % 256) refl (omega arith) i)
      ∷ []

abbrev pub routed : BusNumbers → Windows → BridgeValues
routed n w = record {
  command = 3;
  primary = n.primary;
  secondary = n.secondary;
  subordinate = n.subordinate;
  io = w.io;
  mem = w.mem;
  pref = w.pref;
}

pub bridge_written : (d : Bridge) (multifunction : Bool) (n : BusNumbers) (w : Windows) → file_after (bridge_words w) (bridge_file d multifunction (with_numbers n)) ≡ bridge_file d multifunction (routed n w)
bridge_written d multifunction n w =
    let ws = bridge_words w in
    let r = with_numbers n in
    joined_after ws (bridge_header d multifunction r) (mem_cells no_window ++ io_cells d.io no_window ++ pref_cells d.pref no_window)
    ∙ ap₂ (λ (x y : File). x ++ y) header
    (joined_after ws (mem_cells no_window ++ io_cells d.io no_window) (pref_cells d.pref no_window)
    ∙ ap₂ (λ (x y : File). x ++ y) (joined_after ws (mem_cells no_window) (io_cells d.io no_window) ∙ ap₂ (λ (x y : File). x ++ y) (mem_part w) (io_part w d.io)) (pref_part w d.pref))
  where
    header : file_after (bridge_words w) (bridge_header d multifunction (with_numbers n)) ≡ bridge_header d multifunction (routed n w)
    header = refl
