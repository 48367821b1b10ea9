-- Bus numbers are written into a bridge's registers.
use Rattle.std.{proofs.{Common.{◌≡◌, ℕ, ◌+◌, ◌-◌, ◌*◌, ◌/◌, ◌%◌, ◌<◌, Bool, [], ◌∷◌, ◌++◌, ap, ap₂, ◌∙◌, arith}, lemmas.Nat.and_mask}, specs.{Prelude.{bit_and, bit_or}, Int.Bits.{and_zero_r, and_zero_l, or_zero_l, or_zero_r}}}
use Rattle.model_registers.{specs.{Cell.{Cell, written}, Registers.{config, File, field, write}, ByteEnables.lanes, Declarations.{IoDecode, PrefDecode, Bridge}, EndpointTable.header_type, BridgeTable.{no_window, io_cells, mem_cells, pref_cells, bridge_header, bridge_file}}, proofs.Files.joined_write}
use Rattle.model_set_up.specs.Scanning.{BusNumbers, with_numbers}

-- a byte whose bits are all writable
abbrev byte : ℕ → Cell
byte n = record { value = n; writable = 255; clearable = 0 }

abbrev settable : ℕ → Cell
settable x = byte (x % 256)

byte_set : (x v : ℕ) → written (v % 256) (settable x) ≡ settable v
byte_set x v = ap byte (
    ap₂ bit_or (ap₂ bit_or (ap (λ t. bit_and t 255) (and_zero_r (x % 256)) ∙ and_zero_l 255) (and_mask (v % 256) 8) ∙ or_zero_l (v % 256 % 256)) (ap (λ t. bit_and t (255 - v % 256)) (and_zero_r (x % 256)) ∙ and_zero_l (255 - v % 256))
    ∙ or_zero_r (v % 256 % 256) ∙ mod_twice)
  where
    mod_twice : v % 256 % 256 ≡ v % 256
    mod_twice = omega arith

-- the three numbers as a word, Primary lowest
abbrev pub numbers_word : BusNumbers → ℕ
numbers_word n = n.primary + 256 * n.secondary + 65536 * n.subordinate

pub record FitBytes (n : BusNumbers) : Type 0 where
  pub primary : n.primary < 256
  pub secondary : n.secondary < 256
  pub subordinate : n.subordinate < 256

io_stays : (io : IoDecode) (v : ℕ) → write (lanes 15) v (config 0x18) (io_cells io no_window) ≡ io_cells io no_window
io_stays io v = grind arith

pref_stays : (pref : PrefDecode) (v : ℕ) → write (lanes 15) v (config 0x18) (pref_cells pref no_window) ≡ pref_cells pref no_window
pref_stays pref v = grind arith

windows_stay : (d : Bridge) (v : ℕ) → write (lanes 15) v (config 0x18) (mem_cells no_window ++ io_cells d.io no_window ++ pref_cells d.pref no_window) ≡ mem_cells no_window ++ io_cells d.io no_window ++ pref_cells d.pref no_window
windows_stay d v = grind (arith, joined_write, io_stays, pref_stays)

-- a byte of the word, in the register of a number
number_set : (x v y : ℕ) → v % 256 ≡ y % 256 → written (v % 256) (settable x) ≡ settable y
number_set x v y e = byte_set x v ∙ ap byte e

module _ (m : BusNumbers) (fits : FitBytes m) where
  abbrev word : ℕ
  word = numbers_word m

  primary_byte : (x : ℕ) → written (word % 256) (settable x) ≡ settable m.primary
  primary_byte x = number_set x word m.primary (omega (arith, fits.primary))

  secondary_byte : (x : ℕ) → written (word / 256 % 256) (settable x) ≡ settable m.secondary
  secondary_byte x = number_set x (word / 256) m.secondary (omega (arith, fits.primary, fits.secondary))

  subordinate_byte : (x : ℕ) → written (word / 256 / 256 % 256) (settable x) ≡ settable m.subordinate
  subordinate_byte x = number_set x (word / 256 / 256) m.subordinate (omega (arith, fits.primary, fits.secondary, fits.subordinate))

  -- the Secondary Latency Timer stays 0
  timer_byte : written (word / 256 / 256 / 256 % 256) (settable 0) ≡ settable 0
  timer_byte = number_set 0 (word / 256 / 256 / 256) 0 (omega (arith, fits.primary, fits.secondary, fits.subordinate))

abbrev windows : Bridge → File
windows d = mem_cells no_window ++ io_cells d.io no_window ++ pref_cells d.pref no_window

pub bridge_written : (d : Bridge) (multifunction : Bool) (n m : BusNumbers) → FitBytes m
    → write (lanes 15) (numbers_word m) (config 0x18) (bridge_file d multifunction (with_numbers n)) ≡ bridge_file d multifunction (with_numbers m)
bridge_written d multifunction n m fits =
    joined_write (lanes 15) (numbers_word m) (config 0x18) (bridge_header d multifunction (with_numbers n)) (windows d)
    ∙ ap₂ (λ (xs ys : File). xs ++ ys) header (windows_stay d (numbers_word m))
  where
    with_cells : Cell → Cell → Cell → Cell → File
    with_cells a b c e =
        field (config 0x00) 2 d.vendor 0 0 ++ field (config 0x02) 2 d.device 0 0
        ++ field (config 0x04) 2 0 0x0147 0 ++ field (config 0x06) 2 d.status 0 0xf900
        ++ field (config 0x08) 1 d.revision 0 0 ++ field (config 0x09) 3 0x060400 0 0
        ++ field (config 0x0c) 2 0 0xffff 0 ++ field (config 0x0e) 1 (header_type 1 multifunction) 0 0
        ++ record { place = config 0x18; cell = a } ∷ record { place = config 0x19; cell = b } ∷ record { place = config 0x1a; cell = c } ∷ record { place = config 0x1b; cell = e } ∷ []
        ++ field (config 0x1e) 2 d.secondary_status 0 0xf900 ++ field (config 0x3c) 1 0 0xff 0

    header : write (lanes 15) (numbers_word m) (config 0x18) (bridge_header d multifunction (with_numbers n)) ≡ bridge_header d multifunction (with_numbers m)
    header = λ i. with_cells (primary_byte m fits n.primary i) (secondary_byte m fits n.secondary i) (subordinate_byte m fits n.subordinate i) (timer_byte m fits i)
