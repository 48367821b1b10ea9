-- A number of 1, 2 or 4 bytes is the enabled bytes of the word in which it lies.
use Rattle.std.{proofs.{Common.{◌≡◌, ℕ, zero, suc, ◌+◌, ◌-◌, ◌*◌, ◌/◌, ◌%◌, ◌^◌, ◌<◌, ◌≤◌, Bool, true, false, cond, List, [], ◌∷◌, ◌++◌, replicate, refl, sym, ap, ◌∙◌, arith}, Math.Nat.{pow-suc, one-le-pow, div-div-eq-div-mul, mul-div_cancel, mod-one, mul_comm}}, specs.Prelude.⊤}
use Rattle.model_registers.{proofs.RegisterFiles.low_byte, specs.{Cell.written, Registers.{Place, config, block, after, offset_of, File, cell_at, changed, read, write, number, all_bytes, all_ones}, ByteEnables.{lanes, enabled_bytes, to_lanes, word_of}, AccessLaws.{AlignedLiesInWord, NumberByLanes, LanesFit, NumberFromWord, AllOnesByLanes, WriteByLanes, DisabledRead, DisabledStay, HoldsBytes, NumberFits, ReadsEnabled}}}

pub aligned_lies_in_word : AlignedLiesInWord
aligned_lies_in_word = grind arith

-- ---- lanes that are not enabled

pub disabled_read : DisabledRead
disabled_read zero file p = refl
disabled_read (suc k) file p = let more : read file (after p) (replicate k false) ≡ 0 = disabled_read k file (after p) in omega arith

pub disabled_stay : DisabledStay
disabled_stay zero v file p = refl
disabled_stay (suc k) v file p = disabled_stay k (v / 256) file (after p)

-- the place k bytes further on
abbrev pub further : ℕ → Place → Place
further zero p = p
further (suc k) p = further k (after p)

-- l disabled lanes, w enabled ones and k disabled ones
abbrev pub lanes_of : ℕ → ℕ → ℕ → List Bool
lanes_of l w k = replicate l false ++ (replicate w true ++ replicate k false)

read_enabled : (w k : ℕ) (file : File) (p : Place) → read file p (replicate w true ++ replicate k false) ≡ number file p w
read_enabled zero k file p = disabled_read k file p
read_enabled (suc w) k file p = ap (λ n. (cell_at file p).value + 256 * n) (read_enabled w k file (after p))

shift_one : (n l : ℕ) → 0 + 256 * (n * 256 ^ l) ≡ n * 256 ^ suc l
shift_one n l = rw (pow-suc 256 l) (let c : ℕ = 256 ^ l in let same : 0 + 256 * (n * c) ≡ n * (c * 256) = omega arith in same)

read_lanes : (l w k : ℕ) (file : File) (p : Place) → read file p (lanes_of l w k) ≡ number file (further l p) w * 256 ^ l
read_lanes zero w k file p = read_enabled w k file p ∙ (let n : ℕ = number file p w in let same : n ≡ n * 1 = omega arith in same)
read_lanes (suc l) w k file p = ap (λ n. 0 + 256 * n) (read_lanes l w k file (after p)) ∙ shift_one (number file (further l (after p)) w) l

write_enabled : (w k v : ℕ) (file : File) (p : Place) → write (replicate w true ++ replicate k false) v p file ≡ write (all_bytes w) v p file
write_enabled zero k v file p = disabled_stay k v file p
write_enabled (suc w) k v file p = write_enabled w k (v / 256) (changed (written (v % 256)) p file) (after p)

write_lanes : (l w k v : ℕ) (file : File) (p : Place) → write (lanes_of l w k) v p file ≡ write (all_bytes w) (v / 256 ^ l) (further l p) file
write_lanes zero w k v file p = write_enabled w k v file p ∙ ap (λ n. write (all_bytes w) n p file) (let same : v ≡ v / 1 = omega arith in same)
write_lanes (suc l) w k v file p = grind (arith, write_lanes l w k (v / 256) file (after p), div-div-eq-div-mul, mul_comm, pow-suc)

-- ---- the enables of a number

-- of each part of a dword: its enables, its bits, and what is written into it
tables : (l w v : ℕ) → l + w ≤ 4
    → (lanes ((2 ^ w - 1) * 2 ^ l) ≡ lanes_of l w (4 - (l + w))) × ((2 ^ 32 - 1) / 256 ^ l % 256 ^ w ≡ all_ones w) × (v * 256 ^ l % 2 ^ 32 / 256 ^ l % 256 ^ w ≡ v % 256 ^ w)
tables zero zero v h = (refl, refl, omega arith)
tables zero (suc zero) v h = (refl, refl, omega arith)
tables zero (suc (suc zero)) v h = (refl, refl, omega arith)
tables zero (suc (suc (suc zero))) v h = (refl, refl, omega arith)
tables zero (suc (suc (suc (suc zero)))) v h = (refl, refl, omega arith)
tables (suc zero) zero v h = (refl, refl, omega arith)
tables (suc zero) (suc zero) v h = (refl, refl, omega arith)
tables (suc zero) (suc (suc zero)) v h = (refl, refl, omega arith)
tables (suc zero) (suc (suc (suc zero))) v h = (refl, refl, omega arith)
tables (suc (suc zero)) zero v h = (refl, refl, omega arith)
tables (suc (suc zero)) (suc zero) v h = (refl, refl, omega arith)
tables (suc (suc zero)) (suc (suc zero)) v h = (refl, refl, omega arith)
tables (suc (suc (suc zero))) zero v h = (refl, refl, omega arith)
tables (suc (suc (suc zero))) (suc zero) v h = (refl, refl, omega arith)
tables (suc (suc (suc (suc zero)))) zero v h = (refl, refl, omega arith)
tables zero (suc (suc (suc (suc (suc w))))) v h = absurd (omega arith)
tables (suc zero) (suc (suc (suc (suc w)))) v h = absurd (omega arith)
tables (suc (suc zero)) (suc (suc (suc w))) v h = absurd (omega arith)
tables (suc (suc (suc zero))) (suc (suc w)) v h = absurd (omega arith)
tables (suc (suc (suc (suc zero)))) (suc w) v h = absurd (omega arith)
tables (suc (suc (suc (suc (suc l))))) w v h = absurd (omega arith)

further-config : (l a : ℕ) → further l (config a) ≡ config (a + l)
further-config zero a = ap config (omega arith)
further-config (suc l) a = further-config l (a + 1) ∙ ap config (omega arith)

further-block : (l n a : ℕ) → further l (block n a) ≡ block n (a + l)
further-block zero n a = ap (block n) (omega arith)
further-block (suc l) n a = further-block l n (a + 1) ∙ ap (block n) (omega arith)

in_word : (p : Place) → further (offset_of p % 4) (word_of p) ≡ p
in_word p = grind (arith, further-config, further-block)

pub number_by_lanes : NumberByLanes
number_by_lanes file p w within =
    let l : ℕ = offset_of p % 4 in
    grind (arith, tables l w 0 within, read_lanes l w (4 - (l + w)) file (word_of p), mul-div_cancel, one-le-pow, in_word p)

-- ---- writes

-- a write of w bytes takes those of the number alone
write_same : (w x y : ℕ) (p : Place) (file : File) → x % 256 ^ w ≡ y % 256 ^ w → write (all_bytes w) x p file ≡ write (all_bytes w) y p file
write_same zero x y p file h = refl
write_same (suc w) x y p file h = grind (arith, low_byte, write_same w (x / 256) (y / 256) (after p) (changed (written (y % 256)) p file))

pub write_by_lanes : WriteByLanes
write_by_lanes file p w v within =
    let l : ℕ = offset_of p % 4 in
    sym (ap (λ ons. write ons (to_lanes (offset_of p) v) (word_of p) file) (tables l w 0 within).0
    ∙ write_lanes l w (4 - (l + w)) (to_lanes (offset_of p) v) file (word_of p)
    ∙ ap (λ q. write (all_bytes w) (to_lanes (offset_of p) v / 256 ^ l) q file) (in_word p)
    ∙ write_same w (to_lanes (offset_of p) v / 256 ^ l) v p file (tables l w v within).2)

-- ---- the bytes of a word

enabled_low : (w k n : ℕ) → enabled_bytes (replicate w true ++ replicate k false) n ≡ n % 256 ^ w
enabled_low zero zero n = sym (mod-one n)
enabled_low zero (suc k) n = let more : enabled_bytes (replicate k false) (n / 256) ≡ n / 256 % 1 = enabled_low zero k (n / 256) in omega arith
enabled_low (suc w) k n = ap (λ m. n % 256 + 256 * m) (enabled_low w k (n / 256)) ∙ low_byte w n

enabled_lanes : (l w k n : ℕ) → enabled_bytes (lanes_of l w k) n ≡ (n / 256 ^ l % 256 ^ w) * 256 ^ l
enabled_lanes zero w k n = enabled_low w k n ∙ (let same : n % 256 ^ w ≡ (n / 1 % 256 ^ w) * 1 = ap (λ m. m % 256 ^ w) (let one : n ≡ n / 1 = omega arith in one) ∙ sym (omega arith) in same)
enabled_lanes (suc l) w k n = grind (arith, enabled_lanes l w k (n / 256), shift_one, div-div-eq-div-mul, mul_comm, pow-suc)

pub lanes_fit : LanesFit
lanes_fit off w word within only =
    let l : ℕ = off % 4 in
    grind (arith, tables l w 0 within, enabled_lanes l w (4 - (l + w)) word, mul-div_cancel, one-le-pow)

pub number_from_word : NumberFromWord
number_from_word file p w word within is only = grind (arith, lanes_fit, number_by_lanes)

pub all_ones_by_lanes : AllOnesByLanes
all_ones_by_lanes off w within = (tables (off % 4) w 0 within).1

-- ---- files whose cells are bytes

value_fits : (file : File) → HoldsBytes file → (p : Place) → (cell_at file p).value < 256
value_fits [] h p = omega arith
value_fits (e ∷ es) h p = grind (arith, value_fits es)

pub number_fits : NumberFits
number_fits file h p zero = omega arith
number_fits file h p (suc w) = grind (arith, number_fits file h (after p) w, pow-suc, value_fits)

-- each byte that a read takes is a byte
abbrev pub TakesBytes : File → Place → List Bool → Type 0
TakesBytes file p [] = ⊤
TakesBytes file p (on ∷ ons) = (cond on (cell_at file p).value 0 < 256) × TakesBytes file (after p) ons

pub read_takes_bytes : (file : File) (p : Place) (ons : List Bool) → TakesBytes file p ons → read file p ons ≡ enabled_bytes ons (read file p ons)
read_takes_bytes file p [] h = refl
read_takes_bytes file p (on ∷ ons) h = grind (arith, read_takes_bytes file (after p) ons)

takes_bytes : (file : File) → HoldsBytes file → (p : Place) (ons : List Bool) → TakesBytes file p ons
takes_bytes file h p [] = tt
takes_bytes file h p (on ∷ ons) = grind (arith, value_fits, takes_bytes file h (after p) ons)

pub reads_enabled : ReadsEnabled
reads_enabled file h p ons = read_takes_bytes file p ons (takes_bytes file h p ons)

-- ---- an access in code: its offset a, width n, enables, word and lanes are known by equations
