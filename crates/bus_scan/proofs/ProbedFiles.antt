-- What the registers of a file read after all ones, and that they take back what they held.
--     Probed      an access of these bytes reads the mask after all ones, and a write of what was read before leaves the file as it was
use Rattle.std.{proofs.{Common.{◌≡◌, ℕ, ◌+◌, ◌-◌, ◌*◌, ◌/◌, ◌%◌, ◌^◌, ◌<◌, ◌≤◌, inl, inr, Bool, true, false, List, [], ◌∷◌, ◌++◌, refl, sym, ap, ap₂, ◌∙◌, subst, arith, append-nil}, lemmas.{Nat.{and_mask, and_comm, pow-add, pow_below, pow_pos}, Bool.cases_lt}, Math.Nat.mod-eq_of_lt}, specs.{Prelude.{bit_and, bit_or}, Int.Bits.{or_zero_l, and_zero_l}}}
use Rattle.model_registers.{specs.{Registers.{Place, config, File, read, write, field}, FileLaws.HasNone, Declarations.{Kind, registers_of, least_size, IsLawfulSize, Bar, IoDecode, no_io, io16, io32, PrefDecode, no_pref, pref32, pref64, Bridge}, EndpointTable.{base_register, type_bits, base_width, BaseAddress, register_cells, IsLawfulBase}, BaseLaws.{shown, rebased}, Sizing.mask_of, ByteEnables.lanes, BridgeTable.bridge_file}, proofs.{Files.{read_none, write_none, read_second, read_first, joined_write}, Bases.{four, size_limits, write_one, rewritten_low, rewritten_high, read_low, read_high, and_upper, one_or_two}}}
use Rattle.bus_scan.proofs.WriteBack.{field_back}
use Rattle.model_set_up.specs.Scanning.{BusNumbers, with_numbers}

abbrev pub ones : ℕ
ones = 0xffffffff

pub record Probed (ons : List Bool) (p : Place) (file : File) (mask : ℕ) : Type 0 where
  pub shown : read (write ons ones p file) p ons ≡ mask
  pub back : write ons (read file p ons) p (write ons ones p file) ≡ file

-- ---- joined files

pub probed_none : (ons : List Bool) (p : Place) (file : File) → HasNone file p ons → Probed ons p file 0
probed_none ons p file none = grind (arith, write_none, read_none)

pub probed_second : (ons : List Bool) (p : Place) (xs ys : File) (mask : ℕ) → HasNone xs p ons → Probed ons p ys mask → Probed ons p (xs ++ ys) mask
probed_second ons p xs ys mask none h = grind (arith, joined_write, write_none, read_second)

pub probed_first : (ons : List Bool) (p : Place) (xs ys : File) (mask : ℕ) → HasNone ys p ons → Probed ons p xs mask → Probed ons p (xs ++ ys) mask
probed_first ons p xs ys mask none h = grind (arith, joined_write, write_none, read_first)

-- ---- one base address register

abbrev pub all_four : List Bool
all_four = four true true true true

lower_eight : List Bool
lower_eight = true ∷ true ∷ true ∷ true ∷ false ∷ false ∷ false ∷ false ∷ []

upper_eight : List Bool
upper_eight = false ∷ false ∷ false ∷ false ∷ true ∷ true ∷ true ∷ true ∷ []

back_four : (x a v w : ℕ) → write all_four (read (field (config a) 4 v w 0) (config a) all_four) (config a) (write all_four x (config a) (field (config a) 4 v w 0)) ≡ field (config a) 4 v w 0
back_four x a v w = field_back all_four x a v w

back_lower : (x a v w : ℕ) → write all_four (read (field (config a) 8 v w 0) (config a) all_four) (config a) (write all_four x (config a) (field (config a) 8 v w 0)) ≡ field (config a) 8 v w 0
unfolding lower_eight
back_lower x a v w = field_back lower_eight x a v w

write_upper : (x a : ℕ) (file : File) → write upper_eight (x * 2 ^ 32) (config a) file ≡ write all_four x (config (a + 4)) file
unfolding upper_eight
write_upper x a file = ap₂ (λ y q. write all_four y (config q) file) (omega arith) (omega arith)

read_upper : (a : ℕ) (file : File) → read file (config a) upper_eight ≡ read file (config (a + 4)) all_four * 2 ^ 32
unfolding upper_eight
read_upper a file = grind arith

back_eight : (x a v w : ℕ) → write upper_eight (read (field (config a) 8 v w 0) (config a) upper_eight) (config a) (write upper_eight x (config a) (field (config a) 8 v w 0)) ≡ field (config a) 8 v w 0
unfolding upper_eight
back_eight x a v w = field_back upper_eight x a v w

back_upper : (x a v w : ℕ) → write all_four (read (field (config a) 8 v w 0) (config (a + 4)) all_four) (config (a + 4)) (write all_four x (config (a + 4)) (field (config a) 8 v w 0)) ≡ field (config a) 8 v w 0
back_upper x a v w =
    let file : File = field (config a) 8 v w 0 in
    ap (write all_four (read file (config (a + 4)) all_four) (config (a + 4))) (sym (write_upper x a file))
    ∙ sym (write_upper (read file (config (a + 4)) all_four) a (write upper_eight (x * 2 ^ 32) (config a) file))
    ∙ ap (λ n. write upper_eight n (config a) (write upper_eight (x * 2 ^ 32) (config a) file)) (sym (read_upper a file))
    ∙ back_eight (x * 2 ^ 32) a v w

-- the registers of a bar at an index, with a base
abbrev pub at_index : ℕ → Bar → ℕ → BaseAddress
at_index n b base = record { index = n; kind = b.kind; size = b.size; base = base }

back_low : (b : BaseAddress) → write all_four (read (register_cells b) (base_register b.index) all_four) (base_register b.index) (write all_four ones (base_register b.index) (register_cells b)) ≡ register_cells b
back_low b = elim (one_or_two b.kind) [ inl one ↦ by_width 1 one (back_four ones) | inr two ↦ by_width 2 two (back_lower ones) ]
  where
    by_width : (k : ℕ) → registers_of b.kind ≡ k
        → ((a v w : ℕ) → write all_four (read (field (config a) (4 * k) v w 0) (config a) all_four) (config a) (write all_four ones (config a) (field (config a) (4 * k) v w 0)) ≡ field (config a) (4 * k) v w 0)
        → write all_four (read (register_cells b) (base_register b.index) all_four) (base_register b.index) (write all_four ones (base_register b.index) (register_cells b)) ≡ register_cells b
    by_width k e h =
        subst (λ n. write all_four (read (field (base_register b.index) (4 * n) (b.base + type_bits b.kind) (2 ^ base_width b.kind - b.size) 0) (base_register b.index) all_four) (base_register b.index)
        (write all_four ones (base_register b.index) (field (base_register b.index) (4 * n) (b.base + type_bits b.kind) (2 ^ base_width b.kind - b.size) 0))
        ≡ field (base_register b.index) (4 * n) (b.base + type_bits b.kind) (2 ^ base_width b.kind - b.size) 0) (sym e)
        (h (0x10 + 4 * b.index) (b.base + type_bits b.kind) (2 ^ base_width b.kind - b.size))

back_high : (b : BaseAddress) → registers_of b.kind ≡ 2
    → write all_four (read (register_cells b) (base_register (b.index + 1)) all_four) (base_register (b.index + 1)) (write all_four ones (base_register (b.index + 1)) (register_cells b)) ≡ register_cells b
back_high b two =
    let v : ℕ = b.base + type_bits b.kind in
    let w : ℕ = 2 ^ base_width b.kind - b.size in
    let next : 0x10 + 4 * b.index + 4 ≡ 0x10 + 4 * (b.index + 1) = omega arith in
    subst (λ n. write all_four (read (field (base_register b.index) (4 * n) v w 0) (base_register (b.index + 1)) all_four) (base_register (b.index + 1))
    (write all_four ones (base_register (b.index + 1)) (field (base_register b.index) (4 * n) v w 0)) ≡ field (base_register b.index) (4 * n) v w 0) (sym two)
    (subst (λ q. write all_four (read (field (base_register b.index) 8 v w 0) (config q) all_four) (config q) (write all_four ones (config q) (field (base_register b.index) 8 v w 0)) ≡ field (base_register b.index) 8 v w 0) next
    (back_upper ones (0x10 + 4 * b.index) v w))

-- ---- what they read

-- a base of 0 after all ones
ones_rebased : (w m x e : ℕ) → bit_or (bit_and 0 (2 ^ w - 1 - bit_and m e)) (bit_and x (bit_and m e)) ≡ bit_and x (bit_and m e)
ones_rebased w m x e = ap (λ n. bit_or n (bit_and x (bit_and m e))) (and_zero_l (2 ^ w - 1 - bit_and m e)) ∙ or_zero_l (bit_and x (bit_and m e))

low_mask : (m : ℕ) → bit_and ones (bit_and m ones) ≡ m % 2 ^ 32
low_mask m = ap (bit_and ones) (and_mask m 32) ∙ and_comm ones (m % 2 ^ 32) ∙ and_mask (m % 2 ^ 32) 32 ∙ omega arith

high_mask : (m : ℕ) → m < 2 ^ 64 → bit_and (ones * 2 ^ 32) (bit_and m (ones * 2 ^ 32)) ≡ m / 2 ^ 32 * 2 ^ 32
high_mask m h = grind (arith, and_upper m ones, and_mask (m / 2 ^ 32) 32, mod-eq_of_lt, and_upper (ones * 2 ^ 32) (m / 2 ^ 32), and_comm ones (m / 2 ^ 32))

-- a size of 16 or more is a multiple of 16
pub sixteens : (kind : Kind) (size : ℕ) → IsLawfulSize kind size → 16 ≤ size → size % 16 ≡ 0
sixteens kind size h least =
    let k : ℕ = h.power.0 in
    let is : size ≡ 2 ^ k = h.power.1 in
    let within : 4 ≤ k = elim (cases_lt k 4) [ inl below ↦ absurd (omega (arith, is, pow_below k 4 below)) | inr le ↦ le ] in
    grind (arith, pow-add 2 (k - 4) 4)

zero_lawful : (n : ℕ) (b : Bar) → IsLawfulSize b.kind b.size → IsLawfulBase (at_index n b 0)
zero_lawful n b lawful = grind (arith, mod-eq_of_lt, size_limits, pow_pos)

low_shown : (n : ℕ) (b : Bar) → IsLawfulSize b.kind b.size
    → read (write all_four ones (base_register n) (register_cells (at_index n b 0))) (base_register n) all_four ≡ mask_of b % 2 ^ 32
low_shown n b lawful =
    let zero : BaseAddress = at_index n b 0 in
    let m : ℕ = 2 ^ base_width b.kind - b.size in
    let base : rebased zero ones ones ≡ m % 2 ^ 32 = ones_rebased (base_width b.kind) m ones ones ∙ low_mask m in
    let cells : write all_four ones (base_register n) (register_cells zero) ≡ register_cells (at_index n b (m % 2 ^ 32)) =
    write_one zero (zero_lawful n b lawful) true true true true ones n ∙ ap register_cells (rewritten_low n all_four ones zero refl ∙ ap (at_index n b) base) in
    let then : BaseAddress = at_index n b (m % 2 ^ 32) in
    grind (arith, append-nil (register_cells then), read_low then [] true true true true, and_mask (shown then) 32)

high_shown : (n : ℕ) (b : Bar) → IsLawfulSize b.kind b.size → registers_of b.kind ≡ 2
    → read (write all_four ones (base_register (n + 1)) (register_cells (at_index n b 0))) (base_register (n + 1)) all_four ≡ mask_of b / 2 ^ 32
high_shown n b lawful two =
    let zero : BaseAddress = at_index n b 0 in
    let m : ℕ = 2 ^ base_width b.kind - b.size in
    let width : 2 ^ base_width b.kind ≡ 2 ^ 64 = ap (λ k. 2 ^ (32 * k)) two in
    let limits : (b.size < 2 ^ base_width b.kind) × (type_bits b.kind < b.size) = size_limits b.kind b.size lawful in
    let least : (16 ≤ b.size) × (type_bits b.kind < 16) = wide b.kind two b.size lawful.not_less in
    let rest : b.size % 16 ≡ 0 = sixteens b.kind b.size lawful least.0 in
    let base : rebased zero (ones * 2 ^ 32) (ones * 2 ^ 32) ≡ m / 2 ^ 32 * 2 ^ 32 = ones_rebased (base_width b.kind) m (ones * 2 ^ 32) (ones * 2 ^ 32) ∙ high_mask m (omega arith) in
    let then : BaseAddress = at_index n b (m / 2 ^ 32 * 2 ^ 32) in
    let cells : write all_four ones (base_register (n + 1)) (register_cells zero) ≡ register_cells then =
    write_one zero (zero_lawful n b lawful) true true true true ones (n + 1) ∙ ap register_cells (rewritten_high (n + 1) all_four ones zero refl two ∙ ap (at_index n b) base) in
    ap (λ (f : File). read f (base_register (n + 1)) all_four) (cells ∙ sym (append-nil (register_cells then)))
    ∙ read_high then two [] true true true true ∙ and_mask (shown then / 2 ^ 32) 32 ∙ omega arith
  where
    wide : (kind : Kind) → registers_of kind ≡ 2 → (size : ℕ) → least_size kind ≤ size → (16 ≤ size) × (type_bits kind < 16)
    wide kind two size h = grind arith

pub probed_low : (n : ℕ) (b : Bar) → IsLawfulSize b.kind b.size → Probed all_four (base_register n) (register_cells (at_index n b 0)) (mask_of b % 2 ^ 32)
probed_low n b lawful = record { shown = low_shown n b lawful; back = back_low (at_index n b 0) }

pub probed_high : (n : ℕ) (b : Bar) → IsLawfulSize b.kind b.size → registers_of b.kind ≡ 2 → Probed all_four (base_register (n + 1)) (register_cells (at_index n b 0)) (mask_of b / 2 ^ 32)
probed_high n b lawful two = record { shown = high_shown n b lawful two; back = back_high (at_index n b 0) two }

-- ---- what the window registers of a bridge read after all ones, whatever bus numbers it holds

abbrev pub io_mask : IoDecode → ℕ
io_mask no_io = 0
io_mask io16 = 0xf0f0
io_mask io32 = 0xf1f1

abbrev pub pref_mask : PrefDecode → ℕ
pref_mask no_pref = 0
pref_mask pref32 = 0xfff0fff0
pref_mask pref64 = 0xfff1fff1

abbrev bridge_with : Bridge → IoDecode → PrefDecode → Bridge
bridge_with d io pref = record d { io = io; pref = pref }

probed_by : (d : Bridge) (io : IoDecode) (pref : PrefDecode) (multifunction : Bool) (n : BusNumbers) → Probed (lanes 0b0011) (config 0x1c) (bridge_file (bridge_with d io pref) multifunction (with_numbers n)) (io_mask io)
    × Probed (lanes 0b1111) (config 0x24) (bridge_file (bridge_with d io pref) multifunction (with_numbers n)) (pref_mask pref)
probed_by d no_io no_pref multifunction n = (record { shown = refl; back = refl }, record { shown = refl; back = refl })
probed_by d no_io pref32 multifunction n = (record { shown = refl; back = refl }, record { shown = refl; back = refl })
probed_by d no_io pref64 multifunction n = (record { shown = refl; back = refl }, record { shown = refl; back = refl })
probed_by d io16 no_pref multifunction n = (record { shown = refl; back = refl }, record { shown = refl; back = refl })
probed_by d io16 pref32 multifunction n = (record { shown = refl; back = refl }, record { shown = refl; back = refl })
probed_by d io16 pref64 multifunction n = (record { shown = refl; back = refl }, record { shown = refl; back = refl })
probed_by d io32 no_pref multifunction n = (record { shown = refl; back = refl }, record { shown = refl; back = refl })
probed_by d io32 pref32 multifunction n = (record { shown = refl; back = refl }, record { shown = refl; back = refl })
probed_by d io32 pref64 multifunction n = (record { shown = refl; back = refl }, record { shown = refl; back = refl })

pub probed_io : (d : Bridge) (multifunction : Bool) (n : BusNumbers) → Probed (lanes 0b0011) (config 0x1c) (bridge_file d multifunction (with_numbers n)) (io_mask d.io)
probed_io d multifunction n = (probed_by d d.io d.pref multifunction n).0

pub probed_pref : (d : Bridge) (multifunction : Bool) (n : BusNumbers) → Probed (lanes 0b1111) (config 0x24) (bridge_file d multifunction (with_numbers n)) (pref_mask d.pref)
probed_pref d multifunction n = (probed_by d d.io d.pref multifunction n).1
