-- Base address registers: what a write leaves, and what a read shows.
use Rattle.std.{proofs.{Common.{◌≡◌, ℕ, ◌+◌, ◌-◌, ◌*◌, ◌/◌, ◌%◌, ◌^◌, ◌<◌, ◌≤◌, ◌⊎◌, inl, inr, Bool, false, List, [], ◌∷◌, ◌++◌, length, map, sym, ap, ap₂, ◌∙◌, subst, arith, eqb}, lemmas.{Nat.{and_mask, and_block, or_block, or_lt, and_le_l, and_le_r, and_comm, mod_low, pow-add, pow_pos, shr_split, mod_below, pow_below, shr_below, shl_below, Bits.and_high}, Bool.{cases_lt, cases_eq, cond-true, cond-false, eq-eqb, ne_eqb, and_from, and_left, and_right}}, Math.Nat.{mod-eq_of_lt, add-zero, mul-le-mul_right, mul_assoc}}, specs.{Prelude.{bit_and, bit_or}, Int.Bits.{or_zero_r, and_zero_r}}}
use Rattle.model_registers.{specs.{Registers.{File, read, write}, ByteEnables.{is_enabled, enabled_bits}, Declarations.{Kind, registers_of, IsLawfulSize}, EndpointTable.{base_register, type_bits, base_width, BaseAddress, register_cells, base_file, IsLawfulBase}, BaseLaws.{shown, word_at, overwritten, rebased, rewritten, ReadsOfBases, WritesOfBases}}, proofs.{EnabledBytes.{read_field, write_field}, Parts.{IsApart, read_apart, write_apart, write_append, write_none, read_none}}}
use Rattle.lists.specs.Elements.{Each}

-- what such a mask leaves: all k low bits, and the high ones that q lacks
rest_of_blocks : (q d n : ℕ) → 0 < n → (q + 1 + d) * n - 1 - q * n ≡ d * n + (n - 1)
rest_of_blocks q d n h = omega arith

rest_of_mask : (j k q : ℕ) → q < 2 ^ j → 2 ^ (j + k) - 1 - q * 2 ^ k ≡ (2 ^ j - 1 - q) * 2 ^ k + (2 ^ k - 1)
rest_of_mask j k q h = grind (arith, pow-add 2 j k, rest_of_blocks q (2 ^ j - 1 - q) (2 ^ k) (pow_pos k), pow_pos k)

-- where the mask has no bit below k, a write passes by the k low bits
block_merged : (j k q b t x : ℕ) → q < 2 ^ j → t < 2 ^ k
    → overwritten (j + k) (b * 2 ^ k + t) x (q * 2 ^ k) ≡ bit_or (bit_and b (2 ^ j - 1 - q)) (bit_and (x / 2 ^ k) q) * 2 ^ k + t
block_merged j k q b t x hq ht =
    let some : 0 < 2 ^ k = pow_pos k in
    let low : bit_and t (2 ^ k - 1) ≡ t = and_mask t k ∙ mod-eq_of_lt ht in
    let kept : bit_and (b * 2 ^ k + t) (2 ^ (j + k) - 1 - q * 2 ^ k) ≡ bit_and b (2 ^ j - 1 - q) * 2 ^ k + t =
    ap (bit_and (b * 2 ^ k + t)) (rest_of_mask j k q hq) ∙ and_block k b (2 ^ j - 1 - q) t (2 ^ k - 1) ht (omega arith) ∙ ap (λ n. bit_and b (2 ^ j - 1 - q) * 2 ^ k + n) low in
    let taken : bit_and x (q * 2 ^ k) ≡ bit_and (x / 2 ^ k) q * 2 ^ k + 0 =
    ap₂ bit_and (sym (shr_split x k)) (sym (add-zero (q * 2 ^ k)))
    ∙ and_block k (x / 2 ^ k) q (x % 2 ^ k) 0 (mod_below x (2 ^ k) some) some ∙ ap (λ n. bit_and (x / 2 ^ k) q * 2 ^ k + n) (and_zero_r (x % 2 ^ k)) in
    ap₂ bit_or kept taken ∙ or_block k (bit_and b (2 ^ j - 1 - q)) (bit_and (x / 2 ^ k) q) t 0 ht some
    ∙ ap (λ n. bit_or (bit_and b (2 ^ j - 1 - q)) (bit_and (x / 2 ^ k) q) * 2 ^ k + n) (or_zero_r t)

-- ---- a lawful base

pub size_limits : (kind : Kind) (size : ℕ) → IsLawfulSize kind size → (size < 2 ^ base_width kind) × (type_bits kind < size)
size_limits kind size h = grind arith

pub exponent_below : (k w : ℕ) → 2 ^ k < 2 ^ w → k ≤ w
exponent_below k w h = elim (cases_lt w k) [ inl above ↦ absurd (omega (arith, pow_below w k above)) | inr within ↦ within ]

-- the exponents of a size and of what is left of the base's width
record Parts (b : BaseAddress) : Type 0 where
  j : ℕ
  k : ℕ
  width : base_width b.kind ≡ j + k
  size : b.size ≡ 2 ^ k
  types : type_bits b.kind < 2 ^ k

parts : (b : BaseAddress) → IsLawfulBase b → Parts b
parts b lawful =
    let power : (k : ℕ) × (b.size ≡ 2 ^ k) = lawful.size_is_lawful.power in
    let limits : (b.size < 2 ^ base_width b.kind) × (type_bits b.kind < b.size) = size_limits b.kind b.size lawful.size_is_lawful in
    let within : power.0 ≤ base_width b.kind = exponent_below power.0 (base_width b.kind) (subst (λ n. n < 2 ^ base_width b.kind) power.1 limits.0) in
    record {
      j = base_width b.kind - power.0;
      k = power.0;
      width = omega arith;
      size = power.1;
      types = subst (λ n. type_bits b.kind < n) power.1 limits.1;
    }

-- a base leaves room for its region
pub base_room : (b : BaseAddress) → IsLawfulBase b → b.base + b.size ≤ 2 ^ base_width b.kind
base_room b lawful =
    let p : Parts b = parts b lawful in
    let aligned : b.base % 2 ^ p.k ≡ 0 = subst (λ n. b.base % n ≡ 0) p.size lawful.aligned in
    let fits : b.base < 2 ^ (p.j + p.k) = subst (λ w. b.base < 2 ^ w) p.width lawful.fits in
    let whole : b.base ≡ b.base / 2 ^ p.k * 2 ^ p.k = omega (arith, shr_split b.base p.k) in
    let high : b.base / 2 ^ p.k + 1 ≤ 2 ^ p.j = omega (arith, shr_below b.base p.j p.k fits) in
    grind (arith, mul-le-mul_right, pow-add)

-- a base is a multiple of each power of two up to its size
pub base_multiple : (b : BaseAddress) → IsLawfulBase b → (i : ℕ) → 2 ^ i ≤ b.size → b.base % 2 ^ i ≡ 0
base_multiple b lawful i h =
    let p : Parts b = parts b lawful in
    let within : i ≤ p.k = elim (cases_lt p.k i) [ inl above ↦ absurd (omega (arith, p.size, pow_below p.k i above)) | inr le ↦ le ] in
    let aligned : b.base % 2 ^ p.k ≡ 0 = subst (λ n. b.base % n ≡ 0) p.size lawful.aligned in
    let whole : b.base ≡ b.base / 2 ^ p.k * 2 ^ p.k = omega (arith, shr_split b.base p.k) in
    let split : 2 ^ p.k ≡ 2 ^ (p.k - i) * 2 ^ i = ap (λ n. 2 ^ n) (omega arith) ∙ pow-add 2 (p.k - i) i in
    ap (λ n. n % 2 ^ i) (whole ∙ ap (λ n. b.base / 2 ^ p.k * n) split ∙ sym (mul_assoc (b.base / 2 ^ p.k) (2 ^ (p.k - i)) (2 ^ i)) ∙ sym (add-zero _))
    ∙ mod_low (b.base / 2 ^ p.k * 2 ^ (p.k - i)) i 0 (pow_pos i)

-- the high part of the base after a write
high_part : ℕ → ℕ → ℕ → ℕ → ℕ → ℕ
high_part j k base x e = bit_or (bit_and (base / 2 ^ k) (2 ^ j - 1 - e / 2 ^ k % 2 ^ j)) (bit_and (x / 2 ^ k) (e / 2 ^ k % 2 ^ j))

merged_types : (j k base x e t : ℕ) → base % 2 ^ k ≡ 0 → t < 2 ^ k → overwritten (j + k) (base + t) x (bit_and (2 ^ (j + k) - 2 ^ k) e) ≡ high_part j k base x e * 2 ^ k + t
unfolding high_part
merged_types j k base x e t aligned ht =
    let some : 0 < 2 ^ j = pow_pos j in
    let whole : base ≡ base / 2 ^ k * 2 ^ k = omega (arith, shr_split base k) in
    grind (arith, and_comm, and_high, block_merged, mod_below)

-- a write leaves the type bits
rebased_types : (b : BaseAddress) → IsLawfulBase b → (x e : ℕ) → overwritten (base_width b.kind) (b.base + type_bits b.kind) x (bit_and (2 ^ base_width b.kind - b.size) e) ≡ rebased b x e + type_bits b.kind
rebased_types b lawful x e = grind (arith, parts b lawful, merged_types, add-zero, pow_pos)

-- and a base that its registers can hold
pub rebased_lawful : (b : BaseAddress) → IsLawfulBase b → (x e : ℕ) → IsLawfulBase (record b { base = rebased b x e })
unfolding high_part
rebased_lawful b lawful x e =
    let p : Parts b = parts b lawful in
    let fits : b.base < 2 ^ (p.j + p.k) = subst (λ w. b.base < 2 ^ w) p.width lawful.fits in
    let bare : rebased b x e ≡ high_part p.j p.k b.base x e * 2 ^ p.k + 0 = grind (arith, add-zero, merged_types, pow_pos) in
    grind (arith, shr_below, and_le_l, mod_below, pow_pos, and_le_r, or_lt, mod_low, shl_below)

-- ---- the registers

pub whole_bound : (kind : Kind) → 256 ^ (4 * registers_of kind) ≡ 2 ^ base_width kind
whole_bound kind = grind arith

-- a write of all bytes of a base
pub write_whole : (b : BaseAddress) → IsLawfulBase b → (ons : List Bool) → length ons ≡ 4 * registers_of b.kind → (x : ℕ)
    → write ons x (base_register b.index) (register_cells b) ≡ register_cells (record b { base = rebased b x (enabled_bits ons) })
write_whole b lawful ons len x = grind (arith, size_limits, whole_bound, write_field, rebased_types)

-- four byte enables, and the same of the lower or of the upper half of eight bytes
abbrev pub four : Bool → Bool → Bool → Bool → List Bool
four a b c d = a ∷ b ∷ c ∷ d ∷ []

abbrev lower : Bool → Bool → Bool → Bool → List Bool
lower a b c d = a ∷ b ∷ c ∷ d ∷ false ∷ false ∷ false ∷ false ∷ []

abbrev upper : Bool → Bool → Bool → Bool → List Bool
upper a b c d = false ∷ false ∷ false ∷ false ∷ a ∷ b ∷ c ∷ d ∷ []

upper_bits : (a b c d : Bool) → enabled_bits (upper a b c d) ≡ enabled_bits (four a b c d) * 2 ^ 32
upper_bits a b c d = omega arith

-- where a register of four bytes lies in a region's registers
data Side (reg : ℕ) (b : BaseAddress) : Type 0 where
  low : reg ≡ b.index → Side reg b
  high : reg ≡ b.index + 1 → registers_of b.kind ≡ 2 → Side reg b
  apart : (reg ≡ b.index → ⊥) → ((registers_of b.kind ≡ 2) → reg ≡ b.index + 1 → ⊥) → Side reg b

pub registers_positive : (kind : Kind) → 0 < registers_of kind
registers_positive kind = grind arith

pub one_or_two : (kind : Kind) → (registers_of kind ≡ 1) ⊎ (registers_of kind ≡ 2)
one_or_two kind = grind arith

side : (reg : ℕ) (b : BaseAddress) → Side reg b
side reg b = grind (arith, cases_eq, one_or_two)

apart_from : (reg : ℕ) (b : BaseAddress) → (reg ≡ b.index → ⊥) → ((registers_of b.kind ≡ 2) → reg ≡ b.index + 1 → ⊥) → IsApart 4 (0x10 + 4 * reg) (0x10 + 4 * b.index) (4 * registers_of b.kind)
apart_from reg b n m = grind (arith, one_or_two, cases_lt)

-- the base after a write, by the register's side
pub rewritten_low : (reg : ℕ) (ons : List Bool) (x : ℕ) (b : BaseAddress) → reg ≡ b.index → rewritten reg ons x b ≡ record b { base = rebased b x (enabled_bits ons) }
rewritten_low reg ons x b e = ap (λ n. record b { base = n }) (cond-true (eqb reg b.index) _ _ (eq-eqb reg b.index e))

pub rewritten_high : (reg : ℕ) (ons : List Bool) (x : ℕ) (b : BaseAddress) → reg ≡ b.index + 1 → registers_of b.kind ≡ 2 → rewritten reg ons x b ≡ record b { base = rebased b (x * 2 ^ 32) (enabled_bits ons * 2 ^ 32) }
rewritten_high reg ons x b e two = grind (arith, cond-false, ne_eqb, cond-true, and_from, eq-eqb)

pub rewritten_apart : (reg : ℕ) (ons : List Bool) (x : ℕ) (b : BaseAddress) → (reg ≡ b.index → ⊥) → (registers_of b.kind ≡ 2 → reg ≡ b.index + 1 → ⊥) → rewritten reg ons x b ≡ b
rewritten_apart reg ons x b n m = grind (arith, cond-false, ne_eqb, one_or_two, and_left, and_right)

write_low : (b : BaseAddress) → IsLawfulBase b → (p q r s : Bool) (x : ℕ)
    → write (four p q r s) x (base_register b.index) (register_cells b) ≡ register_cells (record b { base = rebased b x (enabled_bits (four p q r s)) })
write_low b lawful p q r s x = grind (arith, one_or_two b.kind, write_whole b lawful (four p q r s), write_whole b lawful (lower p q r s))

write_high : (b : BaseAddress) → IsLawfulBase b → registers_of b.kind ≡ 2 → (p q r s : Bool) (x : ℕ)
    → write (four p q r s) x (base_register (b.index + 1)) (register_cells b) ≡ register_cells (record b { base = rebased b (x * 2 ^ 32) (enabled_bits (four p q r s) * 2 ^ 32) })
write_high b lawful two p q r s x = grind (arith, write_whole b lawful (upper p q r s), upper_bits p q r s)

pub write_one : (b : BaseAddress) → IsLawfulBase b → (p q r s : Bool) (x reg : ℕ) → write (four p q r s) x (base_register reg) (register_cells b) ≡ register_cells (rewritten reg (four p q r s) x b)
write_one b lawful p q r s x reg = elim (side reg b) [
  | low e ↦ ap (λ n. write (four p q r s) x (base_register n) (register_cells b)) e ∙ write_low b lawful p q r s x ∙ ap register_cells (sym (rewritten_low reg (four p q r s) x b e))
  | high e two ↦ ap (λ n. write (four p q r s) x (base_register n) (register_cells b)) e ∙ write_high b lawful two p q r s x ∙ ap register_cells (sym (rewritten_high reg (four p q r s) x b e two))
  | apart n m ↦ write_apart (four p q r s) x (0x10 + 4 * reg) (4 * registers_of b.kind) (0x10 + 4 * b.index) (b.base + type_bits b.kind) (2 ^ base_width b.kind - b.size) 0 (apart_from reg b n m)
      ∙ ap register_cells (sym (rewritten_apart reg (four p q r s) x b n m))
]

pub rewritten_lawful : (reg : ℕ) (ons : List Bool) (x : ℕ) (b : BaseAddress) → IsLawfulBase b → IsLawfulBase (rewritten reg ons x b)
rewritten_lawful reg ons x b lawful = elim (side reg b) [
  | low e ↦ subst IsLawfulBase (sym (rewritten_low reg ons x b e)) (rebased_lawful b lawful x (enabled_bits ons))
  | high e two ↦ subst IsLawfulBase (sym (rewritten_high reg ons x b e two)) (rebased_lawful b lawful (x * 2 ^ 32) (enabled_bits ons * 2 ^ 32))
  | apart n m ↦ subst IsLawfulBase (sym (rewritten_apart reg ons x b n m)) lawful
]

-- every register of a file of base address registers
pub write_bases : (bs : List BaseAddress) → Each IsLawfulBase bs → (p q r s : Bool) (x reg : ℕ) → write (four p q r s) x (base_register reg) (base_file bs) ≡ base_file (map (rewritten reg (four p q r s) x) bs)
write_bases [] lawful p q r s x reg = write_none (four p q r s) x (base_register reg)
write_bases (b ∷ bs) lawful p q r s x reg =
    write_append (four p q r s) x (base_register reg) (register_cells b) (base_file bs)
    ∙ ap₂ (λ (one more : File). one ++ more) (write_one b lawful.0 p q r s x reg) (write_bases bs lawful.1 p q r s x reg)

-- ---- reading

read_whole : (b : BaseAddress) (rest : File) (ons : List Bool) → length ons ≡ 4 * registers_of b.kind → read (register_cells b ++ rest) (base_register b.index) ons ≡ bit_and (shown b) (enabled_bits ons)
read_whole b rest ons len = grind (arith, read_field)

pub read_low : (b : BaseAddress) (rest : File) (p q r s : Bool) → read (register_cells b ++ rest) (base_register b.index) (four p q r s) ≡ bit_and (shown b) (enabled_bits (four p q r s))
read_low b rest p q r s = grind (arith, one_or_two b.kind, read_whole b rest (four p q r s), read_whole b rest (lower p q r s))

pub and_upper : (v e : ℕ) → bit_and v (e * 2 ^ 32) ≡ bit_and (v / 2 ^ 32) e * 2 ^ 32
and_upper v e =
    ap₂ bit_and (sym (shr_split v 32)) (sym (add-zero (e * 2 ^ 32))) ∙ and_block 32 (v / 2 ^ 32) e (v % 2 ^ 32) 0 (mod_below v (2 ^ 32) (pow_pos 32)) (pow_pos 32)
    ∙ omega (arith, and_zero_r (v % 2 ^ 32))

pub read_high : (b : BaseAddress) → registers_of b.kind ≡ 2 → (rest : File) (p q r s : Bool) → read (register_cells b ++ rest) (base_register (b.index + 1)) (four p q r s) ≡ bit_and (shown b / 2 ^ 32) (enabled_bits (four p q r s))
read_high b two rest p q r s =
    let whole : read (register_cells b ++ rest) (base_register b.index) (upper p q r s) ≡ bit_and (shown b) (enabled_bits (upper p q r s)) = read_whole b rest (upper p q r s) (omega arith) in
    grind (arith, upper_bits p q r s, and_upper (shown b) (enabled_bits (four p q r s)))

pub word_low : (reg : ℕ) (b : BaseAddress) (bs : List BaseAddress) → reg ≡ b.index → word_at reg (b ∷ bs) ≡ shown b
word_low reg b bs e = cond-true (eqb reg b.index) _ _ (eq-eqb reg b.index e)

pub word_high : (reg : ℕ) (b : BaseAddress) (bs : List BaseAddress) → reg ≡ b.index + 1 → registers_of b.kind ≡ 2 → word_at reg (b ∷ bs) ≡ shown b / 2 ^ 32
word_high reg b bs e two = grind (arith, cond-false, ne_eqb, cond-true, and_from, eq-eqb)

pub word_apart : (reg : ℕ) (b : BaseAddress) (bs : List BaseAddress) → (reg ≡ b.index → ⊥) → (registers_of b.kind ≡ 2 → reg ≡ b.index + 1 → ⊥) → word_at reg (b ∷ bs) ≡ word_at reg bs
word_apart reg b bs n m = grind (arith, cond-false, ne_eqb, one_or_two, and_left, and_right)

pub read_bases : (bs : List BaseAddress) (p q r s : Bool) (reg : ℕ) → read (base_file bs) (base_register reg) (four p q r s) ≡ bit_and (word_at reg bs) (enabled_bits (four p q r s))
read_bases [] p q r s reg = read_none (four p q r s) (base_register reg)
read_bases (b ∷ bs) p q r s reg = elim (side reg b) [
  | low e ↦ ap (λ n. read (register_cells b ++ base_file bs) (base_register n) (four p q r s)) e ∙ read_low b (base_file bs) p q r s
      ∙ ap (λ n. bit_and n (enabled_bits (four p q r s))) (sym (word_low reg b bs e))
  | high e two ↦ grind (arith, read_high, word_high)
  | apart n m ↦ read_apart (four p q r s) (0x10 + 4 * reg) (4 * registers_of b.kind) (0x10 + 4 * b.index) (shown b) (2 ^ base_width b.kind - b.size) 0 (base_file bs) (apart_from reg b n m)
      ∙ read_bases bs p q r s reg ∙ ap (λ n. bit_and n (enabled_bits (four p q r s))) (sym (word_apart reg b bs n m))
]

pub reads_of_bases : ReadsOfBases
reads_of_bases bs enables reg = read_bases bs (is_enabled enables 0) (is_enabled enables 1) (is_enabled enables 2) (is_enabled enables 3) reg

pub writes_of_bases : WritesOfBases
writes_of_bases bs lawful enables x reg = grind (arith, write_bases)
