-- The own copies in numbers: what a word of them reads, and what a write leaves.
use Rattle.std.{proofs.{Common.{◌≡◌, ℕ, ◌+◌, ◌-◌, ◌*◌, ◌/◌, ◌^◌, ◌<◌, ◌≤◌, ◌⊎◌, inl, inr, Bool, List, [], ◌∷◌, ◌++◌, length, map, sym, ap, ap₂, ◌∙◌, arith, lit<, lit≤, zero-add}, lemmas.Nat.{and_block, and_le_l, and_le_r, or_lt}}, specs.Prelude.{bit_and, bit_or}}
use Rattle.lists.specs.Elements.{Each}
use Rattle.model_registers.{specs.{Registers.{config, File, read, write}, ByteEnables.{is_enabled, lanes, enabled_bits}, RegisterLaws.merged, Declarations.{registers_of, IsLawfulRegion}, EndpointTable.{base_register, BaseAddress, base_file, command_cells, opened, command_mask}, OwnCopies.{OwnCopies, own_file, IsLawfulOwn}}, proofs.{Bases.four, EnabledBytes.{read_field, write_field}, Parts.{IsApart, read_apart, write_apart, write_append, write_none, read_none, read_above, field_below}}}
use Rattle.guest_functions.specs.{declared.word.Word.{Word, TheVariants.{HeaderType, Other}}, Words.IsAt}

-- ---- words without base address registers

base_apart : (b : BaseAddress) (n off : ℕ) → b.index + registers_of b.kind ≤ 6 → (off + n ≤ 0x10) ⊎ (0x28 ≤ off) → IsApart n off (0x10 + 4 * b.index) (4 * registers_of b.kind)
base_apart b n off within low = grind arith

bases_unread : (bs : List BaseAddress) → Each IsLawfulRegion (map opened bs) → (ons : List Bool) (off : ℕ) → (off + length ons ≤ 0x10) ⊎ (0x28 ≤ off) → read (base_file bs) (config off) ons ≡ 0
bases_unread [] lawful ons off h = read_none ons (config off)
bases_unread (b ∷ bs) lawful ons off h = grind (arith, bases_unread bs, read_apart, base_apart)

bases_unwritten : (bs : List BaseAddress) → Each IsLawfulRegion (map opened bs) → (ons : List Bool) (x off : ℕ) → (off + length ons ≤ 0x10) ⊎ (0x28 ≤ off) → write ons x (config off) (base_file bs) ≡ base_file bs
bases_unwritten [] lawful ons x off h = write_none ons x (config off)
bases_unwritten (b ∷ bs) lawful ons x off h = grind (arith, bases_unwritten bs, write_append, write_apart, base_apart)

-- ---- a word of no own copies with cells

pub record IsAway (off : ℕ) : Type 0 where
  pub command : (off + 4 ≤ 4) ⊎ (6 ≤ off)
  pub bases : (off + 4 ≤ 0x10) ⊎ (0x28 ≤ off)

apart_from_command : (off : ℕ) → (off + 4 ≤ 4) ⊎ (6 ≤ off) → IsApart 4 off 4 2
apart_from_command off low = grind arith

pub away_read : (own : OwnCopies) → IsLawfulOwn own → (p q r s : Bool) (off : ℕ) → IsAway off → read (own_file own) (config off) (four p q r s) ≡ 0
away_read own lawful p q r s off h =
    read_apart (four p q r s) off 2 4 own.command command_mask 0 (base_file own.bases) (apart_from_command off h.command)
    ∙ bases_unread own.bases lawful.each (four p q r s) off h.bases

pub away_write : (own : OwnCopies) → IsLawfulOwn own → (p q r s : Bool) (x off : ℕ) → IsAway off → write (four p q r s) x (config off) (own_file own) ≡ own_file own
away_write own lawful p q r s x off h =
    write_append (four p q r s) x (config off) (command_cells own.command) (base_file own.bases)
    ∙ ap₂ (λ (one more : File). one ++ more) (write_apart (four p q r s) x off 2 4 own.command command_mask 0 (apart_from_command off h.command))
    (bases_unwritten own.bases lawful.each (four p q r s) x off h.bases)

-- ---- base address registers

pub base_read : (own : OwnCopies) (ons : List Bool) (reg : ℕ) → read (own_file own) (base_register reg) ons ≡ read (base_file own.bases) (base_register reg) ons
base_read own ons reg = read_above (command_cells own.command) 6 (field_below 2 4 own.command command_mask 0 6 (omega arith)) ons (base_file own.bases) (0x10 + 4 * reg) (omega arith)

pub base_write : (own : OwnCopies) (p q r s : Bool) (x reg : ℕ) → write (four p q r s) x (base_register reg) (own_file own) ≡ command_cells own.command ++ write (four p q r s) x (base_register reg) (base_file own.bases)
base_write own p q r s x reg =
    write_append (four p q r s) x (base_register reg) (command_cells own.command) (base_file own.bases)
    ∙ ap (λ (one : File). one ++ write (four p q r s) x (base_register reg) (base_file own.bases)) (write_apart (four p q r s) x (0x10 + 4 * reg) 2 4 own.command command_mask 0 (inr (omega arith)))

-- ---- Command

-- the enabled bits of a word, by its halves
low_bits : (p q : Bool) → enabled_bits (p ∷ q ∷ []) < 2 ^ 16
low_bits p q = grind arith

halves : (p q r s : Bool) → enabled_bits (four p q r s) ≡ enabled_bits (r ∷ s ∷ []) * 2 ^ 16 + enabled_bits (p ∷ q ∷ [])
halves p q r s = omega arith

and_low : (c : ℕ) → c < 2 ^ 16 → (p q r s : Bool) → bit_and c (enabled_bits (four p q r s)) ≡ bit_and c (enabled_bits (p ∷ q ∷ []))
and_low c h p q r s =
    let whole : c ≡ 0 * 2 ^ 16 + c = omega arith in
    ap₂ bit_and whole (halves p q r s) ∙ and_block 16 0 (enabled_bits (r ∷ s ∷ [])) c (enabled_bits (p ∷ q ∷ [])) h (low_bits p q)
    ∙ zero-add (bit_and c (enabled_bits (p ∷ q ∷ [])))

pub command_read : (own : OwnCopies) → IsLawfulOwn own → own.command < 2 ^ 16 → (p q r s : Bool) → read (own_file own) (config 4) (four p q r s) ≡ bit_and own.command (enabled_bits (four p q r s))
command_read own lawful small p q r s =
    let low : read (own_file own) (config 4) (p ∷ q ∷ []) ≡ bit_and own.command (enabled_bits (p ∷ q ∷ [])) = read_field (p ∷ q ∷ []) 4 own.command command_mask 0 (base_file own.bases) in
    let high : read (own_file own) (config 6) (r ∷ s ∷ []) ≡ 0 =
    read_apart (r ∷ s ∷ []) 6 2 4 own.command command_mask 0 (base_file own.bases) (inr (lit≤ tt)) ∙ bases_unread own.bases lawful.each (r ∷ s ∷ []) 6 (inl (lit≤ tt)) in
    let split : read (own_file own) (config 4) (four p q r s) ≡ read (own_file own) (config 4) (p ∷ q ∷ []) = omega (arith, high) in
    split ∙ low ∙ sym (and_low own.command small p q r s)

pub command_write : (own : OwnCopies) → IsLawfulOwn own → (p q r s : Bool) (x : ℕ) → write (four p q r s) x (config 4) (own_file own)
    ≡ own_file (record own { command = merged 2 own.command x (bit_and command_mask (enabled_bits (four p q r s))) })
command_write own lawful p q r s x =
    let mask : ℕ = bit_and command_mask (enabled_bits (p ∷ q ∷ [])) in
    let stored : write (p ∷ q ∷ []) x (config 4) (command_cells own.command) ≡ command_cells (merged 2 own.command x mask) = write_field (p ∷ q ∷ []) 4 own.command command_mask x (lit< tt) in
    let command : write (four p q r s) x (config 4) (command_cells own.command) ≡ command_cells (merged 2 own.command x (bit_and command_mask (enabled_bits (four p q r s)))) =
    ap (write (r ∷ s ∷ []) (x / 256 / 256) (config 6)) stored
    ∙ write_apart (r ∷ s ∷ []) (x / 256 / 256) 6 2 4 (merged 2 own.command x mask) command_mask 0 (inr (lit≤ tt))
    ∙ ap (λ m. command_cells (merged 2 own.command x m)) (sym (and_low command_mask (lit< tt) p q r s)) in
    write_append (four p q r s) x (config 4) (command_cells own.command) (base_file own.bases)
    ∙ ap₂ (λ (one more : File). one ++ more) command (bases_unwritten own.bases lawful.each (four p q r s) x 4 (inl (lit≤ tt)))

-- Command after a write, in 32 bits
pub written_in_32 : (c x m : ℕ) → c < 2 ^ 16 → m < 2 ^ 16 → bit_or (bit_and c (2 ^ 32 - 1 - m)) (bit_and x m) ≡ merged 2 c x m
written_in_32 c x m hc hm =
    let rest : 2 ^ 32 - 1 - m ≡ (2 ^ 16 - 1) * 2 ^ 16 + (2 ^ 16 - 1 - m) = omega arith in
    let whole : c ≡ 0 * 2 ^ 16 + c = omega arith in
    ap (λ n. bit_or n (bit_and x m)) (ap₂ bit_and whole rest ∙ and_block 16 0 (2 ^ 16 - 1) c (2 ^ 16 - 1 - m) hc (omega arith) ∙ zero-add (bit_and c (2 ^ 16 - 1 - m)))

pub command_fits : (c x m : ℕ) → c < 2 ^ 16 → m < 2 ^ 16 → bit_or (bit_and c (2 ^ 32 - 1 - m)) (bit_and x m) < 2 ^ 16
command_fits c x m hc hm = or_lt 16 (bit_and c (2 ^ 32 - 1 - m)) (bit_and x m) (omega (arith, and_le_l c (2 ^ 32 - 1 - m))) (omega (arith, and_le_r x m))

-- ---- by the word at an offset

pub is_away : (off : ℕ) (w : Word) → IsAt off w → (w ≡ HeaderType) ⊎ (w ≡ Other) → IsAway off
is_away off w at e = grind arith

pub at_command : (own : OwnCopies) → IsLawfulOwn own → own.command < 2 ^ 16 → (enables off : ℕ) → off ≡ 4 → bit_and own.command (enabled_bits (lanes enables)) ≡ read (own_file own) (config off) (lanes enables)
at_command own lawful small enables off e = grind (arith, command_read)

pub at_base : (own : OwnCopies) (enables off reg : ℕ) → off ≡ 0x10 + 4 * reg → read (base_file own.bases) (base_register reg) (lanes enables) ≡ read (own_file own) (config off) (lanes enables)
at_base own enables off reg e = sym (base_read own (lanes enables) reg) ∙ ap (λ a. read (own_file own) (config a) (lanes enables)) (sym e)

pub at_away : (own : OwnCopies) → IsLawfulOwn own → (enables off : ℕ) → IsAway off → 0 ≡ read (own_file own) (config off) (lanes enables)
at_away own lawful enables off away = sym (away_read own lawful (is_enabled enables 0) (is_enabled enables 1) (is_enabled enables 2) (is_enabled enables 3) off away)

pub store_command : (own : OwnCopies) → IsLawfulOwn own → (enables x off : ℕ) → off ≡ 4
    → own_file (record own { command = merged 2 own.command x (bit_and command_mask (enabled_bits (lanes enables))) }) ≡ write (lanes enables) x (config off) (own_file own)
store_command own lawful enables x off e =
    sym (command_write own lawful (is_enabled enables 0) (is_enabled enables 1) (is_enabled enables 2) (is_enabled enables 3) x) ∙ ap (λ a. write (lanes enables) x (config a) (own_file own)) (sym e)

pub store_base : (own : OwnCopies) (bases : List BaseAddress) (enables x off reg : ℕ) → off ≡ 0x10 + 4 * reg → base_file bases ≡ write (lanes enables) x (base_register reg) (base_file own.bases)
    → own_file (record own { bases = bases }) ≡ write (lanes enables) x (config off) (own_file own)
store_base own bases enables x off reg e stored = grind (arith, base_write)

pub store_away : (own : OwnCopies) → IsLawfulOwn own → (enables x off : ℕ) → IsAway off → own_file own ≡ write (lanes enables) x (config off) (own_file own)
store_away own lawful enables x off away = sym (away_write own lawful (is_enabled enables 0) (is_enabled enables 1) (is_enabled enables 2) (is_enabled enables 3) x off away)
