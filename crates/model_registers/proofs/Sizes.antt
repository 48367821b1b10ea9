-- What a region's registers show after all ones are written to them.
use Rattle.std.{proofs.{Common.{◌≡◌, ℕ, ◌+◌, ◌-◌, ◌*◌, ◌/◌, ◌%◌, ◌^◌, ◌<◌, ◌≤◌, true, [], length, append-nil, sym, ap, ap₂, ◌∙◌, arith}, lemmas.Nat.{and_mask, and_comm, pow_pos}, Math.Nat.mod-eq_of_lt}, specs.Prelude.{bit_and, bit_or}}
use Rattle.model_registers.{specs.{Registers.{File, all_bytes, all_ones, number}, ByteEnables.enabled_bits, Declarations.{Kind, Bar, registers_of, IsLawfulSize}, EndpointTable.{base_register, type_bits, base_width, BaseAddress, register_cells, IsLawfulBase}, BaseLaws.{shown, rebased}, Sizing.{sized, mask_of, SizesRead}}, proofs.Bases.{size_limits, write_whole, read_low, read_high}}

-- the registers at index n with a base
at_index : ℕ → Bar → ℕ → BaseAddress
at_index n b base = record { index = n; kind = b.kind; size = b.size; base = base }

whole_length : (kind : Kind) → length (all_bytes (4 * registers_of kind)) ≡ 4 * registers_of kind
whole_length kind = grind arith

whole_bytes : (kind : Kind) → enabled_bits (all_bytes (4 * registers_of kind)) ≡ 2 ^ base_width kind - 1
whole_bytes kind = grind arith

whole_ones : (kind : Kind) → all_ones (4 * registers_of kind) ≡ 2 ^ base_width kind - 1
whole_ones kind = grind arith

-- all writable bits of a base that is 0
ones_rebased : (w size : ℕ) → size ≤ 2 ^ w → 0 < size → bit_or (bit_and 0 (2 ^ w - 1 - bit_and (2 ^ w - size) (2 ^ w - 1))) (bit_and (2 ^ w - 1) (bit_and (2 ^ w - size) (2 ^ w - 1))) ≡ 2 ^ w - size
ones_rebased w size h some = grind (arith, pow_pos, and_mask, mod-eq_of_lt, and_comm)

lawful_at_zero : (n : ℕ) (b : Bar) → IsLawfulSize b.kind b.size → IsLawfulBase (at_index n b 0)
unfolding at_index
lawful_at_zero n b lawful = grind (arith, mod-eq_of_lt, size_limits, pow_pos)

sized_cells : (n : ℕ) (b : Bar) → IsLawfulSize b.kind b.size → sized n b ≡ register_cells (at_index n b (2 ^ base_width b.kind - b.size))
unfolding at_index
sized_cells n b lawful =
    let w : ℕ = base_width b.kind in
    let limits : (b.size < 2 ^ base_width b.kind) × (type_bits b.kind < b.size) = size_limits b.kind b.size lawful in
    let zero : BaseAddress = at_index n b 0 in
    write_whole zero (lawful_at_zero n b lawful) (all_bytes (4 * registers_of b.kind)) (whole_length b.kind) (all_ones (4 * registers_of b.kind))
    ∙ ap register_cells (ap (at_index n b) (ap₂ (rebased zero) (whole_ones b.kind) (whole_bytes b.kind) ∙ ones_rebased w b.size (omega arith) (omega arith)))

pub sized_low : (n : ℕ) (b : Bar) → IsLawfulSize b.kind b.size → number (sized n b) (base_register n) 4 ≡ mask_of b % 2 ^ 32
unfolding at_index
sized_low n b lawful =
    let after : BaseAddress = at_index n b (2 ^ base_width b.kind - b.size) in
    ap (λ (f : File). number f (base_register n) 4) (sized_cells n b lawful ∙ sym (append-nil (register_cells after)))
    ∙ read_low after [] true true true true ∙ and_mask (shown after) 32

upper_fits : (b : Bar) → IsLawfulSize b.kind b.size → registers_of b.kind ≡ 2 → mask_of b / 2 ^ 32 < 2 ^ 32
upper_fits b lawful two = grind (arith, size_limits)

pub sized_high : (n : ℕ) (b : Bar) → IsLawfulSize b.kind b.size → registers_of b.kind ≡ 2 → number (sized n b) (base_register (n + 1)) 4 ≡ mask_of b / 2 ^ 32
unfolding at_index
sized_high n b lawful two =
    let after : BaseAddress = at_index n b (2 ^ base_width b.kind - b.size) in
    ap (λ (f : File). number f (base_register (n + 1)) 4) (sized_cells n b lawful ∙ sym (append-nil (register_cells after)))
    ∙ read_high after two [] true true true true ∙ and_mask (shown after / 2 ^ 32) 32 ∙ mod-eq_of_lt (upper_fits b lawful two)

pub sizes_read : SizesRead
sizes_read n b lawful = record { lower = sized_low n b lawful; upper = sized_high n b lawful }
