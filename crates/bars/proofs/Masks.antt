-- What a region's registers show after all ones are written, and the size that it tells.
use Rattle.std.{proofs.{Common.{◌≡◌, ℕ, ◌+◌, ◌-◌, ◌*◌, ◌/◌, ◌%◌, ◌^◌, ◌<◌, ◌≤◌, inl, inr, true, false, cond, eqb, sym, subst, ap, ap₂, ◌∙◌, arith}, lemmas.{Nat.{pow_below, pow-add}, Bool.cases_lt}}, specs.Prelude.Some}
use Rattle.model_registers.{specs.{Declarations.{Kind, io_kind, mem32, mem64, Bar, registers_of, least_size, IsLawfulSize}, EndpointTable.{type_bits, base_width}, Sizing.{mask_of, ShowsSize}}, proofs.{Bases.size_limits, Sizes.{sized_low, sized_high}}}
use Rattle.bars.proofs.Regions.{size_positive, width_limit}

-- the registers of a kind, joined to one number
abbrev pub joined : Kind → ℕ → ℕ → ℕ
joined kind low high = cond (eqb (registers_of kind) 2) (high * 2 ^ 32 + low) low

pub joined_below : (kind : Kind) (low high : ℕ) → low < 2 ^ 32 → high < 2 ^ 32 → joined kind low high < 2 ^ base_width kind
joined_below kind low high hl hh = grind arith

joined_low : (kind : Kind) (low high : ℕ) → low < 2 ^ 32 → joined kind low high % 2 ^ 32 ≡ low
joined_low kind low high h = grind arith

joined_high : (kind : Kind) (low high : ℕ) → low < 2 ^ 32 → registers_of kind ≡ 2 → joined kind low high / 2 ^ 32 ≡ high
joined_high kind low high h two = grind arith

pub types_within : (kind : Kind) (low high : ℕ) → low % least_size kind ≡ type_bits kind → type_bits kind ≤ joined kind low high
types_within kind low high h = grind arith

-- a size that the mask tells shows the mask
pub size_shows : (kind : Kind) (low high size : ℕ) → low < 2 ^ 32 → high < 2 ^ 32 → low % least_size kind ≡ type_bits kind → IsLawfulSize kind size
    → size ≡ 2 ^ base_width kind - (joined kind low high - type_bits kind) → ShowsSize (record { kind = kind; size = size }) low high
size_shows kind low high size hl hh types lawful e =
    let b : Bar = record { kind = kind; size = size } in
    let limits : (size < 2 ^ base_width kind) × (type_bits kind < size) = size_limits kind size lawful in
    let within : joined kind low high < 2 ^ base_width kind = joined_below kind low high hl hh in
    let above : type_bits kind ≤ joined kind low high = types_within kind low high types in
    let same : mask_of b ≡ joined kind low high = omega arith in
    record {
      lower = sized_low 0 b lawful ∙ ap (λ n. n % 2 ^ 32) same ∙ joined_low kind low high hl;
      upper = λ two. sized_high 0 b lawful two ∙ ap (λ n. n / 2 ^ 32) same ∙ joined_high kind low high hl two;
    }

-- ---- a region that shows the mask

multiple_of_power : (i p size : ℕ) → size ≡ 2 ^ p → 2 ^ i ≤ size → (q : ℕ) × (size ≡ q * 2 ^ i)
multiple_of_power i p size e h =
    let within : i ≤ p = elim (cases_lt p i) [ inl above ↦ absurd (omega (arith, pow_below p i above)) | inr le ↦ le ] in
    (2 ^ (p - i), e ∙ ap (λ n. 2 ^ n) (omega arith) ∙ pow-add 2 (p - i) i)

types_shown : (kind : Kind) (size : ℕ) → IsLawfulSize kind size → mask_of (record { kind = kind; size = size }) % 2 ^ 32 % least_size kind ≡ type_bits kind
types_shown io_kind size h = let m : (q : ℕ) × (size ≡ q * 4) = multiple_of_power 2 h.power.0 size h.power.1 h.not_less in omega (arith, m.1)
types_shown (mem32 true) size h = let m : (q : ℕ) × (size ≡ q * 16) = multiple_of_power 4 h.power.0 size h.power.1 h.not_less in omega (arith, m.1)
types_shown (mem32 false) size h = let m : (q : ℕ) × (size ≡ q * 16) = multiple_of_power 4 h.power.0 size h.power.1 h.not_less in omega (arith, m.1)
types_shown (mem64 true) size h = let m : (q : ℕ) × (size ≡ q * 16) = multiple_of_power 4 h.power.0 size h.power.1 h.not_less in omega (arith, m.1)
types_shown (mem64 false) size h = let m : (q : ℕ) × (size ≡ q * 16) = multiple_of_power 4 h.power.0 size h.power.1 h.not_less in omega (arith, m.1)

pub shown_types : (b : Bar) (low high : ℕ) → IsLawfulSize b.kind b.size → ShowsSize b low high → low % least_size b.kind ≡ type_bits b.kind
shown_types b low high lawful shows = ap (λ n. n % least_size b.kind) (sym shows.lower ∙ sized_low 0 b lawful) ∙ types_shown b.kind b.size lawful

joined_parts : (kind : Kind) (mask low high : ℕ) → mask < 2 ^ base_width kind → low ≡ mask % 2 ^ 32 → (registers_of kind ≡ 2 → high ≡ mask / 2 ^ 32) → joined kind low high ≡ mask
joined_parts kind mask low high h l u = grind arith

pub shown_mask : (b : Bar) (low high : ℕ) → IsLawfulSize b.kind b.size → ShowsSize b low high → joined b.kind low high ≡ mask_of b
shown_mask b low high lawful shows =
    let limits : (b.size < 2 ^ base_width b.kind) × (type_bits b.kind < b.size) = size_limits b.kind b.size lawful in
    joined_parts b.kind (mask_of b) low high (omega arith) (sym shows.lower ∙ sized_low 0 b lawful) (λ two. sym (shows.upper two) ∙ sized_high 0 b lawful two)

-- what the mask tells of its region: the size
pub shown_size : (b : Bar) (low high : ℕ) → IsLawfulSize b.kind b.size → ShowsSize b low high → 2 ^ base_width b.kind - (joined b.kind low high - type_bits b.kind) ≡ b.size
shown_size b low high lawful shows = grind (arith, size_limits, shown_mask)

-- ---- the size in 64 bits, as the program finds it

abbrev pub size_told : Kind → ℕ → ℕ → ℕ
size_told kind low high = (2 ^ base_width kind - 1 - (joined kind low high - type_bits kind) + 1) % 2 ^ 64

pub told_lawful : (kind : Kind) (low high : ℕ) → low < 2 ^ 32 → high < 2 ^ 32 → low % least_size kind ≡ type_bits kind → IsLawfulSize kind (size_told kind low high)
    → size_told kind low high ≡ 2 ^ base_width kind - (joined kind low high - type_bits kind)
told_lawful kind low high hl hh types lawful = grind (arith, joined_below, size_positive, width_limit)

pub told_shows : (kind : Kind) (low high size : ℕ) → size ≡ size_told kind low high → low < 2 ^ 32 → high < 2 ^ 32 → low % least_size kind ≡ type_bits kind → IsLawfulSize kind size
    → ShowsSize (record { kind = kind; size = size }) low high
told_shows kind low high size e hl hh types lawful =
    size_shows kind low high size hl hh types lawful (e ∙ told_lawful kind low high hl hh types (subst (IsLawfulSize kind) e lawful))

pub told_found : (b : Bar) (low high : ℕ) → low < 2 ^ 32 → high < 2 ^ 32 → IsLawfulSize b.kind b.size → ShowsSize b low high → size_told b.kind low high ≡ b.size
told_found b low high hl hh lawful shows = omega (arith, shown_size b low high lawful shows, width_limit b.kind, size_limits, joined_below)

pub size_is : (kind : Kind) (low high a j t : ℕ) → a ≡ 2 ^ base_width kind - 1 → j ≡ joined kind low high → t ≡ type_bits kind → (a - (j - t) + 1) % 2 ^ 64 ≡ size_told kind low high
size_is kind low high a j t ea ej et = ap (λ n. (n - (j - t) + 1) % 2 ^ 64) ea ∙ ap₂ (λ m n. (2 ^ base_width kind - 1 - (m - n) + 1) % 2 ^ 64) ej et

-- a region that shows the mask is the one that the program finds
pub same_bar : (kind : Kind) (size low high : ℕ) → size ≡ size_told kind low high → (b : Bar) → Some kind ≡ Some b.kind → low < 2 ^ 32 → high < 2 ^ 32 → IsLawfulSize b.kind b.size → ShowsSize b low high
    → record { kind = kind; size = size } ≡ b
same_bar kind size low high e b same hl hh lawful shows = grind (arith, told_found)
