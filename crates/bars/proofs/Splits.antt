-- A slot of a function's registers, and the base address registers before and after it.
use Rattle.std.{proofs.{Common.{◌≡◌, ℕ, zero, suc, ◌+◌, ◌*◌, ◌/◌, ◌%◌, ◌^◌, ◌<◌, ◌≤◌, ◌⊎◌, Bool, List, [], ◌∷◌, ◌++◌, map, refl, sym, ap, ap₂, ◌∙◌, subst, arith, rules}, lemmas.Nat.shl_whole, Math.Nat.{add-zero, zero-add}}, specs.Prelude.{Option, Some, None, slice_get, slice_set}}
use Rattle.lists.{specs.Elements.{Each, EachPair}, proofs.Indices.set_same}
use Rattle.model_registers.{specs.{ByteEnables.enabled_bits, Declarations.{Region, registers_of, HasLawfulRegions}, EndpointTable.{BaseAddress, opened, IsLawfulBase, HasLawfulBases}, BaseLaws.{shown, word_at, rebased, rewritten}}, proofs.Bases.{word_low, word_high, word_apart, rewritten_low, rewritten_high, rewritten_apart, rewritten_lawful, registers_positive}}
use Rattle.bars.specs.{declared.{region.BarWithBase.BarWithBase, base_registers.ShownPart.ShownPart}, Slots.{placed, bases_from, slot_at}, Parts.{IsPartAt, IsUnused, IsLowerPart, IsUpperPart}}

-- the registers round a region, which stay when it changes
pub record Split (n : ℕ) (slots : List (Option BarWithBase)) (i : ℕ) (r : BarWithBase) : Type 0 where
  pub pre : List BaseAddress
  pub post : List BaseAddress
  pub whole : bases_from n slots ≡ pre ++ (placed (n + i) r ∷ post)
  pub put : (s : BarWithBase) → bases_from n (slice_set slots i (Some s)) ≡ pre ++ (placed (n + i) s ∷ post)

pub split : (slots : List (Option BarWithBase)) (n i : ℕ) (r : BarWithBase) → slot_at slots i ≡ Some r → Split n slots i r
split [] n i r h = cc
split (None ∷ slots) n zero r h = cc
split (Some q ∷ slots) n zero r h =
    let same : q ≡ r = cc in
    let post : List BaseAddress = bases_from (n + 1) slots in
    record {
      pre = [];
      post = post;
      whole = ap₂ (λ m (x : BarWithBase). placed m x ∷ post) (sym (add-zero n)) same;
      put = λ s. ap (λ m. placed m s ∷ post) (sym (add-zero n));
    }
split (None ∷ slots) n (suc i) r h = grind (arith, split slots (n + 1) i r h)
split (Some q ∷ slots) n (suc i) r h =
    let rest : Split (n + 1) slots i r = split slots (n + 1) i r h in
    let at : n + 1 + i ≡ n + suc i = omega arith in
    record {
      pre = placed n q ∷ rest.pre;
      post = rest.post;
      whole = ap (λ (bs : List BaseAddress). placed n q ∷ bs) (rest.whole ∙ ap (λ m. rest.pre ++ (placed m r ∷ rest.post)) at);
      put = λ s. ap (λ (bs : List BaseAddress). placed n q ∷ bs) (rest.put s ∙ ap (λ m. rest.pre ++ (placed m s ∷ rest.post)) at);
    }

-- ---- which regions a register lies apart from

abbrev pub IsApartFrom : ℕ → BaseAddress → Type 0
IsApartFrom reg b = (reg ≡ b.index → ⊥) × (registers_of b.kind ≡ 2 → reg ≡ b.index + 1 → ⊥)

abbrev InOrder : Region → Region → Type 0
InOrder r s = r.index + registers_of r.kind ≤ s.index

-- the register is one of b's
abbrev IsOf : ℕ → BaseAddress → Type 0
IsOf reg b = (b.index ≤ reg) × (reg < b.index + registers_of b.kind)

each_middle : (P : Region → Type 0) (b : BaseAddress) (pre post : List BaseAddress) → Each P (map opened (pre ++ (b ∷ post))) → P (opened b)
each_middle P b [] post h = h.0
each_middle P b (q ∷ pre) post h = each_middle P b pre post h.1

each_lawful : (b : BaseAddress) (pre post : List BaseAddress) → Each IsLawfulBase (pre ++ (b ∷ post)) → IsLawfulBase b
each_lawful b [] post h = h.0
each_lawful b (q ∷ pre) post h = each_lawful b pre post h.1

pairs_after : (b : BaseAddress) (pre post : List BaseAddress) → EachPair InOrder (map opened (pre ++ (b ∷ post))) → Each (InOrder (opened b)) (map opened post)
pairs_after b [] post order = order.0
pairs_after b (q ∷ pre) post order = pairs_after b pre post order.1

before : (reg : ℕ) (b : BaseAddress) → IsOf reg b → (pre post : List BaseAddress) → EachPair InOrder (map opened (pre ++ (b ∷ post))) → Each (IsApartFrom reg) pre
before reg b of [] post order = tt
before reg b of (q ∷ pre) post order =
    let near : q.index + registers_of q.kind ≤ b.index = each_middle (InOrder (opened q)) b pre post order.0 in
    let some : 0 < registers_of q.kind = registers_positive q.kind in
    ((λ e. absurd (omega arith), λ two e. absurd (omega arith)), before reg b of pre post order.1)

after : (reg : ℕ) (b : BaseAddress) → IsOf reg b → (post : List BaseAddress) → Each (InOrder (opened b)) (map opened post) → Each (IsApartFrom reg) post
after reg b of [] h = tt
after reg b of (s ∷ post) h = ((λ e. absurd (omega (arith, h.0)), λ two e. absurd (omega (arith, h.0))), after reg b of post h.1)

-- ---- reads and writes past regions that lie apart

word_past : (reg : ℕ) (pre bs : List BaseAddress) → Each (IsApartFrom reg) pre → word_at reg (pre ++ bs) ≡ word_at reg bs
word_past reg [] bs h = refl
word_past reg (q ∷ pre) bs h = word_apart reg q (pre ++ bs) h.0.0 h.0.1 ∙ word_past reg pre bs h.1

rewritten_past : (reg : ℕ) (ons : List Bool) (x : ℕ) (bs : List BaseAddress) → Each (IsApartFrom reg) bs → map (rewritten reg ons x) bs ≡ bs
rewritten_past reg ons x [] h = refl
rewritten_past reg ons x (q ∷ bs) h = ap₂ (λ (b : BaseAddress) (more : List BaseAddress). b ∷ more) (rewritten_apart reg ons x q h.0.0 h.0.1) (rewritten_past reg ons x bs h.1)

rewritten_middle : (reg : ℕ) (ons : List Bool) (x : ℕ) (pre post : List BaseAddress) (b c : BaseAddress) → Each (IsApartFrom reg) pre → Each (IsApartFrom reg) post → rewritten reg ons x b ≡ c
    → map (rewritten reg ons x) (pre ++ (b ∷ post)) ≡ pre ++ (c ∷ post)
rewritten_middle reg ons x [] post b c before after e = ap₂ (λ (b : BaseAddress) (more : List BaseAddress). b ∷ more) e (rewritten_past reg ons x post after)
rewritten_middle reg ons x (q ∷ pre) post b c before after e = grind (arith, rewritten_middle reg ons x pre post, rewritten_apart)

-- ---- a part of a region

-- the register of a part lies in its region
part_of : (reg : ℕ) (p : ShownPart) → IsLowerPart reg p ⊎ IsUpperPart reg p → IsOf reg (placed p.slot p.region)
part_of reg p low = grind (arith, registers_positive)

part_word : (reg : ℕ) (p : ShownPart) (bs : List BaseAddress) → IsLowerPart reg p ⊎ IsUpperPart reg p → word_at reg (placed p.slot p.region ∷ bs) ≡ shown (placed 0 p.region) / 2 ^ p.shift
part_word reg p bs low = search (rules, word_low, word_high)

-- the region of a part, with another base
with_base : ShownPart → ℕ → BaseAddress
with_base p n = record { index = p.slot; kind = p.region.decl.kind; size = p.region.decl.size; base = n }

part_written : (reg : ℕ) (ons : List Bool) (x : ℕ) (p : ShownPart) → IsLowerPart reg p ⊎ IsUpperPart reg p
    → rewritten reg ons x (placed p.slot p.region) ≡ placed p.slot (record p.region { base = rebased (placed 0 p.region) (x * 2 ^ p.shift) (enabled_bits ons * 2 ^ p.shift) })
unfolding with_base
part_written reg ons x p low = search (rules, rewritten_low, with_base, rewritten_high)

part_split : (slots : List (Option BarWithBase)) (reg : ℕ) (p : ShownPart) → IsPartAt slots reg p → Split 0 slots p.slot p.region
part_split slots reg p at = split slots 0 p.slot p.region at.region

order_at : (bs cs : List BaseAddress) → HasLawfulBases bs → bs ≡ cs → EachPair InOrder (map opened cs)
order_at bs cs lawful e = (subst HasLawfulBases e lawful).regions.in_order

pub read_part : (slots : List (Option BarWithBase)) → HasLawfulBases (bases_from 0 slots) → (reg : ℕ) (p : ShownPart) → IsPartAt slots reg p → word_at reg (bases_from 0 slots) ≡ shown (placed 0 p.region) / 2 ^ p.shift
read_part slots lawful reg p at =
    let s : Split 0 slots p.slot p.region = part_split slots reg p at in
    let b : BaseAddress = placed p.slot p.region in
    let whole : bases_from 0 slots ≡ s.pre ++ (b ∷ s.post) = s.whole ∙ ap (λ m. s.pre ++ (placed m p.region ∷ s.post)) (zero-add p.slot) in
    let order : EachPair InOrder (map opened (s.pre ++ (b ∷ s.post))) = order_at (bases_from 0 slots) (s.pre ++ (b ∷ s.post)) lawful whole in
    ap (word_at reg) whole ∙ word_past reg s.pre (b ∷ s.post) (before reg b (part_of reg p at.half) s.pre s.post order) ∙ part_word reg p s.post at.half

pub write_part : (slots : List (Option BarWithBase)) → HasLawfulBases (bases_from 0 slots) → (reg : ℕ) (ons : List Bool) (x : ℕ) (p : ShownPart) → IsPartAt slots reg p
    → bases_from 0 (slice_set slots p.slot (Some (record p.region { base = rebased (placed 0 p.region) (x * 2 ^ p.shift) (enabled_bits ons * 2 ^ p.shift) }))) ≡ map (rewritten reg ons x) (bases_from 0 slots)
write_part slots lawful reg ons x p at =
    let s : Split 0 slots p.slot p.region = part_split slots reg p at in
    let b : BaseAddress = placed p.slot p.region in
    let r : BarWithBase = record p.region { base = rebased (placed 0 p.region) (x * 2 ^ p.shift) (enabled_bits ons * 2 ^ p.shift) } in
    let whole : bases_from 0 slots ≡ s.pre ++ (b ∷ s.post) = s.whole ∙ ap (λ m. s.pre ++ (placed m p.region ∷ s.post)) (zero-add p.slot) in
    let order : EachPair InOrder (map opened (s.pre ++ (b ∷ s.post))) = order_at (bases_from 0 slots) (s.pre ++ (b ∷ s.post)) lawful whole in
    let of : IsOf reg b = part_of reg p at.half in
    s.put r ∙ ap (λ m. s.pre ++ (placed m r ∷ s.post)) (zero-add p.slot)
    ∙ sym (rewritten_middle reg ons x s.pre s.post b (placed p.slot r) (before reg b of s.pre s.post order) (after reg b of s.post (pairs_after b s.pre s.post order)) (part_written reg ons x p at.half))
    ∙ ap (map (rewritten reg ons x)) (sym whole)

shift_fits : (reg : ℕ) (p : ShownPart) → IsLowerPart reg p ⊎ IsUpperPart reg p → (x : ℕ) → x < 2 ^ 32 → x * 2 ^ p.shift % 2 ^ 64 ≡ x * 2 ^ p.shift
shift_fits reg p low x h = grind (arith, shl_whole)

-- the same in 64 bits, as the program shifts
pub stored_part : (slots : List (Option BarWithBase)) → HasLawfulBases (bases_from 0 slots) → (reg : ℕ) (ons : List Bool) (x : ℕ) (p : ShownPart) → IsPartAt slots reg p
    → x < 2 ^ 32 → enabled_bits ons < 2 ^ 32 → (r : BarWithBase)
    → r ≡ record p.region { base = rebased (placed 0 p.region) (x * 2 ^ p.shift % 2 ^ 64) (enabled_bits ons * 2 ^ p.shift % 2 ^ 64) }
    → bases_from 0 (slice_set slots p.slot (Some r)) ≡ map (rewritten reg ons x) (bases_from 0 slots)
stored_part slots lawful reg ons x p at hx he r e =
    let exact : r ≡ record p.region { base = rebased (placed 0 p.region) (x * 2 ^ p.shift) (enabled_bits ons * 2 ^ p.shift) } = grind (arith, shift_fits) in
    ap (λ (q : BarWithBase). bases_from 0 (slice_set slots p.slot (Some q))) exact ∙ write_part slots lawful reg ons x p at

there : (slots : List (Option BarWithBase)) (i : ℕ) (r : BarWithBase) → slot_at slots i ≡ Some r → slice_get slots i ≡ Some (Some r)
there slots i r h = grind arith

-- a write that leaves a region's base leaves all bases
pub still_stored : (slots : List (Option BarWithBase)) → HasLawfulBases (bases_from 0 slots) → (reg : ℕ) (ons : List Bool) (x : ℕ) (p : ShownPart) → IsPartAt slots reg p
    → x < 2 ^ 32 → enabled_bits ons < 2 ^ 32 → (r : BarWithBase)
    → r ≡ record p.region { base = rebased (placed 0 p.region) (x * 2 ^ p.shift % 2 ^ 64) (enabled_bits ons * 2 ^ p.shift % 2 ^ 64) }
    → r.base ≡ p.region.base → map (rewritten reg ons x) (bases_from 0 slots) ≡ bases_from 0 slots
still_stored slots lawful reg ons x p at hx he r e same =
    let unmoved : r ≡ p.region = e ∙ ap (λ n. record p.region { base = n }) (sym (ap (λ (q : BarWithBase). q.base) e) ∙ same) in
    sym (stored_part slots lawful reg ons x p at hx he r e)
    ∙ ap (λ (q : BarWithBase). bases_from 0 (slice_set slots p.slot (Some q))) unmoved ∙ ap (bases_from 0) (set_same slots p.slot (Some p.region) (there slots p.slot p.region at.region))

pub lawful_part : (slots : List (Option BarWithBase)) → HasLawfulBases (bases_from 0 slots) → (reg : ℕ) (p : ShownPart) → IsPartAt slots reg p → IsLawfulBase (placed 0 p.region)
lawful_part slots lawful reg p at =
    let s : Split 0 slots p.slot p.region = part_split slots reg p at in
    let own : IsLawfulBase (placed (0 + p.slot) p.region) = each_lawful (placed (0 + p.slot) p.region) s.pre s.post (subst HasLawfulBases s.whole lawful).each in
    record { size_is_lawful = own.size_is_lawful; aligned = own.aligned; fits = own.fits }

-- ---- a register of no region

above_from : (slots : List (Option BarWithBase)) (n reg : ℕ) → reg < n → Each (IsApartFrom reg) (bases_from n slots)
above_from [] n reg h = tt
above_from (None ∷ slots) n reg h = above_from slots (n + 1) reg (omega arith)
above_from (Some q ∷ slots) n reg h = ((λ e. absurd (omega arith), λ two e. absurd (omega arith)), above_from slots (n + 1) reg (omega arith))

unused_from : (slots : List (Option BarWithBase)) (n i reg : ℕ) → reg ≡ n + i → slot_at slots i ≡ None
    → ((j : ℕ) (r : BarWithBase) → j + 1 ≡ i → slot_at slots j ≡ Some r → registers_of r.decl.kind ≡ 2 → ⊥) → Each (IsApartFrom reg) (bases_from n slots)
unused_from [] n i reg e own below = tt
unused_from (None ∷ slots) n zero reg e own below = above_from slots (n + 1) reg (omega arith)
unused_from (Some q ∷ slots) n zero reg e own below = absurd (let no : ⊥ = cc in no)
unused_from (None ∷ slots) n (suc i) reg e own below = unused_from slots (n + 1) i reg (omega arith) own (λ j r je. below (suc j) r (omega arith))
unused_from (Some q ∷ slots) n (suc i) reg e own below =
    ((λ same. absurd (omega arith), λ two next. below 0 q (omega arith) refl two), unused_from slots (n + 1) i reg (omega arith) own (λ j r je. below (suc j) r (omega arith)))

unused : (slots : List (Option BarWithBase)) (reg : ℕ) → IsUnused slots reg → Each (IsApartFrom reg) (bases_from 0 slots)
unused slots reg h = unused_from slots 0 reg reg (sym (zero-add reg)) h.own h.below

none_shown : (reg : ℕ) (bs : List BaseAddress) → Each (IsApartFrom reg) bs → word_at reg bs ≡ 0
none_shown reg [] h = refl
none_shown reg (b ∷ bs) h = word_apart reg b bs h.0.0 h.0.1 ∙ none_shown reg bs h.1

pub read_unused : (slots : List (Option BarWithBase)) (reg : ℕ) → IsUnused slots reg → word_at reg (bases_from 0 slots) ≡ 0
read_unused slots reg h = none_shown reg (bases_from 0 slots) (unused slots reg h)

pub write_unused : (slots : List (Option BarWithBase)) (reg : ℕ) (ons : List Bool) (x : ℕ) → IsUnused slots reg → map (rewritten reg ons x) (bases_from 0 slots) ≡ bases_from 0 slots
write_unused slots reg ons x h = rewritten_past reg ons x (bases_from 0 slots) (unused slots reg h)

-- ---- what a write leaves

pub still_opened : (reg : ℕ) (ons : List Bool) (x : ℕ) (bs : List BaseAddress) → map opened (map (rewritten reg ons x) bs) ≡ map opened bs
still_opened reg ons x [] = refl
still_opened reg ons x (b ∷ bs) = ap (λ (rs : List Region). opened b ∷ rs) (still_opened reg ons x bs)

still_each : (reg : ℕ) (ons : List Bool) (x : ℕ) (bs : List BaseAddress) → Each IsLawfulBase bs → Each IsLawfulBase (map (rewritten reg ons x) bs)
still_each reg ons x [] h = tt
still_each reg ons x (b ∷ bs) h = (rewritten_lawful reg ons x b h.0, still_each reg ons x bs h.1)

pub still_lawful : (reg : ℕ) (ons : List Bool) (x : ℕ) (bs : List BaseAddress) → HasLawfulBases bs → HasLawfulBases (map (rewritten reg ons x) bs)
still_lawful reg ons x bs h = record { regions = subst HasLawfulRegions (sym (still_opened reg ons x bs)) h.regions; each = still_each reg ons x bs h.each }
