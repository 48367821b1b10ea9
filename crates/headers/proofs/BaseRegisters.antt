-- Declared base address registers, put at their indices.
use Rattle.std.proofs.{lemmas.{Grind.common_steps, List.{get_or-set_other, take_more, map-append}}, Common.{◌≡◌, ℕ, zero, suc, ◌+◌, ◌-◌, ◌*◌, ◌^◌, ◌≤◌, ◌<◌, List, [], ◌∷◌, ◌++◌, Option, Some, None, length, map, get_or, set, take, drop, refl, sym, ap, subst, ◌∙◌, arith, add-one, drop-cons}}
use Rattle.lists.specs.Elements.{Each, EachPair}
use Rattle.model_registers.{proofs.Bases.registers_positive, specs.{Declarations.{Bar, Kind, Region, registers_of, IsLawfulRegion, HasLawfulRegions}, Registers.{config, field}, EndpointTable.{BaseAddress, base_cells, base_width, opened, closed, type_bits}}}
use Rattle.bars.specs.Resets.{reset_from, at_reset}

pub each_at : (P : Region → Type 0) (rs : List Region) (n : ℕ) (d : Region) → Each P rs → n < length rs → P (get_or rs n d)
each_at P [] n d all h = absurd (omega arith)
each_at P (r ∷ rs) zero d all h = all.0
each_at P (r ∷ rs) (suc n) d all h = each_at P rs n d all.1 (omega arith)

-- the registers from an index on are free
abbrev pub IsFree : List (Option Bar) → ℕ → Type 0
IsFree bars k = (i : ℕ) → k ≤ i → get_or bars i None ≡ None

none_left : (n : ℕ) (bars : List (Option Bar)) → IsFree bars 0 → reset_from n bars ≡ []
none_left n [] free = refl
none_left n (x ∷ xs) free =
    let first : x ≡ None = free 0 (omega arith) in
    ap (λ (o : Option Bar). reset_from n (o ∷ xs)) first ∙ none_left (n + 1) xs (λ i h. free (suc i) (omega arith))

put_last : (n k : ℕ) (bars : List (Option Bar)) (b : Bar) → k < length bars → IsFree bars k
    → reset_from n (set bars k (Some b)) ≡ reset_from n bars ++ record { index = n + k; kind = b.kind; size = b.size; base = 0 } ∷ []
put_last n k [] b h free = absurd (omega arith)
put_last n zero (x ∷ xs) b h free =
    let first : x ≡ None = free 0 (omega arith) in
    let rest : reset_from (n + 1) xs ≡ [] = none_left (n + 1) xs (λ i g. free (suc i) (omega arith)) in
    let last : BaseAddress = record { index = n + 0; kind = b.kind; size = b.size; base = 0 } in
    ap (λ (bs : List BaseAddress). record { index = n; kind = b.kind; size = b.size; base = 0 } ∷ bs) rest ∙ ap (λ m. record { index = m; kind = b.kind; size = b.size; base = 0 } ∷ []) (omega arith)
    ∙ sym (ap (λ (o : Option Bar). reset_from n (o ∷ xs) ++ last ∷ []) first ∙ ap (λ (bs : List BaseAddress). bs ++ last ∷ []) rest)
put_last n (suc k) (x ∷ xs) b h free = here x (put_last (n + 1) k xs b (omega arith) (λ i g. free (suc i) (omega arith)) ∙ ap (λ m. reset_from (n + 1) xs ++ record { index = m; kind = b.kind; size = b.size; base = 0 } ∷ []) (omega arith)) where
  here : (o : Option Bar) → reset_from (n + 1) (set xs k (Some b)) ≡ reset_from (n + 1) xs ++ record { index = n + suc k; kind = b.kind; size = b.size; base = 0 } ∷ []
      → reset_from n (o ∷ set xs k (Some b)) ≡ reset_from n (o ∷ xs) ++ record { index = n + suc k; kind = b.kind; size = b.size; base = 0 } ∷ []
  here None more = more
  here (Some c) more = ap (λ (bs : List BaseAddress). record { index = n; kind = c.kind; size = c.size; base = 0 } ∷ bs) more

abbrev Follows : Region → Region → Type 0
Follows r s = r.index + registers_of r.kind ≤ s.index

-- the later ones
later : (rs : List Region) (i : ℕ) (r : Region) → EachPair Follows rs → i < length rs → r ≡ get_or rs i r → Each (Follows r) (drop (suc i) rs)
later [] i r pairs h is = absurd (omega arith)
later (q ∷ qs) zero r pairs h is = subst (λ (x : Region). Each (Follows x) qs) (sym is) pairs.0
later (q ∷ qs) (suc i) r pairs h is = later qs i r pairs.1 (omega arith) is

still_free : (bars : List (Option Bar)) (k : ℕ) (r : Region) (o : Option Bar) (rs : List Region) → k ≡ r.index → Each (Follows r) rs → Each (λ s. IsFree bars s.index) rs → Each (λ s. IsFree (set bars k o) s.index) rs
still_free bars k r o [] at follows free = tt
still_free bars k r o (s ∷ ss) at follows free = grind (arith, still_free bars k r o ss, get_or-set_other, registers_positive)

pub record HasRegisters (bars : List (Option Bar)) (rs : List Region) (i : ℕ) : Type 0 where
  pub made : at_reset bars ≡ map closed (take i rs)
  pub free : Each (λ r. IsFree bars r.index) (drop i rs)

pub next_register : (bars : List (Option Bar)) (rs : List Region) (i k : ℕ) (r : Region) (b : Bar) → EachPair Follows rs → i < length rs → r ≡ get_or rs i r → k ≡ r.index → k < length bars
    → b ≡ record { kind = r.kind; size = r.size } → HasRegisters bars rs i → HasRegisters (set bars k (Some b)) rs (i + 1)
next_register bars rs i k r b order h is at within made_of so_far =
    let left : drop i rs ≡ r ∷ drop (suc i) rs = drop-cons rs i r h ∙ ap (λ (x : Region). x ∷ drop (suc i) rs) (sym is) in
    let free = subst (Each (λ s. IsFree bars s.index)) left so_far.free in
    let free_here : IsFree bars k = subst (IsFree bars) (sym at) free.0 in
    let last : Bar → ℕ → List BaseAddress = λ c n. record { index = n; kind = c.kind; size = c.size; base = 0 } ∷ [] in
    record {
      made = grind (arith, common_steps, put_last, take_more, map-append);
      free = subst (λ n. Each (λ s. IsFree (set bars k (Some b)) s.index) (drop n rs)) (sym (add-one i)) (still_free bars k r (Some b) (drop (suc i) rs) at (later rs i r order h is) free.1);
    }

-- ---- what the registers open

opened_each : (rs : List Region) → Each IsLawfulRegion rs → Each IsLawfulRegion (map opened (map closed rs))
opened_each [] all = tt
opened_each (r ∷ rs) all = (record { registers = all.0.registers; size_is_lawful = all.0.size_is_lawful; block_fits = omega arith }, opened_each rs all.1)

opened_after : (r : Region) (rs : List Region) → Each (Follows r) rs → Each (Follows (opened (closed r))) (map opened (map closed rs))
opened_after r [] all = tt
opened_after r (s ∷ ss) all = (all.0, opened_after r ss all.1)

opened_order : (rs : List Region) → EachPair Follows rs → EachPair Follows (map opened (map closed rs))
opened_order [] pairs = tt
opened_order (r ∷ rs) pairs = (opened_after r rs pairs.0, opened_order rs pairs.1)

pub opened_lawful : (rs : List Region) → HasLawfulRegions rs → HasLawfulRegions (map opened (map closed rs))
opened_lawful rs lawful = record { each = opened_each rs lawful.each; in_order = opened_order rs lawful.in_order }

-- ---- a register as a row

pub base_is : (n size : ℕ) (kind : Kind) (off width value writable : ℕ) → off ≡ 0x10 + 4 * n → width ≡ 4 * registers_of kind → value ≡ type_bits kind → writable ≡ 2 ^ base_width kind - size
    → field (config off) width value writable 0 ≡ base_cells n kind size 0
base_is n size kind off width value writable a b c d = grind arith

pub mask_is : (whole size bits : ℕ) → 0 < size → bits ≡ whole - 1 → bits - (size - 1) ≡ whole - size
mask_is whole size bits some is = omega arith
