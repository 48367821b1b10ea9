-- The regions of six registers, one after the other, and each within 64 bits.
use Rattle.std.{proofs.{Common.{◌≡◌, ℕ, zero, suc, ◌+◌, ◌^◌, ◌<◌, ◌≤◌, List, [], ◌∷◌, ◌++◌, length, take, get_or, Option, Some, None, sym, ap, ap₂, ◌∙◌, subst, arith, rules}, lemmas.{List.{map-append, length-take, take_more}, Option.{slice_get_within, get_or_from_slice_get, slice_get-get_or}}}, specs.{Prelude.{map, slice_get}, Option.option_to_list}}
use Rattle.lists.specs.Elements.{Each}
use Rattle.model_registers.{specs.EndpointTable.{BaseAddress, IsLawfulBase}, proofs.Bases.base_room}
use Rattle.bars.{specs.{declared.region.BarWithBase.BarWithBase, Slots.{placed, bases_from}}, proofs.Regions.{width_limit, size_positive}}
use Rattle.bridge_forward.specs.{RoutingRows.base_of, declared.routing_region.RoutingRegion.RoutingRegion}

-- ---- one more register

pub bases_push : (n : ℕ) (slots : List (Option BarWithBase)) (o : Option BarWithBase) → bases_from n (slots ++ o ∷ []) ≡ bases_from n slots ++ bases_from (n + length slots) (o ∷ [])
bases_push n [] o = let z : n ≡ n + 0 = omega arith in ap (λ m. bases_from m (o ∷ [])) z
bases_push n (None ∷ slots) o = let z : n + 1 + length slots ≡ n + suc (length slots) = omega arith in bases_push (n + 1) slots o ∙ ap (λ m. bases_from (n + 1) slots ++ bases_from m (o ∷ [])) z
bases_push n (Some x ∷ slots) o = grind (arith, bases_push (n + 1) slots o)

-- the front as far as an element
pub take_at : {A : Type 0} (xs : List A) (i : ℕ) (x : A) → slice_get xs i ≡ Some x → take (i + 1) xs ≡ take i xs ++ x ∷ []
take_at xs i x e = take_more xs i x (slice_get_within xs i x e) ∙ ap (λ y. take i xs ++ y ∷ []) (get_or_from_slice_get xs i x x e)

pub slot_there : (slots : List (Option BarWithBase)) (i j : ℕ) (o d : Option BarWithBase) → o ≡ get_or slots j d → j ≡ i → i < length slots → slice_get slots i ≡ Some o
slot_there slots i j o d e same within = slice_get-get_or slots i d within ∙ ap Some (sym (e ∙ ap (λ k. get_or slots k d) same))

pub register_push : (slots : List (Option BarWithBase)) (i : ℕ) (o : Option BarWithBase) (rs : List RoutingRegion) (found : Option RoutingRegion) → slice_get slots i ≡ Some o
    → map base_of rs ≡ bases_from 0 (take i slots) → map base_of (option_to_list found) ≡ bases_from i (o ∷ []) → map base_of (rs ++ option_to_list found) ≡ bases_from 0 (take (i + 1) slots)
register_push slots i o rs found at so_far is =
    let size : 0 + length (take i slots) ≡ i = taken slots i o at in
    map-append base_of rs (option_to_list found) ∙ ap₂ ◌++◌ so_far is
    ∙ sym (ap (bases_from 0) (take_at slots i o at) ∙ bases_push 0 (take i slots) o ∙ ap (λ k. bases_from 0 (take i slots) ++ bases_from k (o ∷ [])) size)
  where
    taken : (xs : List (Option BarWithBase)) (k : ℕ) (x : Option BarWithBase) → slice_get xs k ≡ Some x → 0 + length (take k xs) ≡ k
    taken xs k x e = let l : k < length xs = slice_get_within xs k x e in simp length-take (omega (arith, l))

-- ---- one region

slot_in : (P : BaseAddress → Type 0) (n : ℕ) (slots : List (Option BarWithBase)) (i : ℕ) (r : BarWithBase) → Each P (bases_from n slots) → slice_get slots i ≡ Some (Some r) → P (placed (n + i) r)
slot_in P n [] i r h e = absurd (cc)
slot_in P n (None ∷ slots) zero r h e = absurd (cc)
slot_in P n (Some x ∷ slots) zero r h e = let same : x ≡ r = cc in let z : n ≡ n + 0 = omega arith in subst (λ m. P (placed m r)) z (subst (λ y. P (placed n y)) same h.0)
slot_in P n (None ∷ slots) (suc i) r h e = let z : n + 1 + i ≡ n + suc i = omega arith in subst (λ m. P (placed m r)) z (slot_in P (n + 1) slots i r h e)
slot_in P n (Some x ∷ slots) (suc i) r h e = let z : n + 1 + i ≡ n + suc i = omega arith in subst (λ m. P (placed m r)) z (slot_in P (n + 1) slots i r h.1 e)

pub record HasRoom (size base : ℕ) : Type 0 where
  pub some : 0 < size
  pub fits : base + size ≤ 2 ^ 64

pub has_room : (slots : List (Option BarWithBase)) (i : ℕ) (r : BarWithBase) → Each IsLawfulBase (bases_from 0 slots) → slice_get slots i ≡ Some (Some r) → HasRoom r.decl.size r.base
has_room slots i r h e = search (rules, slot_in IsLawfulBase 0 slots i r h e, base_room, width_limit r.decl.kind, size_positive)

-- ---- windows
