-- The regions of base address registers, register by register.
use Rattle.std.{proofs.{Common.{◌≡◌, ℕ, zero, suc, ◌+◌, ◌||◌, List, [], ◌∷◌, ◌++◌, length, map, take, Option, Some, None, refl, sym, ap, ◌∙◌, subst, arith, inr, ◌<◌, ap₂}, lemmas.{Option.slice_get_within, List.{length-take-le, take_more_set, map-append}}}, specs.List.{list_any, slice_get, slice_set}}
use Rattle.model_registers.specs.{Declarations.{Bar, Region}, Decoding.{Space, same_space, space_of}, EndpointTable.BaseAddress}
use Rattle.lists.specs.Elements.{IsIn}
use Rattle.model_set_up.specs.Pools.{is_io}
use Rattle.bars.specs.{declared.region.BarWithBase.BarWithBase, Slots.bases_from}
use Rattle.bridge_forward.proofs.RoutingRows.{bases_push, take_at}
use Rattle.window_packing.specs.{Packs.regions_from, Placed.{is_bar_in, is_port}}

pub any_in_space : (space : Space) (n : ℕ) (bars : List (Option Bar)) → list_any (is_bar_in space) bars ≡ list_any (λ (r : Region). same_space (space_of r.kind) space) (regions_from n bars)
any_in_space space n [] = refl
any_in_space space n (None ∷ bars) = any_in_space space (n + 1) bars
any_in_space space n (Some bar ∷ bars) = ap (λ v. same_space (space_of bar.kind) space || v) (any_in_space space (n + 1) bars)

pub any_port : (n : ℕ) (bars : List (Option Bar)) → list_any is_port bars ≡ list_any (λ (r : Region). is_io r.kind) (regions_from n bars)
any_port n [] = refl
any_port n (None ∷ bars) = any_port (n + 1) bars
any_port n (Some bar ∷ bars) = ap (λ v. is_io bar.kind || v) (any_port (n + 1) bars)

step : (n k : ℕ) → n + 1 + k ≡ n + suc k
step n k = omega arith

pub regions_push : (n : ℕ) (bars : List (Option Bar)) (o : Option Bar) → regions_from n (bars ++ o ∷ []) ≡ regions_from n bars ++ regions_from (n + length bars) (o ∷ [])
regions_push n [] o = let z : n ≡ n + 0 = omega arith in ap (λ m. regions_from m (o ∷ [])) z
regions_push n (None ∷ bars) o = regions_push (n + 1) bars o ∙ ap (λ m. regions_from (n + 1) bars ++ regions_from m (o ∷ [])) (step n (length bars))
regions_push n (Some bar ∷ bars) o = ap (λ rs. record { index = n; kind = bar.kind; size = bar.size; cells = [] } ∷ rs) (regions_push (n + 1) bars o ∙ ap (λ m. regions_from (n + 1) bars ++ regions_from m (o ∷ [])) (step n (length bars)))

-- the region of one register is among all
pub region_among : (n : ℕ) (bars : List (Option Bar)) (k : ℕ) (o : Option Bar) → slice_get bars k ≡ Some o → (r : Region) → IsIn r (regions_from (n + k) (o ∷ [])) → IsIn r (regions_from n bars)
region_among n [] k o e r m = absurd (cc)
region_among n (p ∷ bars) zero o e r m = grind arith
region_among n (None ∷ bars) (suc k) o e r m = region_among (n + 1) bars k o e r (subst (λ j. IsIn r (regions_from j (o ∷ []))) (sym (step n k)) m)
region_among n (Some b ∷ bars) (suc k) o e r m = inr (region_among (n + 1) bars k o e r (subst (λ j. IsIn r (regions_from j (o ∷ []))) (sym (step n k)) m))

-- ---- one more

pub push_told : (f : Region → BaseAddress) (bars : List (Option Bar)) (bases : List (Option BarWithBase)) (i : ℕ) (y : Option BarWithBase) (o : Option Bar) → length bases ≡ length bars → slice_get bars i ≡ Some o
    → bases_from 0 (take i bases) ≡ map f (regions_from 0 (take i bars)) → bases_from i (y ∷ []) ≡ map f (regions_from i (o ∷ [])) → bases_from 0 (take (i + 1) (slice_set bases i y)) ≡ map f (regions_from 0 (take (i + 1) bars))
push_told f bars bases i y o count e told one =
    ap (bases_from 0) (take_more_set bases i y in_bases) ∙ bases_push 0 (take i bases) y ∙ ap₂ (λ xs n. xs ++ bases_from n (y ∷ [])) told at_bases ∙ ap (λ xs. map f (regions_from 0 (take i bars)) ++ xs) one
    ∙ sym (map-append f (regions_from 0 (take i bars)) (regions_from i (o ∷ []))) ∙ ap (map f) (sym bars_are)
  where
    in_bars : i < length bars
    in_bars = slice_get_within bars i o e

    in_bases : i < length bases
    in_bases = omega (arith, in_bars, count)

    at_bases : 0 + length (take i bases) ≡ i
    at_bases = omega (arith, length-take-le i bases (omega (arith, in_bases)))

    at_bars : 0 + length (take i bars) ≡ i
    at_bars = omega (arith, length-take-le i bars (omega (arith, in_bars)))

    bars_are : regions_from 0 (take (i + 1) bars) ≡ regions_from 0 (take i bars) ++ regions_from i (o ∷ [])
    bars_are = ap (regions_from 0) (take_at bars i o e) ∙ regions_push 0 (take i bars) o ∙ ap (λ n. regions_from 0 (take i bars) ++ regions_from n (o ∷ [])) at_bars
