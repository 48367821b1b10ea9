-- The least address of a region that passes a test is found among its first one and the places where the test begins to
-- hold.
use Rattle.std.{proofs.{Common.{◌≡◌, ℕ, zero, suc, ◌+◌, ◌-◌, ◌≤◌, inl, inr, Bool, true, false, ◌&&◌, not, List, ◌∷◌, Some, refl, sym, subst, arith}, lemmas.Bool.{Decides.nat_tests, and_from}}, specs.{Prelude.{map, filter}, List.list_any}}
use Rattle.lists.{specs.Elements.IsIn, proofs.{Tests.{left_true, right_true}, Members.{in_map, in_filter, from_filter, any_in, from_any}}}
use Rattle.model_board.specs.{Paths.Path, Routing.{RoutingRow, Ranges, regions, windows}}
use Rattle.model_registers.specs.{Apertures.Apertures, Decoding.Space}
use Rattle.model_set_up.{specs.PlacedRegions.{PlacedRegion, holds}, proofs.Holders.{Holds, holds_is, is_held, self_space}}
use Rattle.model_findings.{specs.{Agents.{Extent, extent_holds}, ReadinessIssues.{aperture_extents, is_in_apertures, prefetches, prefetch_edges, least_held}}, proofs.Problems.{IsLeast, found_least, finds}}

-- a test begins to hold at these numbers alone
abbrev pub BeginsAt : (ℕ → Bool) → List ℕ → Type 0
BeginsAt test edges = (n : ℕ) → test n ≡ false → test (n + 1) ≡ true → IsIn (n + 1) edges

pub record IsLeastHeld (test : ℕ → Bool) (q : PlacedRegion) (n : ℕ) : Type 0 where
  pub byte : holds q.space n q ≡ true
  pub passes : test n ≡ true
  pub least : (m : ℕ) → holds q.space m q ≡ true → test m ≡ true → n ≤ m

module _ (test : ℕ → Bool) (edges : List ℕ) (q : PlacedRegion) (begins : BeginsAt test edges) where
  abbrev passing : ℕ → Bool
  passing n = holds q.space n q && test n

  abbrev Start : ℕ → Type 0
  Start m = (c : ℕ) × IsIn c (filter passing (q.first ∷ edges)) × (c ≤ m)

  before_held : (m n : ℕ) → q.first ≤ n → n ≤ m → holds q.space m q ≡ true → holds q.space n q ≡ true
  before_held m n from le h = is_held q.space n q (record { space_is = self_space q.space; from = from; below = omega (arith, (holds_is q.space m q h).below) })

  start : (k m : ℕ) → q.first + k ≡ m → holds q.space m q ≡ true → test m ≡ true → Start m
  start zero m e h t = (m, in_filter passing m (q.first ∷ edges) (inl (omega arith)) (and_from (holds q.space m q) (test m) h t), omega arith)
  start (suc k) m e h t = by (test (q.first + k)) refl (λ g i. start k (q.first + k) refl g i)
    where
      held : holds q.space (q.first + k) q ≡ true
      held = before_held m (q.first + k) (omega arith) (omega arith) h

      next : q.first + k + 1 ≡ m
      next = omega arith

      by : (u : Bool) → test (q.first + k) ≡ u → (holds q.space (q.first + k) q ≡ true → test (q.first + k) ≡ true → Start (q.first + k)) → Start m
      by true g more = let s : Start (q.first + k) = more held g in (s.0, s.1, omega (arith, s.2))
      by false g more =
          let there : IsIn (q.first + k + 1) edges = begins (q.first + k) g (subst (λ x. test x ≡ true) (sym next) t) in
          (m, in_filter passing m (q.first ∷ edges) (inr (subst (λ x. IsIn x edges) next there)) (and_from (holds q.space m q) (test m) h t), omega arith)

  starts : (m : ℕ) → holds q.space m q ≡ true → test m ≡ true → Start m
  starts m h t = by (holds_is q.space m q h)
    where
      difference : (a b : ℕ) → a ≤ b → (k : ℕ) × (a + k ≡ b)
      difference a b le = (b - a, omega arith)

      by : Holds q.space m q → Start m
      by held = let k = difference q.first m held.from in start k.0 m k.1 h t

  pub least_is : (n : ℕ) → least_held test edges q ≡ Some n → IsLeastHeld test q n
  least_is n e =
      let l : IsLeast n (filter passing (q.first ∷ edges)) = found_least passing (q.first ∷ edges) n e in
      let passes : passing n ≡ true = (from_filter passing n (q.first ∷ edges) l.there).1 in
      record {
        byte = left_true (holds q.space n q) (test n) passes;
        passes = right_true (holds q.space n q) (test n) passes;
        least = λ m h t. let s : Start m = starts m h t in omega (arith, l.below s.0 s.1, s.2);
      }

  pub least_finds : (m : ℕ) → holds q.space m q ≡ true → test m ≡ true → (n : ℕ) × (least_held test edges q ≡ Some n)
  least_finds m h t = let s : Start m = starts m h t in finds passing (q.first ∷ edges) s.0 s.1

-- ---- outside the apertures

past_extents : (es : List Extent) → BeginsAt (λ n. not (list_any (extent_holds n) es)) (map (λ (e : Extent). e.end) es)
past_extents es n h k = grind (arith, from_any, any_in, in_map)

pub outside_begins : (a : Apertures) (space : Space) → BeginsAt (λ n. not (is_in_apertures a space n)) (map (λ (e : Extent). e.end) (aperture_extents a space))
outside_begins a space n h k = past_extents (aperture_extents a space) n h k

-- ---- prefetched

prefetch_by : (p : Path) (command : ℕ) (rs : Ranges) → BeginsAt (λ n. prefetches n (record { path = p; command = command; ranges = rs })) (prefetch_edges (record { path = p; command = command; ranges = rs }))
prefetch_by p command (regions bs) n h k = cc
prefetch_by p command (windows wio wmem wpref) n h k = grind (arith, nat_tests)

pub prefetch_begins : (r : RoutingRow) → BeginsAt (λ n. prefetches n r) (prefetch_edges r)
prefetch_begins r = prefetch_by r.path r.command r.ranges
