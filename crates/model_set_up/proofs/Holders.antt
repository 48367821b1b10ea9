-- Regions that share no address: one at most holds an address, so their order doesn't count.
use Rattle.std.{proofs.{Common.{◌≡◌, ℕ, ◌+◌, ◌≤◌, ◌<◌, inl, inr, true, false, List, [], ◌∷◌, None, refl, rules, arith}, lemmas.Bool.{Decides.nat_tests, leb-true, ltb-true}}, specs.{Prelude.flat_map, Option.option_to_list}}
use Rattle.lists.{specs.Elements.{Each, EachPair, first_some, IsIn}, proofs.{Tests.{left_true, right_true}, Members.{each_in, any_in, from_any, pair_in}}}
use Rattle.model_registers.specs.Decoding.{Space, same_space}
use Rattle.model_board.specs.Claims.{Claim}
use Rattle.model_set_up.specs.{PlacedRegions.{PlacedRegion, holds, claim_in}, UniqueClaimant.ShareNone}

pub record Holds (space : Space) (n : ℕ) (q : PlacedRegion) : Type 0 where
  pub space_is : same_space q.space space ≡ true
  pub from : q.first ≤ n
  pub below : n < q.first + q.size

pub holds_is : (space : Space) (n : ℕ) (q : PlacedRegion) → holds space n q ≡ true → Holds space n q
holds_is space n q h = search (rules, left_true, leb-true, right_true, ltb-true)

pub is_held : (space : Space) (n : ℕ) (q : PlacedRegion) → Holds space n q → holds space n q ≡ true
is_held space n q h = search (rules, nat_tests)

-- all claims of placed regions
abbrev pub claims_in : Space → ℕ → List PlacedRegion → List Claim
claims_in space n qs = flat_map (λ q. option_to_list (claim_in space n q)) qs

none_held : (space : Space) (n : ℕ) (q : PlacedRegion) (ts : List PlacedRegion) → Holds space n q → Each (ShareNone q) ts → claims_in space n ts ≡ []
none_held space n q [] h apart = refl
none_held space n q (t ∷ ts) h apart = grind (arith, holds_is, none_held space n q ts h apart.1)

pub one_at_most : (space : Space) (n : ℕ) (qs : List PlacedRegion) → EachPair ShareNone qs → claims_in space n qs ≡ option_to_list (first_some (claim_in space n) qs)
one_at_most space n [] apart = refl
one_at_most space n (q ∷ qs) apart = search (rules, none_held, holds_is, one_at_most space n qs apart.1)

-- the holder is the first
pub holder_first : (space : Space) (n : ℕ) (q : PlacedRegion) (qs : List PlacedRegion) → EachPair ShareNone qs → IsIn q qs → Holds space n q → first_some (claim_in space n) qs ≡ claim_in space n q
holder_first space n q [] apart m h = absurd m
holder_first space n q (t ∷ qs) apart m h = grind (arith, is_held, holder_first space n q qs, holds_is, each_in)

pub self_space : (space : Space) → same_space space space ≡ true
self_space space = grind arith

-- ---- in any order

-- two holders are one
one_holder : (space : Space) (n : ℕ) (q t : PlacedRegion) (qs : List PlacedRegion) → EachPair ShareNone qs → IsIn q qs → IsIn t qs → Holds space n q → Holds space n t → q ≡ t
one_holder space n q t qs apart m k h l = grind (arith, pair_in, is_held, holds_is)

-- a list whose holders are all q, and that has q, has q's claim first
first_is : (space : Space) (n : ℕ) (q : PlacedRegion) (ts : List PlacedRegion) → Holds space n q → ((t : PlacedRegion) → IsIn t ts → Holds space n t → t ≡ q) → IsIn q ts → first_some (claim_in space n) ts ≡ claim_in space n q
first_is space n q [] h one m = absurd m
first_is space n q (t ∷ ts) h one m = grind (arith, first_is space n q ts h, holds_is, is_held)

none_first : (space : Space) (n : ℕ) (ts : List PlacedRegion) → ((t : PlacedRegion) → IsIn t ts → holds space n t ≡ false) → first_some (claim_in space n) ts ≡ None
none_first space n [] h = refl
none_first space n (t ∷ ts) h = let e : holds space n t ≡ false = h t (inl refl) in rw e (none_first space n ts (λ u m. h u (inr m)))

-- lists with the same regions have the same claim of an address
pub same_members : (space : Space) (n : ℕ) (qs ts : List PlacedRegion) → EachPair ShareNone qs → ((q : PlacedRegion) → IsIn q qs → IsIn q ts) → ((q : PlacedRegion) → IsIn q ts → IsIn q qs) → first_some (claim_in space n) ts ≡ first_some (claim_in space n) qs
same_members space n qs ts apart into from =
    grind (arith, first_is space n, one_holder space n, holder_first space n, from_any (holds space n) qs, holds_is space n, none_first, any_in)
