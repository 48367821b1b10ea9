-- In an orderly state the claims of an address are those of the open regions that hold it: one at most.
use Rattle.std.{proofs.{Common.{◌≡◌, ℕ, ◌+◌, ◌-◌, ◌<◌, inl, Bool, true, ◌&&◌, cond, List, [], ◌∷◌, refl, sym, ap, ◌∙◌, subst, arith}, lemmas.Grind.flat_map-append}, specs.{Prelude.{map, filter, flat_map, slice_get}, Option.option_to_list}}
use Rattle.lists.{specs.Elements.{Each, EachPair, IsIn}, proofs.Members.{each_in, each_from, in_map, in_filter, in_flat_map}}
use Rattle.model_registers.{specs.{EndpointTable.BaseAddress, Decoding.{Space, space_of, opens_space, hit_at}}, proofs.HitRegions.space_same}
use Rattle.model_board.{specs.{Paths.Path, Claims.{claim_at, claims, first_claim}, Routing.{Ranges, regions, windows, RoutingRow, routing, is_routed, row_claims, routed_claims}}, proofs.Routing.{first_listed, first_of_claims, forwarded_by_routing, claims_by_routing}}
use Rattle.model_set_up.{specs.{PlacedRegions.{PlacedRegion, holds}, UniqueClaimant.{IsClaimed, ShareNone}}, proofs.{Holders.{Holds, holds_is, is_held, self_space, claims_in, one_at_most, holder_first}, UniqueClaimant.no_claims}}
use Rattle.model_findings.{specs.{OpenRegions.{region_now, open_of, open_regions, open_claim}, Orderly.{IsForwarded, OrderlyClaims}}, proofs.Apart.open_apart}

-- ---- one function

tests : (o p s u v : Bool) → (s ≡ true → o ≡ p) → (((o && s) && u) && v) ≡ (p && ((s && u) && v))
tests o p s u v h = grind arith

-- where each open region that holds the address is routed to, the claims of an endpoint are those of its open regions
of_regions : (t : Bool) (p : Path) (command : ℕ) (space : Space) (n : ℕ) (bs : List BaseAddress)
    → ((b : BaseAddress) → IsIn b bs → opens_space command (space_of b.kind) ≡ true → holds space n (region_now p b) ≡ true → t ≡ true)
    → cond t (map (claim_at p) (flat_map (λ b. option_to_list (hit_at command space n b)) bs)) [] ≡ claims_in space n (filter (λ q. opens_space command q.space) (map (region_now p) bs))
of_regions t p command space n [] h = no_claims t
of_regions t p command space n (b ∷ bs) h = grind (arith, of_regions t p command space n bs, tests, space_same)

module _ (rows : List RoutingRow) (orderly : Each (IsForwarded rows) (open_regions rows)) where
  -- an open region's bytes are routed to it
  routed : (r : RoutingRow) (q : PlacedRegion) (space : Space) (n : ℕ) → IsIn r rows → IsIn q (open_of r) → holds space n q ≡ true → is_routed rows q.path space n ≡ true
  routed r q space n m k h =
      let same : q.space ≡ space = space_same q.space space (holds_is space n q h).space_is in
      subst (λ (x : Space). is_routed rows q.path x n ≡ true) same
      (each_in (IsForwarded rows) q (open_regions rows) orderly (in_flat_map open_of r q rows m k) n (subst (λ (x : Space). holds x n q ≡ true) (sym same) h))

  row_is : (space : Space) (n : ℕ) (p : Path) (command : ℕ) (rs : Ranges) → IsIn (record { path = p; command = command; ranges = rs }) rows
      → row_claims rows space n (record { path = p; command = command; ranges = rs }) ≡ claims_in space n (open_of (record { path = p; command = command; ranges = rs }))
  row_is space n p command (windows wio wmem wpref) m = no_claims (is_routed rows p space n)
  row_is space n p command (regions bs) m =
      of_regions (is_routed rows p space n) p command space n bs
      (λ b k o h. routed (record { path = p; command = command; ranges = regions bs }) (region_now p b) space n m (in_filter (λ q. opens_space command q.space) (region_now p b) (map (region_now p) bs) (in_map (region_now p) b bs k) o) h)

  rows_are : (space : Space) (n : ℕ) (rs : List RoutingRow) → ((r : RoutingRow) → IsIn r rs → IsIn r rows) → flat_map (row_claims rows space n) rs ≡ claims_in space n (flat_map open_of rs)
  rows_are space n [] m = refl
  rows_are space n (r ∷ rs) m = grind (arith, row_is space n r.path r.command r.ranges (m r (inl refl)), rows_are space n rs, flat_map-append)

  pub routed_claims_are : (space : Space) (n : ℕ) → routed_claims rows space n ≡ claims_in space n (open_regions rows)
  routed_claims_are space n = rows_are space n rows (λ r m. m)

-- ---- a state

offset_is : (first k : ℕ) → first + k - first ≡ k
offset_is first k = omega arith

pub consistent_claims_are_unique : OrderlyClaims
consistent_claims_are_unique fs state orderly = record {
  only = only;
  first = first;
  each_byte = each_from (λ q. (k : ℕ) → k < q.size → IsClaimed fs q k) (open_regions (routing fs)) byte;
  apart = apart;
}
  where
    apart : EachPair ShareNone (open_regions (routing fs))
    apart = open_apart fs state orderly

    only : (space : Space) (n : ℕ) → claims fs space n ≡ option_to_list (open_claim (routing fs) space n)
    only space n = claims_by_routing fs space n ∙ routed_claims_are (routing fs) orderly.forwarded space n ∙ one_at_most space n (open_regions (routing fs)) apart

    first : (space : Space) (n : ℕ) → first_claim fs space n ≡ open_claim (routing fs) space n
    first space n = first_of_claims fs space n ∙ ap (λ cs. slice_get cs 0) (only space n) ∙ sym (first_listed (open_claim (routing fs) space n))

    byte : (q : PlacedRegion) → IsIn q (open_regions (routing fs)) → (k : ℕ) → k < q.size → IsClaimed fs q k
    byte q m k small =
        let held : Holds q.space (q.first + k) q = record { space_is = self_space q.space; from = omega arith; below = omega arith } in
        let test : holds q.space (q.first + k) q ≡ true = is_held q.space (q.first + k) q held in
        let offset : q.first + k - q.first ≡ k = offset_is q.first k in
        record {
          forwarded = forwarded_by_routing fs q.path q.space (q.first + k) ∙ each_in (IsForwarded (routing fs)) q (open_regions (routing fs)) orderly.forwarded m (q.first + k) test;
          claimed = first q.space (q.first + k) ∙ holder_first q.space (q.first + k) q (open_regions (routing fs)) apart m held ∙ rw (test, offset);
        }
