-- Some regions that share no address, as a table lists them: its entries stand apart, and its claims are theirs.
--     region_of, is_of      the region of an entry; whether a region lies in a space
--     IsSortedOf es fs      fs has the entries es, by first address
use Rattle.std.{proofs.{Common.{◌++◌, ◌≡◌, ℕ, ◌<◌, ◌⊎◌, inl, inr, Bool, true, List, length, sym, subst, arith}, lemmas.{List.map-append, Simd.map-map}}, specs.{Prelude.{map, filter, ◌↔◌}, List.Sorted.{IsPermutation, IsNonDecreasingBy}}}
use Rattle.lists.{specs.Elements.{Each, EachPair, first_some, IsIn}, proofs.{EachLemmas.{each_permutation, pairs_map, pairs_filter, each_filter, each_from_map, pairs_from_map}, Members.{in_front, in_back, front_or_back, in_map, from_map, in_filter, from_filter}}}
use Rattle.model_registers.specs.Decoding.{Space, io, memory, same_space}
use Rattle.model_board.specs.Paths.{Path}
use Rattle.model_set_up.{specs.{PlacedRegions.{PlacedRegion, claim_in}, UniqueClaimant.ShareNone}, proofs.Holders.{self_space, same_members}}
use Rattle.claim_table.{specs.{declared.region_entry.RegionEntry.RegionEntry, Tables.{TableEntry, table_claim}, Entries.{AreEntries, table_entry, table_of}}, proofs.Sorting.{moved, moved_back, Disjoint, sorted_apart}}

abbrev pub region_of : List Path → Space → RegionEntry → PlacedRegion
region_of ps space e = (table_entry ps space e).region

abbrev pub is_of : Space → PlacedRegion → Bool
is_of space q = same_space q.space space

pub record IsSortedOf (es fs : List RegionEntry) : Type 0 where
  pub all : IsPermutation es fs
  pub rising : IsNonDecreasingBy (λ (e : RegionEntry). e.first) fs

-- ---- the regions rs, gathered by space

pub record AreGathered (ps : List Path) (rs : List PlacedRegion) (all_of : Space → List RegionEntry) : Type 0 where
  pub regions : (space : Space) → map (region_of ps space) (all_of space) ≡ filter (is_of space) rs
  pub apart : EachPair ShareNone rs
  pub sized : Each (λ (q : PlacedRegion). 0 < q.size) rs
  pub known : (space : Space) → Each (λ (e : RegionEntry). e.function < length ps) (all_of space)

module _ (ps : List Path) (rs : List PlacedRegion) (all_of : Space → List RegionEntry) (of : AreGathered ps rs all_of) where
  sizes : (space : Space) → Each (λ (e : RegionEntry). 0 < e.size) (all_of space)
  sizes space = each_from_map (λ (q : PlacedRegion). 0 < q.size) (region_of ps space) (all_of space)
      (subst (Each (λ (q : PlacedRegion). 0 < q.size)) (sym (of.regions space)) (each_filter (λ (q : PlacedRegion). 0 < q.size) (is_of space) rs of.sized))

  disjoint : (space : Space) → EachPair Disjoint (all_of space)
  disjoint space =
      pairs_map (λ (d e : RegionEntry). ShareNone (region_of ps space d) (region_of ps space e)) Disjoint (all_of space) (λ d e none. none (self_space space))
      (pairs_from_map ShareNone (region_of ps space) (all_of space) (subst (EachPair ShareNone) (sym (of.regions space)) (pairs_filter ShareNone (is_of space) rs of.apart)))

  pub entries_are : (space : Space) (fs : List RegionEntry) → IsSortedOf (all_of space) fs → AreEntries ps fs
  entries_are space fs h = record {
    apart = sorted_apart (all_of space) fs (disjoint space) (sizes space) h.all h.rising;
    known = each_permutation (λ (e : RegionEntry). e.function < length ps) (all_of space) fs h.all (of.known space);
  }

  -- ---- the claims

  module _ (ports mems : List RegionEntry) (hp : IsSortedOf (all_of io) ports) (hm : IsSortedOf (all_of memory) mems) where
    abbrev listed : List PlacedRegion
    listed = map (region_of ps io) ports ++ map (region_of ps memory) mems

    placed_of : (space : Space) (fs : List RegionEntry) → IsPermutation (all_of space) fs → (q : PlacedRegion) → IsIn q (map (region_of ps space) fs) → IsIn q rs
    placed_of space fs perm q m =
        let f = from_map (region_of ps space) q fs m in
        let k : IsIn (region_of ps space f.0) (map (region_of ps space) (all_of space)) = in_map (region_of ps space) f.0 (all_of space) (moved (all_of space) fs perm f.0 f.1) in
        grind (arith, from_filter)

    listed_in : (space : Space) (fs : List RegionEntry) → IsPermutation (all_of space) fs → (q : PlacedRegion) → IsIn q rs → same_space q.space space ≡ true → IsIn q (map (region_of ps space) fs)
    listed_in space fs perm q m here =
        let l : IsIn q (map (region_of ps space) (all_of space)) = subst (IsIn q) (sym (of.regions space)) (in_filter (is_of space) q rs m here) in
        let f = from_map (region_of ps space) q (all_of space) l in
        subst (λ (x : PlacedRegion). IsIn x (map (region_of ps space) fs)) (sym f.2) (in_map (region_of ps space) f.0 fs (moved_back (all_of space) fs perm f.0 f.1))

    of_either : (s : Space) → (same_space s io ≡ true) ⊎ (same_space s memory ≡ true)
    of_either s = grind arith

    same_regions : (q : PlacedRegion) → IsIn q listed ↔ IsIn q rs
    same_regions q = (λ m. by_part (front_or_back q (map (region_of ps io) ports) (map (region_of ps memory) mems) m), λ m. by_space m (of_either q.space))
      where
        by_part : IsIn q (map (region_of ps io) ports) ⊎ IsIn q (map (region_of ps memory) mems) → IsIn q rs
        by_part (inl m) = placed_of io ports hp.all q m
        by_part (inr m) = placed_of memory mems hm.all q m

        by_space : IsIn q rs → (same_space q.space io ≡ true) ⊎ (same_space q.space memory ≡ true) → IsIn q listed
        by_space m here = grind (arith, in_front, listed_in, in_back)

    regions_listed : map (λ (e : TableEntry). e.region) (table_of ps ports mems) ≡ listed
    regions_listed = grind (arith, map-append, map-map)

    pub claims_listed : (space : Space) (n : ℕ) → table_claim (table_of ps ports mems) space n ≡ first_some (claim_in space n) rs
    claims_listed space n = grind (arith, regions_listed, same_members, same_regions)
