-- In a ready state each byte of each declared region is claimed where its register says, within the apertures.
use Rattle.std.proofs.Common.{◌≡◌, ℕ, ◌<◌, true, arith}
use Rattle.lists.{specs.Elements.{Each, IsIn}, proofs.Members.{each_in, in_map, in_filter, in_flat_map}}
use Rattle.model_registers.specs.{Declarations.{Region, Endpoint}, Decoding.{base_address, opens_space, command_word, space_of}, Registers.File}
use Rattle.model_board.specs.{Board.{Decl, endpoint}, Paths.Path, Routing.{row_of, routing}}
use Rattle.model_set_up.specs.{PlacedRegions.PlacedRegion, UniqueClaimant.IsClaimed}
use Rattle.model_findings.{specs.{OpenRegions.{region_now, regions_of, open_of, open_regions}, ReadinessIssues.{is_non_prefetchable_memory, plain_of, plain_regions}, ReadyLaws.{IsWithinApertures, PrefetchesNone, LacksNothing, ReadyIsUsable, ReadyIsFound}}, proofs.{Claims.consistent_claims_are_unique, Found.found_once, Witnesses.problems_are_real_and_complete, Lacks.lacking_nothing}}

-- a declared region is one of its function's, where its register says
pub region_here : (p : Path) (decl : Decl) (file : File) (d : Endpoint) (g : Region) → decl ≡ endpoint d → IsIn g d.regions
    → IsIn (region_now p (base_address file g)) (regions_of (row_of (record { path = p; decl = decl; file = file })))
region_here p decl file d g e k = grind (arith, in_map)

plain_here : (p : Path) (decl : Decl) (file : File) (d : Endpoint) (g : Region) → decl ≡ endpoint d → IsIn g d.regions → is_non_prefetchable_memory g.kind ≡ true → opens_space (command_word file) (space_of g.kind) ≡ true
    → IsIn (region_now p (base_address file g)) (plain_of (row_of (record { path = p; decl = decl; file = file })))
plain_here p decl file d g e k plain opened = grind (arith, in_filter, in_map, in_map)

pub ready_board_is_reachable : ReadyIsUsable
ready_board_is_reachable a fs state ready f m d e g k = record {
  opened = opened;
  each_byte = each_in (λ (r : PlacedRegion). (j : ℕ) → j < r.size → IsClaimed fs r j) q (open_regions (routing fs)) (consistent_claims_are_unique fs state ((problems_are_real_and_complete fs).0 ready.no_problems).routes).each_byte there;
  within = each_in (IsWithinApertures a) q (open_regions (routing fs)) nothing.within there;
  unprefetched = λ plain. each_in (λ (x : PlacedRegion). Each (PrefetchesNone x) (routing fs)) (region_now f.path (base_address f.file g)) (plain_regions (routing fs)) nothing.unprefetched
      (in_flat_map plain_of (row_of f) (region_now f.path (base_address f.file g)) (routing fs) row_there (plain_here f.path f.decl f.file d g e k plain opened));
}
  where
    q : PlacedRegion
    q = region_now f.path (base_address f.file g)

    nothing : LacksNothing a fs
    nothing = lacking_nothing a fs ready.no_issues

    row_there : IsIn (row_of f) (routing fs)
    row_there = in_map row_of f fs m

    here : IsIn (region_now f.path (base_address f.file g)) (regions_of (row_of f))
    here = region_here f.path f.decl f.file d g e k

    opened : opens_space (row_of f).command (space_of g.kind) ≡ true
    opened = grind (arith, each_in, nothing, row_there, here)

    there : IsIn (region_now f.path (base_address f.file g)) (open_regions (routing fs))
    there = in_flat_map open_of (row_of f) (region_now f.path (base_address f.file g)) (routing fs) row_there
        (in_filter (λ (x : PlacedRegion). opens_space (row_of f).command x.space) (region_now f.path (base_address f.file g)) (regions_of (row_of f)) here opened)

pub ready_is_found : ReadyIsFound
ready_is_found a fs state ready = found_once fs state ((problems_are_real_and_complete fs).0 ready.no_problems).numbers
