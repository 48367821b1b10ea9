-- In an orderly state no other region would answer too; in a ready one each region that holds an address answers.
use Rattle.std.{proofs.{Common.{◌≡◌, ℕ, true, false, ◌==◌, [], Option, Some, refl, sym, ◌∙◌, arith}, lemmas.Bool.{and_from, Decides.nat_tests}}, specs.Prelude.IsTrue}
use Rattle.lists.{specs.Elements.{Each, IsIn}, proofs.Members.{each_in, each_from, in_map, in_filter, in_flat_map, from_option, no_elements}}
use Rattle.model_registers.specs.Decoding.{opens_space}
use Rattle.model_board.{specs.{Claims.{Claim, first_claim}, Paths.path_eq, Routing.{RoutingRow, row_of, routing}}, proofs.PathEnds.path_self}
use Rattle.model_set_up.{specs.PlacedRegions.{PlacedRegion, claim_in}, proofs.Holders.{holds_is, holder_first}}
use Rattle.model_findings.{specs.{OpenRegions.{regions_of, open_of, open_regions}, Orderly.HasClaimsOfRegions, ReadyLaws.LacksNothing}, proofs.{Claims.consistent_claims_are_unique, Witnesses.problems_are_real_and_complete, Lacks.lacking_nothing}}
use Rattle.model_lines.{specs.{Why.{UnansweredRegion, is_answering_bar, told}, WhyLaws.{claim_there, IsTrueTold, OrderlyAnswersAlone, ReadyTellsNothing}}, proofs.Why.told_true}

-- the region of the first claim is the answering one
answering : (n : ℕ) (q : PlacedRegion) (o : Option Claim) → o ≡ Some (claim_there n q) → is_answering_bar o q ≡ true
answering n q o e = grind (arith, and_from (path_eq q.path q.path) (q.index == q.index) (path_self q.path), path_self q.path, nat_tests)

pub orderly_answers_alone : OrderlyAnswersAlone
orderly_answers_alone fs state orderly space n = each_from (λ t. t.causes ≡ [] → ⊥) (told fs space n) (λ t m. alone t (told_true fs space n t m))
  where
    own : HasClaimsOfRegions fs
    own = consistent_claims_are_unique fs state orderly

    alone : (t : UnansweredRegion) → IsTrueTold fs space n t → t.causes ≡ [] → ⊥
    alone t is e = grind (arith, own, from_option, answering)

pub ready_tells_nothing : ReadyTellsNothing
ready_tells_nothing a fs state ready space n = no_elements (told fs space n) (λ t m. answers t (told_true fs space n t m))
  where
    own : HasClaimsOfRegions fs
    own = consistent_claims_are_unique fs state ((problems_are_real_and_complete fs).0 ready.no_problems).routes

    nothing : LacksNothing a fs
    nothing = lacking_nothing a fs ready.no_issues

    answers : (t : UnansweredRegion) → IsTrueTold fs space n t → ⊥
    answers t is =
        let row : IsIn (row_of is.function) (routing fs) = in_map row_of is.function fs is.there in
        let opened : opens_space (row_of is.function).command t.region.space ≡ true =
        each_in (λ (x : PlacedRegion). IsTrue (opens_space (row_of is.function).command x.space)) t.region (regions_of (row_of is.function))
        (each_in (λ (r : RoutingRow). Each (λ (x : PlacedRegion). IsTrue (opens_space r.command x.space)) (regions_of r)) (row_of is.function) (routing fs) nothing.open_all row) is.region in
        let there : IsIn t.region (open_regions (routing fs)) =
        in_flat_map open_of (row_of is.function) t.region (routing fs) row (in_filter (λ (x : PlacedRegion). opens_space (row_of is.function).command x.space) t.region (regions_of (row_of is.function)) is.region opened) in
        let claim : claim_in space n t.region ≡ Some (claim_there n t.region) = rw is.byte refl in
        let first : first_claim fs space n ≡ Some (claim_there n t.region) = own.first space n ∙ holder_first space n t.region (open_regions (routing fs)) own.apart there (holds_is space n t.region is.byte) ∙ claim in
        let bad : true ≡ false = sym (answering n t.region (first_claim fs space n) first) ∙ is.other in cc
