-- What is known of a document by its checks.
--     judged      where all hold but that of cell masks
--     accepted, refused_last      what a document means by them
--     judged_file, means_world, means_masks      the same by the first of them that fails, if one does
use Rattle.std.{proofs.{Common.{◌≡◌, ℕ, Bool, true, false, List, [], ◌∷◌, ◌++◌, map, Option, None, Ok, Err, refl, sym, ap, ◌∙◌, arith}, lemmas.Bool.and_parts}, specs.{Prelude.option_map, List.list_all}}
use Rattle.toml.specs.Data.{Members}
use Rattle.lists.proofs.Tests.{right_true}
use Rattle.model_registers.specs.DeclarationRules.{first_broken}
use Rattle.board_file.{specs.{Entries.{File, file}, Faults.number_of, Judged.is_judged, KeyProblems.problems_of, Meaning.{file_checks, order, check, early_checks, checks, unless, world_of, meaning}, Problems.none, Endpoints.masks_hold, declared.fault.BoardFault.BoardFault}, proofs.Asked.masks}
use Rattle.board_file.specs.declared.fault.BoardFault.TheVariants as fault

pub broken_last : (cs : List (ℕ × Bool)) (last : ℕ × Bool) → first_broken cs ≡ None → first_broken (cs ++ last ∷ []) ≡ first_broken (last ∷ [])
broken_last [] last h = refl
broken_last ((m, b) ∷ cs) last h = grind (arith, broken_last cs last)

all_pass : (ms : Members) (fs : List BoardFault) → first_broken (map (check ms) fs) ≡ None → list_all (λ f. none (problems_of ms f)) fs ≡ true
all_pass ms [] h = refl
all_pass ms (f ∷ fs) h = grind (arith, all_pass ms fs)

module _ (ms : Members) where
  module _ (all : first_broken (early_checks ms) ≡ None) where
    pub judged : is_judged (file ms) ≡ true
    unfolding problems_of
    judged =
        let (key, more) = and_parts (none (problems_of ms fault.Key)) (list_all (λ f. none (problems_of ms f)) (fault.UnknownKey ∷ file_checks)) (all_pass ms order all) in
        right_true (none (problems_of ms fault.UnknownKey)) (is_judged (file ms)) more

    by_masks : (b : Bool) → list_all masks_hold (file ms).endpoints ≡ b → first_broken (checks ms) ≡ first_broken ((112, b) ∷ [])
    unfolding problems_of
    by_masks b is =
        broken_last (early_checks ms) (check ms fault.CellMasks) all
        ∙ ap (λ (kept : Bool). first_broken ((112, kept) ∷ [])) (masks (file ms) ∙ is)

    pub accepted : list_all masks_hold (file ms).endpoints ≡ true → meaning ms ≡ Ok (world_of (file ms))
    accepted h = ap (λ (o : Option ℕ). unless o (world_of (file ms))) (by_masks true h)

    pub refused_last : list_all masks_hold (file ms).endpoints ≡ false → meaning ms ≡ Err 112
    refused_last h = ap (λ (o : Option ℕ). unless o (world_of (file ms))) (by_masks false h)

-- ---- by the first check that fails

module _ (ms : Members) (f : File) (said : f ≡ file ms) (found : Option BoardFault) (first : option_map number_of found ≡ first_broken (early_checks ms)) where
  pub none_failed : found ≡ None → first_broken (early_checks ms) ≡ None
  none_failed none = sym first ∙ ap (option_map number_of) none

  pub judged_file : found ≡ None → is_judged f ≡ true
  judged_file none = ap is_judged said ∙ judged ms (none_failed none)

  pub means_world : found ≡ None → list_all masks_hold f.endpoints ≡ true → meaning ms ≡ Ok (world_of f)
  means_world none masks = grind (arith, accepted, none_failed)

  pub means_masks : found ≡ None → list_all masks_hold f.endpoints ≡ false → meaning ms ≡ Err 112
  means_masks none masks = grind (arith, refused_last, none_failed)
