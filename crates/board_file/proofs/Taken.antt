-- The set of the paths of some texts.
--     AreTaken set texts      these are its paths
--     one_more, entry_more      with one text more
use Rattle.std.{proofs.{Common.{◌≡◌, ℕ, ◌+◌, ◌<◌, Bool, not, ◌&&◌, ◌||◌, List, [], ◌∷◌, ◌++◌, map, length, get_or, take, drop, sym, ap, ◌∙◌, append_assoc, arith}, lemmas.List.{take_more, length-map, get_or-map, Folds.list_any-append}}, specs.{List.{list_any, enumerate_from}, BTreeSet.{BTreeSet, contains}}}
use Rattle.lists.proofs.Tests.{or_false}
use Rattle.model_board.specs.Paths.{Path, path_eq}
use Rattle.paths.specs.PathOrders.{path_cmp}
use Rattle.board_file.{specs.{PathTexts.{is_path_text, path_at}, MarkedPaths.{MarkedPath, has_path, is_free, marked_path, mark_duplicates}, declared.entry.Entry.Entry}, proofs.NextEntry.next_is}

abbrev pub AreTaken : BTreeSet Path → List (Entry × List ℕ) → Type 0
AreTaken set texts = (p : Path) → contains path_cmp set p ≡ list_any (λ s. has_path p s.1) texts

-- a text that is no path is free, and one that is where its path is not taken
pub free : (texts : List (Entry × List ℕ)) (t : List ℕ) → is_free texts t ≡ (not (is_path_text t) || not (list_any (λ s. has_path (path_at t) s.1) texts))
free [] t = grind arith
free (s ∷ texts) t = by_test (is_path_text s.1) (is_path_text t) (path_eq (path_at s.1) (path_at t)) (list_any (λ u. has_path (path_at t) u.1) texts) (is_free texts t) (free texts t)
  where
    by_test : (a b c any rest : Bool) → rest ≡ (not b || not any) → (not (a && b && c) && rest) ≡ (not b || not ((a && c) || any))
    by_test a b c any rest h = grind arith

module _ (texts : List (Entry × List ℕ)) (i : ℕ) (x : Entry × List ℕ) (h : i < length texts) (at : x ≡ get_or texts i x) where
  pub one_more : (set new : BTreeSet Path) → AreTaken set (take i texts) → ((p : Path) → contains path_cmp new p ≡ (contains path_cmp set p || has_path p x.1)) → AreTaken new (take (i + 1) texts)
  one_more set new old added p =
      added p ∙ ap (λ t. t || has_path p x.1) (old p)
      ∙ sym (ap (list_any (λ s. has_path p s.1)) (take_more texts i x h ∙ ap (λ y. take i texts ++ y ∷ []) (sym at))
      ∙ list_any-append (λ s. has_path p s.1) (take i texts) (x ∷ []) ∙ ap (λ t. list_any (λ s. has_path p s.1) (take i texts) || t) (or_false (has_path p x.1)))

  pub entry_more : (entries all : List MarkedPath) → entries ++ map (marked_path texts) (enumerate_from i (drop i texts)) ≡ all
      → (entries ++ marked_path texts (i, x) ∷ []) ++ map (marked_path texts) (enumerate_from (i + 1) (drop (i + 1) texts)) ≡ all
  entry_more entries all k = append_assoc entries (marked_path texts (i, x) ∷ []) _ ∙ rw (next_is texts i x h at) at k

-- the same of texts in whatever form they are held
pub both_more : {P : Type 0} (all held : List P) → held ≡ all → (g : P → Entry × List ℕ) (i : ℕ) (y : P) → i < length held → y ≡ get_or held i y
    → (set new : BTreeSet Path) (entries after : List MarkedPath) (own : Bool) → AreTaken set (take i (map g all))
    → entries ++ map (marked_path (map g all)) (enumerate_from i (drop i (map g all))) ≡ mark_duplicates (map g all)
    → own ≡ (not (is_path_text (g y).1) || not (contains path_cmp set (path_at (g y).1)))
    → ((p : Path) → contains path_cmp new p ≡ (contains path_cmp set p || has_path p (g y).1))
    → after ≡ entries ++ record { entry = (g y).0; text = (g y).1; is_first = own } ∷ []
    → AreTaken new (take (i + 1) (map g all)) × (after ++ map (marked_path (map g all)) (enumerate_from (i + 1) (drop (i + 1) (map g all))) ≡ mark_duplicates (map g all))
both_more all held same g i y h at set new entries after own taken made free_then added pushed =
    let inside : i < length (map g all) = rw (length-map all g, ← same) h in
    let there : g y ≡ get_or (map g all) i (g y) = sym (get_or-map g all i y (g y) (rw (← same) h) ∙ ap g (sym (at ∙ ap (λ (xs : List _). get_or xs i y) same))) in
    let is_first : own ≡ is_free (take i (map g all)) (g y).1 =
    free_then ∙ ap (λ (t : Bool). not (is_path_text (g y).1) || not t) (taken (path_at (g y).1)) ∙ sym (free (take i (map g all)) (g y).1) in
    let pushed' : after ≡ entries ++ marked_path (map g all) (i, g y) ∷ [] =
    pushed ∙ ap (λ (b : Bool). entries ++ record { entry = (g y).0; text = (g y).1; is_first = b } ∷ []) is_first in (
      one_more (map g all) i (g y) inside there set new taken added,
      ap (λ (xs : List MarkedPath). xs ++ map (marked_path (map g all)) (enumerate_from (i + 1) (drop (i + 1) (map g all)))) pushed'
          ∙ entry_more (map g all) i (g y) inside there entries (mark_duplicates (map g all)) made,
    )
