-- One function of a board, lent by its index: it is the one at its path.
--     IsLentAt fs i e      the function at an index is the endpoint that is lent
--     IsLocated fs space a l      the first claim of an address is in the function at an index
use Rattle.std.{proofs.Common.{◌≡◌, ℕ, ◌<◌, zero, suc, cond, List, [], ◌∷◌, length, Option, Some, None, refl, sym, ap, subst, ◌∙◌, rules, arith}, specs.{Prelude.{find, map, IsFalse, IsSome}, List.{slice_get, slice_set}, Option.option_map_or}}
use Rattle.lists.{specs.Elements.{Each, first_some}, proofs.{FirstFound.found_passes, Indices.{at_below, each_at, find_at, pair_at}}}
use Rattle.model_registers.specs.{Registers.File, Decoding.{Space, Function}, CopiedFiles.after_reset}
use Rattle.model_board.{specs.{Paths.{Path, path_eq}, State.{BoardFunction, with_file}, Claims.{Claim, claim_at, claim_of, first_claim}}, proofs.{PathEnds.{path_self, path_eq-sym}, PathOrder.path_same}}
use Rattle.bridge_forward.specs.{declared.bus.BarOffset.BarOffset, Lending.{as_endpoint, endpoint_at, with_endpoint, endpoint_nth, with_endpoint_nth}, Locating.located_claim}
use Rattle.host_bridge.{specs.{ByIndex.{file_nth, with_file_nth, with_reset_nth}, HostState.HostState}, proofs.{Lent.{HasDistinctPaths, changed_endpoint, kept_endpoint, claimed_by, claimed_endpoint}, ClaimedAccesses.IsClaimed}}

-- ---- the function at an index is the one at its path

abbrev Differ : BoardFunction → BoardFunction → Type 0
Differ f g = IsFalse (path_eq f.path g.path)

module _ (f : BoardFunction) where
  pub found_at : (fs : List BoardFunction) (i : ℕ) → HasDistinctPaths fs → slice_get fs i ≡ Some f → find (λ g. path_eq g.path f.path) fs ≡ Some f
  found_at fs i distinct e = find_at (λ g. path_eq g.path f.path) fs i f e (path_self f.path) (λ j y l g. pair_at Differ fs j i y f distinct l g e)

  -- none of the others stands at the path
  others : (x : BoardFunction) (fs : List BoardFunction) → Each (λ g. IsFalse (path_eq f.path g.path)) fs → map (λ (g : BoardFunction). cond (path_eq g.path f.path) x g) fs ≡ fs
  others x [] h = refl
  others x (g ∷ gs) h = grind (arith, path_eq-sym g.path f.path, others x gs h.1)

  pub set_at : (x : BoardFunction) (fs : List BoardFunction) (i : ℕ) → HasDistinctPaths fs → slice_get fs i ≡ Some f → slice_set fs i x ≡ map (λ (g : BoardFunction). cond (path_eq g.path f.path) x g) fs
  set_at x [] i distinct e = cc
  set_at x (g ∷ gs) zero distinct e = grind (arith, path_self f.path, others x gs)
  set_at x (g ∷ gs) (suc i) distinct e = grind (arith, each_at (Differ g) gs i f distinct.0 e, set_at x gs i distinct.1 e)

  pub nth_at : (fs : List BoardFunction) (i : ℕ) → HasDistinctPaths fs → slice_get fs i ≡ Some f → endpoint_nth fs i ≡ endpoint_at fs f.path
  nth_at fs i distinct e = ap (λ o. option_map_or as_endpoint o None) (e ∙ sym (found_at fs i distinct e))

  pub with_nth : (w : Function) (fs : List BoardFunction) (i : ℕ) → HasDistinctPaths fs → slice_get fs i ≡ Some f → with_endpoint_nth i w fs ≡ with_endpoint f.path w fs
  with_nth w fs i distinct e = search (rules, set_at)

-- ---- the endpoint that is lent

pub record IsLentAt (fs : List BoardFunction) (i : ℕ) (e : Function) : Type 0 where
  pub function : BoardFunction
  pub there : slice_get fs i ≡ Some function
  pub lent : endpoint_at fs function.path ≡ Some e

module _ (fs : List BoardFunction) (i : ℕ) (e : Function) (is : endpoint_nth fs i ≡ Some e) where
  pub file_lent : e.file ≡ file_nth fs i
  file_lent = grind arith

  module _ (distinct : HasDistinctPaths fs) where
    lent_at : IsLentAt fs i e
    lent_at = grind (arith, nth_at)

    pub kept_nth : with_endpoint_nth i e fs ≡ fs
    kept_nth = with_nth lent_at.function e fs i distinct lent_at.there ∙ kept_endpoint lent_at.function.path e fs distinct lent_at.lent

    pub changed_nth : (g : File → File) → with_endpoint_nth i (record e { file = g e.file }) fs ≡ with_file_nth g i fs
    changed_nth g =
        with_nth lent_at.function (record e { file = g e.file }) fs i distinct lent_at.there
        ∙ changed_endpoint g lent_at.function.path e fs distinct lent_at.lent
        ∙ sym (ap (λ (o : Option BoardFunction). option_map_or (λ (f : BoardFunction). with_file g f.path fs) o fs) lent_at.there)

    pub reset_except_routing_nth : with_endpoint_nth i (record e { file = after_reset e.decl e.file }) fs ≡ with_reset_nth i fs
    reset_except_routing_nth =
        changed_nth (after_reset e.decl)
        ∙ sym (ap (λ (o : Option Function). option_map_or (λ (x : Function). with_file_nth (after_reset x.decl) i fs) o fs) is)

-- no endpoint is reset where none stands
pub none_reset : (fs : List BoardFunction) (i : ℕ) → endpoint_nth fs i ≡ None → fs ≡ with_reset_nth i fs
none_reset fs i none = sym (ap (λ (o : Option Function). option_map_or (λ (e : Function). with_file_nth (after_reset e.decl) i fs) o fs) none)

-- ---- a claim, told by an index

pub record IsLocated (fs : List BoardFunction) (space : Space) (a : ℕ) (l : BarOffset) : Type 0 where
  pub function : BoardFunction
  pub there : slice_get fs l.index ≡ Some function
  pub claimed : IsClaimed fs space a (claim_at function.path (record { index = l.region; offset = l.offset }))

-- the board as code holds it, and as a clause names it
pub located : (h now : HostState) (space : Space) (a : ℕ) (l : BarOffset) → h ≡ now → located_claim now.state.functions (Some l) ≡ first_claim now.state.functions space a → l.index < length now.state.functions
    → IsLocated h.state.functions space a l
located h now space a l is claim within = subst (λ (k : HostState). IsLocated k.state.functions space a l) (sym is) (by_nth (at_below now.state.functions l.index within))
  where
    by_nth : (f : BoardFunction) × (slice_get now.state.functions l.index ≡ Some f) → IsLocated now.state.functions space a l
    by_nth w = grind arith

-- an endpoint stands there
pub some_nth : (fs : List BoardFunction) (space : Space) (a : ℕ) (l : BarOffset) → IsLocated fs space a l → HasDistinctPaths fs → endpoint_nth fs l.index ≡ None → ⊥
some_nth fs space a l h distinct none =
    let some : IsSome (endpoint_at fs h.function.path) = claimed_endpoint fs space a (claim_at h.function.path (record { index = l.region; offset = l.offset })) distinct h.claimed.first in
    let same : endpoint_nth fs l.index ≡ endpoint_at fs h.function.path = nth_at h.function fs l.index distinct h.there in cc

pub endpoint_there_nth : (fs : List BoardFunction) (space : Space) (a : ℕ) (l : BarOffset) (e : Function) → (h : IsLocated fs space a l) → HasDistinctPaths fs → endpoint_nth fs l.index ≡ Some e → endpoint_at fs h.function.path ≡ Some e
endpoint_there_nth fs space a l e h distinct is = sym (nth_at h.function fs l.index distinct h.there) ∙ is

-- ---- a claim, told by a path

none_found : (all : List BoardFunction) (space : Space) (a : ℕ) (p : Path) (fs : List BoardFunction) → find (λ f. path_eq f.path p) fs ≡ None → (c : Claim) → first_some (claim_of all space a) fs ≡ Some c → c.path ≡ p → ⊥
none_found all space a p [] none c h is = cc
none_found all space a p (f ∷ fs) none c h is = grind (arith, none_found all space a p fs, claimed_by all space a f c, path_self f.path)

-- the function that is found by the path of the first claim tells it by its index
pub claim_by_path : (fs : List BoardFunction) (space : Space) (a : ℕ) (c : Claim) (l : BarOffset) → first_claim fs space a ≡ Some c → slice_get fs l.index ≡ find (λ f. path_eq f.path c.path) fs → c.index ≡ l.region → c.offset ≡ l.offset
    → located_claim fs (Some l) ≡ first_claim fs space a
claim_by_path fs space a c l first found region offset =
    grind (arith, none_found fs space a c.path fs, found_passes (λ (g : BoardFunction). path_eq g.path c.path) fs, path_same)

-- the path of a claim is that of a function
pub claim_stands : (fs : List BoardFunction) (space : Space) (a : ℕ) (c : Claim) → first_claim fs space a ≡ Some c → find (λ f. path_eq f.path c.path) fs ≡ None → ⊥
claim_stands fs space a c first none = none_found fs space a c.path fs none c first refl
