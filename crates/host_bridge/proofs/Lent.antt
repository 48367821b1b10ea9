-- One function of a board, lent by its path.
--     HasDistinctPaths fs      no two functions stand at one path
--     IsEndpointAt fs p      the function at the path is an endpoint
use Rattle.lists.{proofs.{EachLemmas.pairs_map, FirstFound.{found_passes, each_found}}, specs.Elements.{Each, EachPair, first_of_two, first_some}}
use Rattle.std.{proofs.Common.{◌≡◌, ℕ, Bool, true, false, cond, List, [], ◌∷◌, Option, Some, None, refl, sym, ap, ap₂, subst, ◌∙◌, arith}, specs.{Prelude.{find, IsTrue, IsFalse, IsSome}, Option.option_map_or}}
use Rattle.model_registers.specs.{Registers.File, Decoding.{Space, Function}}
use Rattle.model_board.{specs.{Paths.{Path, path_eq, path_before}, Board.{Decl, endpoint}, State.{BoardFunction, with_file}, Claims.{Claim, claim_of, first_claim}, Ports.file_at}, proofs.{PathOrder.path_same, PathEnds.{path_self, path_eq-sym}, PlacesLaw.before_apart}}
use Rattle.bridge_forward.{specs.Lending.{as_endpoint, endpoint_at, with_endpoint}, proofs.Changes.same_files}

-- ---- paths in order are distinct

abbrev pub HasDistinctPaths : List BoardFunction → Type 0
HasDistinctPaths fs = EachPair (λ f g. IsFalse (path_eq f.path g.path)) fs

pub distinct_paths : (fs : List BoardFunction) → EachPair (λ f g. IsTrue (path_before f.path g.path)) fs → HasDistinctPaths fs
distinct_paths fs h = pairs_map (λ f g. IsTrue (path_before f.path g.path)) (λ f g. IsFalse (path_eq f.path g.path)) fs (λ f g k. before_apart f.path g.path k) h

-- ---- the endpoint at a path

-- a function shows its declaration and its cells as an endpoint
pub record IsFunctionOf (f : BoardFunction) (e : Function) : Type 0 where
  pub decl : f.decl ≡ endpoint e.decl
  pub file : f.file ≡ e.file

pub shown : (p : Path) (d : Decl) (file : File) (e : Function) → as_endpoint (record { path = p; decl = d; file = file }) ≡ Some e → IsFunctionOf (record { path = p; decl = d; file = file }) e
shown p d file e h = grind arith

pub record IsEndpointAt (fs : List BoardFunction) (p : Path) (e : Function) : Type 0 where
  pub function : BoardFunction
  pub found : find (λ f. path_eq f.path p) fs ≡ Some function
  pub is : IsFunctionOf function e

pub endpoint_there : (fs : List BoardFunction) (p : Path) (e : Function) → endpoint_at fs p ≡ Some e → IsEndpointAt fs p e
endpoint_there fs p e = grind (arith, shown)

pub file_at-endpoint : (fs : List BoardFunction) (p : Path) (e : Function) → endpoint_at fs p ≡ Some e → file_at fs p ≡ e.file
file_at-endpoint fs p e h = let t = endpoint_there fs p e h in ap (λ o. option_map_or (λ (f : BoardFunction). f.file) o []) t.found ∙ t.is.file

-- no function stands at the path
abbrev NoneAt : Path → List BoardFunction → Type 0
NoneAt p fs = Each (λ g. path_eq g.path p ≡ false) fs

none_at : (x : BoardFunction) (p : Path) (fs : List BoardFunction) → path_eq x.path p ≡ true → Each (λ g. IsFalse (path_eq x.path g.path)) fs → NoneAt p fs
none_at x p [] here h = tt
none_at x p (g ∷ gs) here h = (grind (arith, path_eq-sym g.path p, path_same x.path p here), none_at x p gs here h.1)

with_endpoint-none : (p : Path) (e : Function) (fs : List BoardFunction) → NoneAt p fs → with_endpoint p e fs ≡ fs
with_endpoint-none p e [] h = refl
with_endpoint-none p e (f ∷ fs) h = ap₂ (λ (b : Bool) gs. cond b (record { path = p; decl = endpoint e.decl; file = e.file }) f ∷ gs) h.0 (with_endpoint-none p e fs h.1)

pub with_file-none : (g : File → File) (p : Path) (fs : List BoardFunction) → NoneAt p fs → with_file g p fs ≡ fs
with_file-none g p [] h = refl
with_file-none g p (f ∷ fs) h = ap₂ (λ (b : Bool) gs. cond b (record f { file = g f.file }) f ∷ gs) h.0 (with_file-none g p fs h.1)

-- what the lent endpoint is left as is all that changes
left_behind : (g : File → File) (p : Path) (e : Function) (fs : List BoardFunction) (f : BoardFunction) → HasDistinctPaths fs
    → find (λ f. path_eq f.path p) fs ≡ Some f → f.decl ≡ endpoint e.decl → e.file ≡ g f.file → with_endpoint p e fs ≡ with_file g p fs
left_behind g p e [] f distinct found decl file = refl
left_behind g p e (x ∷ xs) f distinct found decl file = by_case (path_eq x.path p) refl found (λ k. left_behind g p e xs f distinct.1 k decl file)
  where
    by_case : (b : Bool) → path_eq x.path p ≡ b → cond b (Some x) (find (λ f. path_eq f.path p) xs) ≡ Some f
        → (find (λ f. path_eq f.path p) xs ≡ Some f → with_endpoint p e xs ≡ with_file g p xs) → with_endpoint p e (x ∷ xs) ≡ with_file g p (x ∷ xs)
    by_case false here k more = rw here (ap (λ gs. x ∷ gs) (more k))
    by_case true here k more =
        let is : x ≡ f = cc in
        let path : x.path ≡ p = path_same x.path p here in
        grind (arith, none_at, with_endpoint-none, with_file-none)

pub changed_endpoint : (g : File → File) (p : Path) (e : Function) (fs : List BoardFunction) → HasDistinctPaths fs → endpoint_at fs p ≡ Some e
    → with_endpoint p (record e { file = g e.file }) fs ≡ with_file g p fs
changed_endpoint g p e fs distinct h = let t = endpoint_there fs p e h in left_behind g p (record e { file = g e.file }) fs t.function distinct t.found t.is.decl (ap g (sym t.is.file))

pub kept_endpoint : (p : Path) (e : Function) (fs : List BoardFunction) → HasDistinctPaths fs → endpoint_at fs p ≡ Some e → with_endpoint p e fs ≡ fs
kept_endpoint p e fs distinct h = changed_endpoint (λ file. file) p e fs distinct h ∙ same_files p fs

-- ---- the endpoint of a claim

-- the function of a claim is an endpoint, and stands at the path of the claim
pub claimed_by : (fs : List BoardFunction) (space : Space) (a : ℕ) (f : BoardFunction) (c : Claim) → claim_of fs space a f ≡ Some c → (f.path ≡ c.path) × IsSome (as_endpoint f)
claimed_by fs space a f c e = grind arith

abbrev IsClaimedAt : Path → List BoardFunction → BoardFunction → Type 0
IsClaimedAt p fs f = (find (λ f. path_eq f.path p) fs ≡ Some f) × IsSome (as_endpoint f)

claim_among : (all : List BoardFunction) (space : Space) (a : ℕ) (fs : List BoardFunction) (c : Claim) → HasDistinctPaths fs
    → first_some (claim_of all space a) fs ≡ Some c → (f : BoardFunction) × IsClaimedAt c.path fs f
claim_among all space a [] c distinct = λ e. cc
claim_among all space a (x ∷ xs) c distinct = by_case (claim_of all space a x) refl (claim_among all space a xs c distinct.1)
  where
    here : claim_of all space a x ≡ Some c → (f : BoardFunction) × IsClaimedAt c.path (x ∷ xs) f
    here e = grind (arith, claimed_by, path_self)

    later : (f : BoardFunction) × IsClaimedAt c.path xs f → (f : BoardFunction) × IsClaimedAt c.path (x ∷ xs) f
    later w =
        let stands : path_eq w.0.path c.path ≡ true = found_passes (λ (f : BoardFunction). path_eq f.path c.path) xs w.0 w.1.0 in
        let other : path_eq x.path w.0.path ≡ false = each_found (λ (g : BoardFunction). IsFalse (path_eq x.path g.path)) (λ (f : BoardFunction). path_eq f.path c.path) xs w.0 distinct.0 w.1.0 in
        let not_here : path_eq x.path c.path ≡ false = ap (path_eq x.path) (sym (path_same w.0.path c.path stands)) ∙ other in
        (w.0, (rw not_here w.1.0, w.1.1))

    by_case : (o : Option Claim) → claim_of all space a x ≡ o → (first_some (claim_of all space a) xs ≡ Some c → (f : BoardFunction) × IsClaimedAt c.path xs f)
        → first_of_two o (first_some (claim_of all space a) xs) ≡ Some c → (f : BoardFunction) × IsClaimedAt c.path (x ∷ xs) f
    by_case None e more k = later (more k)
    by_case (Some d) e more k = here (e ∙ k)

-- so an endpoint is lent at the path of a claim
pub claimed_endpoint : (fs : List BoardFunction) (space : Space) (a : ℕ) (c : Claim) → HasDistinctPaths fs → first_claim fs space a ≡ Some c → IsSome (endpoint_at fs c.path)
claimed_endpoint fs space a c distinct e = let w = claim_among fs space a fs c distinct e in subst (λ o. IsSome (option_map_or as_endpoint o None)) (sym w.1.0) w.1.1
