-- The walk that looks for the first claim.
use Rattle.std.{proofs.{Common.{◌≡◌, ℕ, ◌+◌, ◌<◌, ◌≤◌, Bool, true, false, not, ◌&&◌, ◌||◌, cond, Option, Some, None, List, [], ◌∷◌, length, zero, suc, refl, ap, ◌∙◌, arith, ◌⊎◌, rules}, lemmas.Option.slice_get_within}, specs.{Option.option_map_or, List.{slice_get, list_all}}}
use Rattle.lists.{specs.Elements.{first_of_two, first_some}, proofs.{Indices.{map_at, at_map, fails_at}, Tests.asked_false}}
use Rattle.model_registers.specs.Decoding.{Space, Hit, lone_claim}
use Rattle.model_board.specs.{Paths.is_ancestor_of, State.BoardFunction, Windows.forwards, Claims.{is_forwarded, claim_at, endpoint_hit, claim_of, first_claim}}
use Rattle.bridge_forward.{specs.{Bridges.BridgeFunction, declared.{bus.Node.Node, function.Function.{Function, TheVariants.{Endpoint, Bridge}}}, Layout.{function_of, functions_of, IsLaidOut}}, proofs.Nodes.{inside, leads_within, within_of_leads, nested}}
use Rattle.model_registers.specs.Decoding as decoding

-- ---- lists

first_at : {A B : Type 0} (f : A → Option B) (xs : List A) (i : ℕ) (x : A) (b : B) → slice_get xs i ≡ Some x → f x ≡ Some b → ((j : ℕ) (y : A) → j < i → slice_get xs j ≡ Some y → f y ≡ None) → first_some f xs ≡ Some b
first_at f [] i x b e h k = cc
first_at f (y ∷ ys) zero x b e h k = let same : y ≡ x = cc in rw (same, h)
first_at f (y ∷ ys) (suc i) x b e h k = rw (k 0 y (omega arith) refl) (first_at f ys i x b e h (λ j z l g. k (suc j) z (omega arith) g))

first_none : {A B : Type 0} (f : A → Option B) (xs : List A) → ((j : ℕ) (y : A) → slice_get xs j ≡ Some y → f y ≡ None) → first_some f xs ≡ None
first_none f [] h = refl
first_none f (x ∷ xs) h = ap (λ o. first_of_two o (first_some f xs)) (h 0 x refl) ∙ first_none f xs (λ j y e. h (suc j) y e)

all_at : {A : Type 0} (p : A → Bool) (xs : List A) → ((j : ℕ) (y : A) → slice_get xs j ≡ Some y → p y ≡ true) → list_all p xs ≡ true
all_at p [] h = refl
all_at p (x ∷ xs) h = rw (h 0 x refl) (all_at p xs (λ j y e. h (suc j) y e))

or_right : (b c : Bool) → (b ≡ true → c ≡ true) → (not b || c) ≡ true
or_right b c h = grind arith

sides : (j i : ℕ) → (j < i) ⊎ ((j ≡ i) ⊎ (i < j))
sides j i = grind arith

-- ---- the walk

module _ (nodes : List Node) (laid : IsLaidOut nodes) (space : Space) (a : ℕ) where
  abbrev fs : List BoardFunction
  fs = functions_of nodes

  -- before index i nothing claims the address, and each bridge above i forwards it
  pub record Passed (i : ℕ) : Type 0 where
    pub silent : (j : ℕ) (n : Node) → j < i → slice_get nodes j ≡ Some n → claim_of fs space a (function_of n) ≡ None
    pub opened : (k : ℕ) (m : Node) → k < i → slice_get nodes k ≡ Some m → i < m.end → forwards space a (function_of m) ≡ true

  -- the way to index i is open
  open_here : (i : ℕ) (n : Node) → Passed i → slice_get nodes i ≡ Some n → is_forwarded fs n.path space a ≡ true
  open_here i n p e = search (rules, all_at, at_map, or_right, within_of_leads)

  -- what stands behind a function that doesn't forward has no claim
  shut_behind : (i j : ℕ) (m n : Node) → slice_get nodes i ≡ Some m → slice_get nodes j ≡ Some n → i < j → j < m.end → forwards space a (function_of m) ≡ false → claim_of fs space a (function_of n) ≡ None
  shut_behind i j m n em en l g f =
      ap (λ t. cond t (option_map_or (λ (h : Hit). Some (claim_at n.path h)) (endpoint_hit (function_of n) space a) None) None)
      (fails_at (λ (x : BoardFunction). not (is_ancestor_of x.path n.path) || forwards space a x) fs i (function_of m) (map_at function_of nodes i m em)
      (asked_false (is_ancestor_of m.path n.path) (forwards space a (function_of m)) (leads_within nodes laid i j m n em en l g) f))

  no_claim : (n : Node) → endpoint_hit (function_of n) space a ≡ None → claim_of fs space a (function_of n) ≡ None
  no_claim n d = search rules

  -- past a function that forwards, to what stands behind it
  pub passed_into : (i : ℕ) (n : Node) → Passed i → slice_get nodes i ≡ Some n → endpoint_hit (function_of n) space a ≡ None → forwards space a (function_of n) ≡ true → Passed (i + 1)
  passed_into i n p e d f = search (rules, sides, no_claim)

  -- past a function that doesn't forward, and all that stands behind it
  pub passed_over : (i : ℕ) (n : Node) → Passed i → slice_get nodes i ≡ Some n → endpoint_hit (function_of n) space a ≡ None → forwards space a (function_of n) ≡ false → Passed n.end
  passed_over i n p e d f = search (rules, sides, no_claim, shut_behind, inside, nested)

  -- the first claim stands at index i
  pub claim_here : (i : ℕ) (n : Node) (h : Hit) → Passed i → slice_get nodes i ≡ Some n → endpoint_hit (function_of n) space a ≡ Some h → first_claim fs space a ≡ Some (claim_at n.path h)
  claim_here i n h p e d = grind (arith, first_at, map_at function_of nodes i n e, open_here i n p e, at_map)

  pub claim_nowhere : (i : ℕ) → Passed i → length nodes ≤ i → first_claim fs space a ≡ None
  claim_nowhere i p l = search (rules, first_none, at_map, slice_get_within)

  -- ---- one function

  pub hit_of_endpoint : (n : Node) (e : decoding.Function) → n.function ≡ Endpoint e → endpoint_hit (function_of n) space a ≡ lone_claim e space a
  hit_of_endpoint n e h = ap (λ (f : Function). endpoint_hit (function_of (record n { function = f })) space a) h

  pub endpoint_forwards_nothing : (n : Node) (e : decoding.Function) → n.function ≡ Endpoint e → forwards space a (function_of n) ≡ false
  endpoint_forwards_nothing n e h = ap (λ (f : Function). forwards space a (function_of (record n { function = f }))) h

  pub bridge_claims_nothing : (n : Node) (b : BridgeFunction) → n.function ≡ Bridge b → endpoint_hit (function_of n) space a ≡ None
  bridge_claims_nothing n b h = ap (λ (f : Function). endpoint_hit (function_of (record n { function = f })) space a) h

  pub bridge_forwards : (n : Node) (b : BridgeFunction) → n.function ≡ Bridge b → forwards space a (function_of n) ≡ (decoding.is_open b.file space && Rattle.model_board.specs.Windows.is_in_window b.decl b.file space a)
  bridge_forwards n b h = ap (λ (f : Function). forwards space a (function_of (record n { function = f }))) h
