-- What is told of an address is so, and each region that holds it is told.
use Rattle.std.{proofs.{Common.{◌≡◌, ℕ, ◌-◌, ◌⊎◌, inl, inr, Bool, true, false, ◌&&◌, not, cond, List, [], ◌∷◌, ◌++◌, Option, Some, None, refl, sym, ap, ◌∙◌, subst, arith}, lemmas.{List.{reverse-append, reverse-reverse}, Bool.{Decides.nat_tests, and_from, and_parts, not-true, not_from_false, or_parts}}}, specs.{Prelude.{map, filter, flat_map, reverse, slice_get}, Option.option_to_list}}
use Rattle.lists.{specs.Elements.{Each, IsIn}, proofs.{Members.{each_from, in_front, in_back, front_or_back, in_map, from_map, in_filter, from_filter, in_flat_map, from_flat_map, all_from, from_option}, Indices.index_in}}
use Rattle.model_registers.specs.{Declarations.Bridge, Decoding.{Space, io, memory, opens_space, is_open, command_word, Hit, hit_at}, EndpointTable.BaseAddress, Registers.File}
use Rattle.model_board.{specs.{Board.{Decl, endpoint, bridge}, Paths.{Path, is_ancestor_of}, State.BoardFunction, Windows.{is_in, mem_window, pref_window, is_in_window, forwards}, Claims.{Claim, claim_at, is_forwarded, claims, first_claim}, Routing.{Ranges, regions, windows, RoutingRow, ranges_of, row_of, routing, row_forwards, is_routed, row_claims}}, proofs.Routing.{forwarded_by_routing, claims_by_routing, first_of_claims}}
use Rattle.model_set_up.specs.PlacedRegions.{PlacedRegion, holds}
use Rattle.model_findings.{specs.{OpenRegions.{region_now, regions_of}, Agents.{bridge_agent, answers}}, proofs.Answering.bridge_answers}
use Rattle.model_lines.specs.{Why.{windows_now, hindrance, Cause, closed_by, stopped_at, closing, blocking_cause, blockers, causes_of, UnansweredRegion, is_answering_bar, holders, told_of, told, is_closed, forwarder, forwarders}, WhyLaws.{IsAnswering, IsForwarding, LiesOutside, IsTrueHindrance, claim_there, IsTrueCause, IsTrueTold, AddressesExplained}}

-- ---- an open region that is forwarded to has a claim

if_true : {A : Type 0} (t : Bool) (x : A) (xs : List A) → t ≡ true → IsIn x xs → IsIn x (cond t xs [])
if_true t x xs h m = rw h m

hit : (p : Path) (command : ℕ) (space : Space) (n : ℕ) (b : BaseAddress) → opens_space command space ≡ true → holds space n (region_now p b) ≡ true
    → IsIn (record { index = b.index; offset = n - b.base }) (option_to_list (hit_at command space n b))
hit p command space n b o h = grind arith

row_claim : (rows : List RoutingRow) (space : Space) (n : ℕ) (p : Path) (command : ℕ) (rs : Ranges) (q : PlacedRegion) → IsIn q (regions_of (record { path = p; command = command; ranges = rs })) → holds space n q ≡ true → opens_space command space ≡ true → is_routed rows p space n ≡ true
    → IsIn (claim_there n q) (row_claims rows space n (record { path = p; command = command; ranges = rs }))
row_claim rows space n p command (windows wio wmem wpref) q m h o r = absurd m
row_claim rows space n p command (regions bs) q m h o r = of (from_map (region_now p) q bs m)
  where
    of : (b : BaseAddress) × IsIn b bs × (q ≡ region_now p b) → IsIn (claim_there n q) (row_claims rows space n (record { path = p; command = command; ranges = regions bs }))
    of (b, k, e) =
        subst (λ (x : PlacedRegion). IsIn (claim_there n x) (row_claims rows space n (record { path = p; command = command; ranges = regions bs }))) (sym e)
        (if_true (is_routed rows p space n) (claim_there n (region_now p b)) (map (claim_at p) (flat_map (λ c. option_to_list (hit_at command space n c)) bs)) r
        (in_map (claim_at p) (record { index = b.index; offset = n - b.base }) (flat_map (λ c. option_to_list (hit_at command space n c)) bs)
        (in_flat_map (λ c. option_to_list (hit_at command space n c)) b (record { index = b.index; offset = n - b.base }) bs k (hit p command space n b o (subst (λ (x : PlacedRegion). holds space n x ≡ true) e h)))))

module _ (fs : List BoardFunction) (space : Space) (n : ℕ) where
  has_claim : (f : BoardFunction) (q : PlacedRegion) → IsIn f fs → IsIn q (regions_of (row_of f)) → holds space n q ≡ true → is_open f.file space ≡ true → is_forwarded fs f.path space n ≡ true → IsIn (claim_there n q) (claims fs space n)
  has_claim f q m k h o way =
      subst (IsIn (claim_there n q)) (sym (claims_by_routing fs space n))
      (in_flat_map (row_claims (routing fs) space n) (row_of f) (claim_there n q) (routing fs) (in_map row_of f fs m)
      (row_claim (routing fs) space n f.path (command_word f.file) (ranges_of f.file f.decl) q k h o (sym (forwarded_by_routing fs f.path space n) ∙ way)))

-- ---- what a bridge's windows say

windows_outside : (space : Space) (n : ℕ) (d : Bridge) (file : File) → is_in_window d file space n ≡ false → Each (LiesOutside n) (windows_now d file space)
windows_outside io n d file h = grind arith
windows_outside memory n d file h = grind (arith, or_parts (is_in n (mem_window file)) (is_in n (pref_window d.pref file)) h)

hindrance_by : (space : Space) (n : ℕ) (p : Path) (d : Decl) (file : File) → forwards space n (record { path = p; decl = d; file = file }) ≡ false → IsTrueHindrance space n (record { path = p; decl = d; file = file }) (hindrance space (record { path = p; decl = d; file = file }))
hindrance_by space n p (endpoint d) file h = (refl, tt)
hindrance_by space n p (bridge d) file h = grind (arith, windows_outside space n d file)

hindrance_true : (space : Space) (n : ℕ) (f : BoardFunction) → forwards space n f ≡ false → IsTrueHindrance space n f (hindrance space f)
hindrance_true space n f h = hindrance_by space n f.path f.decl f.file h

-- ---- the causes for a region

in_reverse : {A : Type 0} (x : A) (xs : List A) → IsIn x xs → IsIn x (reverse xs)
in_reverse x [] m = absurd m
in_reverse x (y ∷ xs) (inl e) = subst (IsIn x) (sym (reverse-append (y ∷ []) xs)) (in_back x (reverse xs) (y ∷ []) (inl e))
in_reverse x (y ∷ xs) (inr m) = subst (IsIn x) (sym (reverse-append (y ∷ []) xs)) (in_front x (reverse xs) (y ∷ []) (in_reverse x xs m))

pub from_reverse : {A : Type 0} (x : A) (xs : List A) → IsIn x (reverse xs) → IsIn x xs
from_reverse x xs m = subst (IsIn x) (reverse-reverse xs) (in_reverse x (reverse xs) m)

stops_if : (c : Cause) (s t : Bool) → s ≡ true → t ≡ false → cond (s && not t) (Some c) None ≡ Some c
stops_if c s t h k = grind arith

module _ (fs : List BoardFunction) (space : Space) (n : ℕ) where
  -- the causes from bus 0 down
  abbrev down : BoardFunction → List Cause
  down f = blockers fs space n f.path ++ closing space f

  bridge_told : (f g : BoardFunction) → IsIn g fs → is_ancestor_of g.path f.path ≡ true → forwards space n g ≡ false → IsIn (stopped_at g.path (hindrance space g)) (causes_of fs space n f)
  bridge_told f g m over stopped =
      let c = stopped_at g.path (hindrance space g) in
      let told : blocking_cause space n f.path g ≡ Some c = stops_if c (is_ancestor_of g.path f.path) (forwards space n g) over stopped in
      in_reverse c (down f) (in_front c (blockers fs space n f.path) (closing space f)
      (in_flat_map (λ (h : BoardFunction). option_to_list (blocking_cause space n f.path h)) g c fs m (subst (λ (o : Option Cause). IsIn c (option_to_list o)) (sym told) (inl refl))))

  command_told : (f : BoardFunction) → is_open f.file space ≡ false → IsIn (closed_by (command_word f.file)) (causes_of fs space n f)
  command_told f e = grind (arith, reverse-append, in_back, in_front)

  stop_true : (f g : BoardFunction) → IsIn g fs → (c : Cause) → blocking_cause space n f.path g ≡ Some c → IsTrueCause fs space n f c
  stop_true f g m c e = grind (arith, hindrance_true)

  closing_true : (f : BoardFunction) (c : Cause) → IsIn c (closing space f) → IsTrueCause fs space n f c
  closing_true f c m = grind arith

  causes_true : (f : BoardFunction) → Each (IsTrueCause fs space n f) (causes_of fs space n f)
  causes_true f = each_from (IsTrueCause fs space n f) (causes_of fs space n f) one
    where
      of : (c : Cause) → IsIn c (blockers fs space n f.path) ⊎ IsIn c (closing space f) → IsTrueCause fs space n f c
      of c h = grind (arith, from_flat_map, stop_true f, from_option, closing_true f c)

      one : (c : Cause) → IsIn c (causes_of fs space n f) → IsTrueCause fs space n f c
      one c m = of c (front_or_back c (blockers fs space n f.path) (closing space f) (from_reverse c (down f) m))

  opened : (f : BoardFunction) → causes_of fs space n f ≡ [] → is_open f.file space ≡ true
  opened f none = grind (arith, command_told f)

  all_pass : (f : BoardFunction) → causes_of fs space n f ≡ [] → is_forwarded fs f.path space n ≡ true
  all_pass f none = grind (arith, all_from, bridge_told f)

  closed_here : (f : BoardFunction) (cs : List Cause) → Each (IsTrueCause fs space n f) cs → is_closed cs ≡ true → is_open f.file space ≡ false
  closed_here f cs each h = grind arith

  -- ---- what is told

  pub told_true : (t : UnansweredRegion) → IsIn t (told fs space n) → IsTrueTold fs space n t
  told_true t m = grind (arith, from_flat_map, nat_tests, closed_here, causes_true, from_filter, not-true, command_told, bridge_told, has_claim, opened, all_pass, and_parts, from_map)

  complete : (f : BoardFunction) → IsIn f fs → (q : PlacedRegion) → IsIn q (regions_of (row_of f)) → holds space n q ≡ true → (is_answering_bar (first_claim fs space n) q ≡ true) ⊎ ((t : UnansweredRegion) × IsIn t (told fs space n) × (t.region ≡ q))
  complete f m q k h = by (is_answering_bar (first_claim fs space n) q) refl
    where
      by : (u : Bool) → is_answering_bar (first_claim fs space n) q ≡ u → (is_answering_bar (first_claim fs space n) q ≡ true) ⊎ ((t : UnansweredRegion) × IsIn t (told fs space n) × (t.region ≡ q))
      by true e = inl e
      by false e = inr (
        record { region = q; causes = causes_of fs space n f },
        in_flat_map (told_of fs space n) f (record { region = q; causes = causes_of fs space n f }) fs m
            (in_map (λ (x : PlacedRegion). record { region = x; causes = causes_of fs space n f }) q (filter (λ x. not (is_answering_bar (first_claim fs space n) x)) (holders space n f))
            (in_filter (λ (x : PlacedRegion). not (is_answering_bar (first_claim fs space n) x)) q (holders space n f) (in_filter (holds space n) q (regions_of (row_of f)) k h) (not_from_false (is_answering_bar (first_claim fs space n) q) e))),
        refl,
      )

  no_first : (cs : List Claim) (c : Claim) → slice_get cs 0 ≡ None → IsIn c cs → ⊥
  no_first [] c h m = m
  no_first (d ∷ cs) c h m = cc

-- ---- what forwards it

pub by_row : (space : Space) (n : ℕ) (f : BoardFunction) → row_forwards space n (row_of f) ≡ forwards space n f
by_row space n f = grind arith

module _ (fs : List BoardFunction) (space : Space) (n : ℕ) where
  forwarding : Each (IsForwarding fs space n) (forwarders fs space n)
  forwarding = grind (arith, each_from, from_map, from_filter, and_parts)

  all_forwarding : (f : BoardFunction) → IsIn f fs → answers space n (bridge_agent (row_of f) space) ≡ true → is_forwarded fs f.path space n ≡ true → IsIn (forwarder f) (forwarders fs space n)
  all_forwarding f m a way = grind (arith, in_map, in_filter, and_from, bridge_answers, by_row)

-- ---- who answers

-- the region of a row that has a claim
record OfRow (rows : List RoutingRow) (space : Space) (n : ℕ) (p : Path) (command : ℕ) (rs : Ranges) (c : Claim) : Type 0 where
  region : PlacedRegion
  declared : IsIn region (regions_of (record { path = p; command = command; ranges = rs }))
  byte : holds space n region ≡ true
  opened : opens_space command space ≡ true
  routed : is_routed rows p space n ≡ true
  claim_is : c ≡ claim_there n region

from_if : {A : Type 0} (t : Bool) (x : A) (xs : List A) → IsIn x (cond t xs []) → (t ≡ true) × IsIn x xs
from_if t x xs m = grind arith

hit_parts : (p : Path) (command : ℕ) (space : Space) (n : ℕ) (b : BaseAddress) (h : Hit) → hit_at command space n b ≡ Some h → (opens_space command space ≡ true) × (holds space n (region_now p b) ≡ true) × (record { index = b.index; offset = n - b.base } ≡ h)
hit_parts p command space n b h e = grind arith

of_row : (rows : List RoutingRow) (space : Space) (n : ℕ) (p : Path) (command : ℕ) (rs : Ranges) (c : Claim) → IsIn c (row_claims rows space n (record { path = p; command = command; ranges = rs })) → OfRow rows space n p command rs c
of_row rows space n p command (windows wio wmem wpref) c m = absurd (from_if (is_routed rows p space n) c [] m).1
of_row rows space n p command (regions bs) c m =
    let i = from_if (is_routed rows p space n) c (map (claim_at p) (flat_map (λ b. option_to_list (hit_at command space n b)) bs)) m in
    let h = from_map (claim_at p) c (flat_map (λ b. option_to_list (hit_at command space n b)) bs) i.1 in
    let f = from_flat_map (λ b. option_to_list (hit_at command space n b)) h.0 bs h.1 in
    let g = hit_parts p command space n f.0 h.0 (from_option (hit_at command space n f.0) h.0 f.2) in
    record {
      region = region_now p f.0;
      declared = in_map (region_now p) f.0 bs f.1;
      byte = g.1;
      opened = g.0;
      routed = i.0;
      claim_is = h.2 ∙ ap (claim_at p) (sym g.2);
    }

module _ (fs : List BoardFunction) (space : Space) (n : ℕ) where
  answering : (c : Claim) → first_claim fs space n ≡ Some c → IsAnswering fs space n c
  answering c e =
      let f = from_flat_map (row_claims (routing fs) space n) c (routing fs) (subst (IsIn c) (claims_by_routing fs space n) (index_in (claims fs space n) 0 c (sym (first_of_claims fs space n) ∙ e))) in
      grind (arith, from_map, of_row, forwarded_by_routing)

pub address_explanations_are_true : AddressesExplained
address_explanations_are_true fs space n = grind (arith, answering, forwarding, all_forwarding, each_from, told_true, complete, no_first, first_of_claims)
