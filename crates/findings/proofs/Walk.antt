-- Where spans in order end before the next begin, agents are alone; so those of other buses and spaces needn't be compared.
use Rattle.std.{proofs.{Common.{◌≡◌, ℕ, zero, suc, ◌+◌, ◌-◌, ◌*◌, ◌<◌, ◌≤◌, ◌⊎◌, inl, inr, Bool, true, false, cond, List, [], ◌∷◌, ◌++◌, length, take, get_or, refl, sym, ap, ap₂, ◌∙◌, subst, arith, append_assoc, append-nil}, lemmas.List.{length-take, take_more, Sorted.Contains-permutation}, Math.Nat.{min-le_left, min-le_right}}, specs.{Prelude.{filter, flat_map}, List.{Contains, Sorted.{IsNonDecreasingBy, IsPermutation}}}}
use Rattle.lists.{specs.Elements.IsIn, proofs.Members.{each_from, in_map, in_front, in_back, each_none}}
use Rattle.model_registers.{specs.Decoding.{Space, same_space}, proofs.HitRegions.space_same}
use Rattle.model_board.{specs.Paths.{Path, parent}, proofs.PathOrder.path_same}
use Rattle.model_findings.{specs.{Agents.{Extent, Agent, answers}, Orderly.AreAlone, Problems.{contention, contentions}}, proofs.Problems.{Within, by_extent, no_contention}}
use Rattle.findings.specs.{declared.span.Span.Span, Spans.{bus_hash, space_key, bus_and_space_hash, extent_span, agent_spans, spans_from, place_of, sort_key, contains_group, AreApartBut, is_crowded}}

-- ---- spans in order

-- between two spans of one group stand spans of that group
between : (g h p q r a b c : ℕ) → p ≤ 0xffffffffffffffff → q ≤ 0xffffffffffffffff → r ≤ 0xffffffffffffffff → g * 0x10000000000000000 + p ≤ h * 0x10000000000000000 + q → h * 0x10000000000000000 + q ≤ g * 0x10000000000000000 + r → (g ≡ h) × (q ≤ r)
between g h p q r a b c i j k l m = (omega arith, omega arith)

get_any : {A : Type 0} (xs : List A) (k : ℕ) (d e : A) → k < length xs → get_or xs k d ≡ get_or xs k e
get_any [] k d e h = absurd (omega arith)
get_any (x ∷ xs) zero d e h = refl
get_any (x ∷ xs) (suc k) d e h = get_any xs k d e (omega arith)

module _ (spans : List Span) (rising : IsNonDecreasingBy sort_key spans) (groups : List ℕ) (apart : AreApartBut groups spans) where
  small : (s : Span) → place_of s ≤ 0xffffffffffffffff
  small s = min-le_right s.first 0xffffffffffffffff

  later : (i j : ℕ) (d : Span) → i < j → j < length spans → (get_or spans i d).group ≡ (get_or spans j d).group → contains_group groups (get_or spans j d).group ≡ false → (get_or spans i d).last < (get_or spans j d).first
  later i j d before within same quiet =
      let low = rising i (i + 1) d (omega arith) (omega arith) in
      let high = rising (i + 1) j d (omega arith) within in
      let one = get_or spans i d in
      grind (arith, between, small, min-le_left)

  -- two spans of two agents
  pub two_spans : (s t : Span) → Contains spans s → Contains spans t → (s.agent ≡ t.agent → ⊥) → s.group ≡ t.group → contains_group groups t.group ≡ false → (s.last < t.first) ⊎ (t.last < s.first)
  two_spans s t (i, l, e) (j, m, f) differ same quiet = by (sides i j)
    where
      sides : (i j : ℕ) → (i < j) ⊎ ((i ≡ j) ⊎ (j < i))
      sides i j = grind arith

      at_t : get_or spans j s ≡ t
      at_t = get_any spans j s t m ∙ f

      by : (i < j) ⊎ ((i ≡ j) ⊎ (j < i)) → (s.last < t.first) ⊎ (t.last < s.first)
      by (inl h) = inl (subst (λ (x : Span). s.last < x.first) at_t (subst (λ (x : Span). x.last < (get_or spans j s).first) e (later i j s h m (ap (λ (x : Span). x.group) e ∙ same ∙ sym (ap (λ (x : Span). x.group) at_t)) (ap (λ (x : Span). contains_group groups x.group) at_t ∙ quiet))))
      by (inr (inl h)) = absurd (differ (ap (λ (x : Span). x.agent) (sym e ∙ ap (λ k. get_or spans k s) h ∙ at_t)))
      by (inr (inr h)) = inr (subst (λ (x : Span). t.last < x.first) e (subst (λ (x : Span). x.last < (get_or spans i s).first) at_t (later j i s h l (ap (λ (x : Span). x.group) at_t ∙ sym same ∙ sym (ap (λ (x : Span). x.group) e)) (ap (λ (x : Span). contains_group groups x.group) e ∙ ap (contains_group groups) same ∙ quiet))))

-- ---- agents

contained : (x : Span) (xs : List Span) → IsIn x xs → Contains xs x
contained x [] m = absurd m
contained x (y ∷ ys) (inl e) = (0, omega arith, sym e)
contained x (y ∷ ys) (inr m) = let c : Contains ys x = contained x ys m in (suc c.0, omega (arith, c.1), c.2)

-- the spans of a later agent have a later index
indexed : (n : ℕ) (b : Agent) (bs : List Agent) → IsIn b bs → (k : ℕ) × (n ≤ k) × ((x : Span) → IsIn x (agent_spans k b) → IsIn x (spans_from n bs))
indexed n b [] m = absurd m
indexed n b (c ∷ cs) (inl e) = (n, omega arith, λ x k. in_front x (agent_spans n c) (spans_from (n + 1) cs) (subst (λ (y : Agent). IsIn x (agent_spans n y)) e k))
indexed n b (c ∷ cs) (inr m) = let r = indexed (n + 1) b cs m in (r.0, omega (arith, r.1), λ x k. in_back x (agent_spans n c) (spans_from (n + 1) cs) (r.2 x k))

-- what gives nothing may be left out
left_out : {A B : Type 0} (f : A → List B) (p : A → Bool) (xs : List A) → ((x : A) → IsIn x xs → p x ≡ false → f x ≡ []) → flat_map f (filter p xs) ≡ flat_map f xs
left_out f p [] none = refl
left_out f p (x ∷ xs) none = let rest = left_out f p xs (λ y m. none y (inr m)) in grind (arith, rest, none x (inl refl))

module _ (all spans : List Span) (moved : IsPermutation all spans) (rising : IsNonDecreasingBy sort_key spans) (groups : List ℕ) (apart : AreApartBut groups spans) where
  alone : (m n : ℕ) (a b : Agent) → m < n → ((x : Span) → IsIn x (agent_spans m a) → IsIn x all) → ((x : Span) → IsIn x (agent_spans n b) → IsIn x all) → (is_crowded groups a ≡ false) ⊎ (is_crowded groups b ≡ false) → AreAlone a b
  alone m n a b less own other quiet bus space x h = by (answers space x b) refl
    where
      by : (t : Bool) → answers space x b ≡ t → t ≡ false
      by false e = refl
      by true e = absurd (clash (by_extent space x a h) (by_extent space x b e))
        where
          clash : (same_space a.space space ≡ true) × (e : Extent) × IsIn e a.extents × Within x e → (same_space b.space space ≡ true) × (e : Extent) × IsIn e b.extents × Within x e → ⊥
          clash (s, e, i, v) (t, f, j, w) = of (two_spans spans rising groups apart (extent_span m (bus_and_space_hash a) e) (extent_span n (bus_and_space_hash b) f)
              (Contains-permutation all spans (extent_span m (bus_and_space_hash a) e) moved (contained (extent_span m (bus_and_space_hash a) e) all (own (extent_span m (bus_and_space_hash a) e) (in_map (extent_span m (bus_and_space_hash a)) e a.extents i))))
              (Contains-permutation all spans (extent_span n (bus_and_space_hash b) f) moved (contained (extent_span n (bus_and_space_hash b) f) all (other (extent_span n (bus_and_space_hash b) f) (in_map (extent_span n (bus_and_space_hash b)) f b.extents j))))
              (λ k. omega arith) same_group (quiet_there quiet))
            where
              same_group : bus_and_space_hash a ≡ bus_and_space_hash b
              same_group = ap₂ (λ (p : Path) (z : Space). bus_hash p * 2 + space_key z) (path_same (parent a.path) (parent b.path) bus) (space_same a.space space s ∙ sym (space_same b.space space t))

              quiet_there : (is_crowded groups a ≡ false) ⊎ (is_crowded groups b ≡ false) → is_crowded groups b ≡ false
              quiet_there (inl k) = ap (contains_group groups) (sym same_group) ∙ k
              quiet_there (inr k) = k

              of : (e.end - 1 < f.first) ⊎ (f.end - 1 < e.first) → ⊥
              of (inl k) = omega (arith, v.from, v.below, w.from, w.below)
              of (inr k) = omega (arith, v.from, v.below, w.from, w.below)

  pruned : (n : ℕ) (agents : List Agent) → ((x : Span) → IsIn x (spans_from n agents) → IsIn x all) → contentions (filter (is_crowded groups) agents) ≡ contentions agents
  pruned n [] there = refl
  pruned n (a ∷ bs) there = by (is_crowded groups a) refl (pruned (n + 1) bs (λ x k. there x (in_back x (agent_spans n a) (spans_from (n + 1) bs) k)))
    where
      none : (b : Agent) → IsIn b bs → (is_crowded groups a ≡ false) ⊎ (is_crowded groups b ≡ false) → contention a b ≡ []
      none b m quiet = let r = indexed (n + 1) b bs m in
          no_contention a b (alone n r.0 a b (omega (arith, r.1)) (λ x k. there x (in_front x (agent_spans n a) (spans_from (n + 1) bs) k)) (λ x k. there x (in_back x (agent_spans n a) (spans_from (n + 1) bs) (r.2 x k))) quiet)

      by : (t : Bool) → is_crowded groups a ≡ t → contentions (filter (is_crowded groups) bs) ≡ contentions bs → contentions (cond t (a ∷ filter (is_crowded groups) bs) (filter (is_crowded groups) bs)) ≡ contentions (a ∷ bs)
      by true e rest = ap₂ ◌++◌ (left_out (contention a) (is_crowded groups) bs (λ b m k. none b m (inr k))) rest
      by false e rest = rest ∙ sym (ap (λ ps. ps ++ contentions bs) (each_none (contention a) bs (each_from (λ b. contention a b ≡ []) bs (λ b m. none b m (inl e)))))

pub few_contended : (agents : List Agent) (spans : List Span) (groups : List ℕ) → IsPermutation (spans_from 0 agents) spans → IsNonDecreasingBy sort_key spans → AreApartBut groups spans → contentions (filter (is_crowded groups) agents) ≡ contentions agents
few_contended agents spans groups moved rising apart = pruned (spans_from 0 agents) spans moved rising groups apart 0 agents (λ x m. m)

-- ---- the spans of agents, one after the other

pub spans_push : (n : ℕ) (xs : List Agent) (a : Agent) → spans_from n (xs ++ a ∷ []) ≡ spans_from n xs ++ agent_spans (n + length xs) a
spans_push n [] a = let z : n ≡ n + 0 = omega arith in append-nil (agent_spans n a) ∙ ap (λ k. agent_spans k a) z
spans_push n (x ∷ xs) a = grind (arith, append_assoc, spans_push (n + 1) xs a)

pub spans_more : (xs : List Agent) (i : ℕ) (a d : Agent) → a ≡ get_or xs i d → i < length xs → spans_from 0 (take i xs) ++ agent_spans i a ≡ spans_from 0 (take (i + 1) xs)
spans_more xs i a d e h =
    let size : 0 + length (take i xs) ≡ i = taken xs i h in
    let next_taken : take (i + 1) xs ≡ take i xs ++ a ∷ [] = rw e (take_more xs i d h) in
    sym (ap (spans_from 0) next_taken ∙ spans_push 0 (take i xs) a ∙ ap (λ k. spans_from 0 (take i xs) ++ agent_spans k a) size)
  where
    taken : (xs : List Agent) (k : ℕ) → k < length xs → 0 + length (take k xs) ≡ k
    taken xs k l = simp length-take (omega (arith, l))
