-- In an orderly state no two open regions of one space share an address: where they stand on one bus, they are agents of
-- it; elsewhere the bridges that lead to them are.
use Rattle.std.{proofs.{Common.{◌≡◌, ℕ, ◌+◌, ◌≤◌, ◌<◌, true, false, ◌||◌, not, List, [], ◌∷◌, ◌++◌, length, refl, sym, ap, ◌∙◌, subst, arith}, lemmas.Bool.{Decides.nat_tests, leb-true}}, specs.Prelude.{map, IsTrue}}
use Rattle.lists.{proofs.{Members.{pairs_of_map, each_in, in_map, from_map, from_filter, in_flat_map, pairs_weaker, pairs_flat_map, all_in, pairs_of_part, pair_in}, EachLemmas.{each_from_map, pairs_from_map}, Tests.asked_true}, specs.Elements.{EachPair, IsIn}}
use Rattle.model_board.{proofs.{PathOrder.part_self, PathEnds.{path_self, parent_snoc, last_snoc, length_snoc, not_before_itself}}, specs.{Paths.{Part, Path, part_eq, path_before, is_ancestor_of, parent, IsPath}, Board.{Board, Row, Decl, endpoint, is_bridge}, State.{row_at, BoardFunction}, Routing.{RoutingRow, row_of, routing, row_forwards, is_routed}}}
use Rattle.model_registers.{specs.{Declarations.{Region, Endpoint}, Decoding.{Space, same_space, base_address}, Registers.File}, proofs.HitRegions.space_same}
use Rattle.model_set_up.{specs.{Extents.AreApart, PlacedRegions.{PlacedRegion, holds}, UniqueClaimant.ShareNone}, proofs.{Partings.{Meeting, Same, Above, Below, Parting, meet, leads_down, one_row, BridgeAt, bridge_above}, Holders.{is_held, self_space}}}
use Rattle.model_findings.{specs.{OpenRegions.{region_now, open_of, open_regions}, Agents.{Agent, region_agent, bridge_agent, agents_of, agents, answers}, Orderly.{IsForwarded, AreAlone, IsOrderly, IsStateOfBoard}}, proofs.Answering.{bridge_answers, region_answers}}

-- ---- where an open region comes from

pub record OpenOf (f : BoardFunction) (q : PlacedRegion) : Type 0 where
  pub decl : Endpoint
  pub decl_is : f.decl ≡ endpoint decl
  pub region : Region
  pub declared : IsIn region decl.regions
  pub is : q ≡ region_now f.path (base_address f.file region)

pub open_source : (p : Path) (d : Decl) (file : File) (q : PlacedRegion) → IsIn q (open_of (row_of (record { path = p; decl = d; file = file }))) → OpenOf (record { path = p; decl = d; file = file }) q
open_source p d file q m = grind (arith, d, from_filter, from_map)

-- ---- regions with bytes share an address, or are apart

apart_or_shared : (a b c d : ℕ) → 0 < b → 0 < d → ((n : ℕ) → a ≤ n → n < a + b → c ≤ n → n < c + d → ⊥) → AreApart a b c d
apart_or_shared a b c d h k none = grind (arith, leb-true, nat_tests)

module _ (fs : List BoardFunction) (state : IsStateOfBoard fs) (orderly : IsOrderly (routing fs)) where
  abbrev rows : List RoutingRow
  rows = routing fs

  abbrev b : Board
  b = map row_at fs

  sized : (f : BoardFunction) (q : PlacedRegion) → IsIn f fs → OpenOf f q → 0 < q.size
  sized f q m s = grind (arith, each_in, each_from_map)

  -- what the bridges above forward, and what holds an address, are agents of their buses
  record AgentOn (bus : Path) (x : Part) (space : Space) (n : ℕ) : Type 0 where
    agent : Agent
    there : IsIn agent (agents rows)
    path_is : agent.path ≡ bus ++ x ∷ []
    answers_it : answers space n agent ≡ true

  region_in : (p : Path) (d : Decl) (file : File) (q : PlacedRegion) → IsIn q (open_of (row_of (record { path = p; decl = d; file = file }))) → IsIn (region_agent q) (agents_of (row_of (record { path = p; decl = d; file = file })))
  region_in p d file q m = grind (arith, d, in_map)

  bridge_in : (p : Path) (d : Decl) (file : File) (space : Space) → is_bridge d ≡ true → IsIn (bridge_agent (row_of (record { path = p; decl = d; file = file })) space) (agents_of (row_of (record { path = p; decl = d; file = file })))
  bridge_in p d file space h = grind (arith, d)

  agent_on : (f : BoardFunction) (q : PlacedRegion) (n : ℕ) → IsIn f fs → IsIn q (open_of (row_of f)) → holds q.space n q ≡ true → (bus : Path) (x : Part) (ps : Path) → f.path ≡ bus ++ x ∷ ps → AgentOn bus x q.space n
  agent_on f q n m k h bus x [] e =
      let s : OpenOf f q = open_source f.path f.decl f.file q k in record {
        agent = region_agent q;
        there = in_flat_map agents_of (row_of f) (region_agent q) rows (in_map row_of f fs m) (region_in f.path f.decl f.file q k);
        path_is = ap (λ (y : PlacedRegion). y.path) s.is ∙ e;
        answers_it = region_answers q.space n q ∙ h;
      }
  agent_on f q n m k h bus x (z ∷ zs) e =
      of_bridge d.0 (from_map row_at d.0 fs d.1) d.2 d.3
    where
      s : OpenOf f q
      s = open_source f.path f.decl f.file q k

      leads : is_ancestor_of (bus ++ x ∷ []) f.path ≡ true
      leads = ap (is_ancestor_of (bus ++ x ∷ [])) e ∙ leads_down bus x z zs

      d : BridgeAt b state.places (bus ++ x ∷ [])
      d = bridge_above b state.places (row_at f) (bus ++ x ∷ []) (in_map row_at f fs m) leads (omega (arith, length_snoc bus x))

      routed : is_routed rows q.path q.space n ≡ true
      routed = each_in (IsForwarded rows) q (open_regions rows) orderly.forwarded (in_flat_map open_of (row_of f) q rows (in_map row_of f fs m) k) n h

      of_bridge : (r : Row) → (g : BoardFunction) × IsIn g fs × (r ≡ row_at g) → is_bridge r.decl ≡ true → r.path ≡ bus ++ x ∷ [] → AgentOn bus x q.space n
      of_bridge r (g, there, same) is at =
          let path : g.path ≡ bus ++ x ∷ [] = ap (λ (y : Row). y.path) (sym same) ∙ at in
          let is_one : is_bridge g.decl ≡ true = ap (λ (y : Row). is_bridge y.decl) (sym same) ∙ is in
          let q_path : q.path ≡ f.path = ap (λ (y : PlacedRegion). y.path) s.is in
          let over : is_ancestor_of g.path q.path ≡ true = ap (λ (y : Path). is_ancestor_of y q.path) path ∙ ap (is_ancestor_of (bus ++ x ∷ [])) q_path ∙ leads in
          let forwards : row_forwards q.space n (row_of g) ≡ true = asked_true (is_ancestor_of g.path q.path) (row_forwards q.space n (row_of g)) over (all_in (λ (y : RoutingRow). not (is_ancestor_of y.path q.path) || row_forwards q.space n y) (row_of g) rows routed (in_map row_of g fs there)) in
          record {
            agent = bridge_agent (row_of g) q.space;
            there = in_flat_map agents_of (row_of g) (bridge_agent (row_of g) q.space) rows (in_map row_of g fs there) (bridge_in g.path g.decl g.file q.space is_one);
            path_is = path;
            answers_it = bridge_answers q.space n (row_of g) ∙ forwards;
          }

  -- two agents that answer an address stand on different buses, unless they are one
  clash : (x y : Agent) (space : Space) (n : ℕ) → AreAlone x y → parent x.path ≡ parent y.path → answers space n x ≡ true → answers space n y ≡ true → ⊥
  clash x y space n alone bus h k = grind (arith, path_self)

  -- an endpoint leads nowhere
  not_above : (f g : BoardFunction) (q : PlacedRegion) → IsIn f fs → IsIn g fs → OpenOf f q → is_ancestor_of f.path g.path ≡ true → ⊥
  not_above f g q m k s h =
      let some : 0 < length f.path = (each_in (λ (r : Row). IsPath r.path) (row_at f) b state.places.paths (in_map row_at f fs m)).some in
      let d : BridgeAt b state.places f.path = bridge_above b state.places (row_at g) f.path (in_map row_at g fs k) h some in
      grind (arith, one_row, in_map)

  two_functions : (f g : BoardFunction) → IsIn f fs → IsIn g fs → IsTrue (path_before f.path g.path) → (q t : PlacedRegion) → IsIn q (open_of (row_of f)) → IsIn t (open_of (row_of g)) → ShareNone q t
  two_functions f g m k before q t l o same =
      apart_or_shared q.first q.size t.first t.size (sized f q m s) (sized g t k u) (λ n a c d e. by_paths (meet f.path g.path) n
      (is_held q.space n q (record { space_is = self_space q.space; from = a; below = c }))
      (is_held t.space n t (record { space_is = self_space t.space; from = d; below = e })))
    where
      s : OpenOf f q
      s = open_source f.path f.decl f.file q l

      u : OpenOf g t
      u = open_source g.path g.decl g.file t o

      by_agents : (n : ℕ) (bus : Path) (x y : Part) → part_eq x y ≡ false → AgentOn bus x q.space n → AgentOn bus y t.space n → ⊥
      by_agents n bus x y differ v w =
          grind (arith, pair_in AreAlone v.agent w.agent (agents rows), parent_snoc bus x, parent_snoc bus y, last_snoc bus x, last_snoc bus y, part_self x, clash v.agent w.agent q.space n, clash w.agent v.agent q.space n)

      by_paths : Meeting f.path g.path → (n : ℕ) → holds q.space n q ≡ true → holds t.space n t ≡ true → ⊥
      by_paths (Same e) n h i = not_before_itself g.path (subst (λ (p : Path). path_before p g.path ≡ true) e before)
      by_paths (Above e) n h i = not_above f g q m k s e
      by_paths (Below e) n h i = not_above g f t k m u e
      by_paths (Parting bus x y ps qs e j differ) n h i = by_agents n bus x y differ (agent_on f q n m l h bus x ps e) (agent_on g t n k o i bus y qs j)

  one_endpoint : (here : BoardFunction) → IsIn here fs → ((q : PlacedRegion) → IsIn q (open_of (row_of here)) → OpenOf here q) → agents_of (row_of here) ≡ map region_agent (open_of (row_of here)) → EachPair ShareNone (open_of (row_of here))
  one_endpoint here there from own =
      pairs_weaker (λ q t. AreAlone (region_agent q) (region_agent t)) ShareNone (open_of (row_of here))
      (pairs_from_map AreAlone region_agent (open_of (row_of here)) (subst (EachPair AreAlone) own (pairs_of_part AreAlone agents_of (row_of here) rows orderly.alone (in_map row_of here fs there))))
      (λ q t k l alone same. of_regions q t (from q k) (from t l) alone same)
    where
      of_regions : (q t : PlacedRegion) → OpenOf here q → OpenOf here t → AreAlone (region_agent q) (region_agent t) → IsTrue (same_space q.space t.space) → AreApart q.first q.size t.first t.size
      of_regions q t s u alone same =
          apart_or_shared q.first q.size t.first t.size (sized here q there s) (sized here t there u)
          (λ n a c d e. clash (region_agent q) (region_agent t) q.space n alone (ap (λ (x : PlacedRegion). parent x.path) s.is ∙ sym (ap (λ (x : PlacedRegion). parent x.path) u.is))
          (region_answers q.space n q ∙ is_held q.space n q (record { space_is = self_space q.space; from = a; below = c }))
          (region_answers q.space n t ∙ is_held q.space n t (record { space_is = subst (λ (z : Space). same_space t.space z ≡ true) (sym (space_same q.space t.space same)) (self_space t.space); from = d; below = e })))

  one_function : (f : BoardFunction) → IsIn f fs → (p : Path) (d : Decl) (file : File) → f ≡ record { path = p; decl = d; file = file } → EachPair ShareNone (open_of (row_of (record { path = p; decl = d; file = file })))
  one_function f m p d file e = grind (arith, d, one_endpoint, open_source)

  pub open_apart : EachPair ShareNone (open_regions rows)
  open_apart =
      pairs_flat_map (λ (r s : RoutingRow). IsTrue (path_before r.path s.path)) ShareNone open_of rows
      (pairs_of_map (λ (r s : RoutingRow). IsTrue (path_before r.path s.path)) row_of fs (pairs_from_map (λ (r s : Row). IsTrue (path_before r.path s.path)) row_at fs state.places.in_order))
      (λ r m. one r (from_map row_of r fs m))
      (λ r s m k before q t l o. two r s before q t l o (from_map row_of r fs m) (from_map row_of s fs k))
    where
      one : (r : RoutingRow) → (f : BoardFunction) × IsIn f fs × (r ≡ row_of f) → EachPair ShareNone (open_of r)
      one r (f, m, e) = subst (λ (x : RoutingRow). EachPair ShareNone (open_of x)) (sym e) (one_function f m f.path f.decl f.file refl)

      two : (r s : RoutingRow) → IsTrue (path_before r.path s.path) → (q t : PlacedRegion) → IsIn q (open_of r) → IsIn t (open_of s) → (f : BoardFunction) × IsIn f fs × (r ≡ row_of f) → (g : BoardFunction) × IsIn g fs × (s ≡ row_of g) → ShareNone q t
      two r s before q t l o (f, m, e) (g, k, h) = grind (arith, two_functions)
