-- What stands above each function of a board, row by row.
use Rattle.std.{proofs.{Common.{◌≡◌, ℕ, suc, ◌≤◌, ◌<◌, ◌⊎◌, inl, inr, Bool, true, ◌&&◌, [], ◌∷◌, ◌++◌, length, Some, refl, sym, ap, ◌∙◌, subst, arith}, lemmas.{Option.slice_get_within, Bool.and_parts}}, specs.{Prelude.filter, List.{list_all, slice_get}}}
use Rattle.lists.{proofs.{Tests.{and_true, same_test}, Members.{each_in, from_flat_map, in_flat_map, from_filter, in_filter, all_in, all_from}, Indices.index_in}, specs.Elements.IsIn}
use Rattle.model_registers.specs.Declarations.{Bridge}
use Rattle.model_board.{specs.{Paths.{Path, is_ancestor_of, parent, last_part, IsPath}, Board.{Decl, Row, Board, IsBoard}}, proofs.{PathEnds.{snoc, leads_up, leads_self, leads_trans}, Rows.same_row}}
use Rattle.model_set_up.specs.Pools.{bridge_of, bridges_above, has_io, has_pref, has_pref64}
use Rattle.window_packing.specs.{declared.upstream_windows.UpstreamSupport.UpstreamSupport, Buses.{bus_path, nothing_above, behind}}

-- ---- one row

-- the bus of a path, and what the bridges above it have
pub record Tells (b : Board) (p : Path) (x : UpstreamSupport) : Type 0 where
  pub bus : bus_path b x.bus ≡ parent p
  pub within : x.bus ≤ length b
  pub io : x.io ≡ list_all (λ d. has_io d.io) (bridges_above b p)
  pub pref : x.pref ≡ list_all (λ d. has_pref d.pref) (bridges_above b p)
  pub pref64 : x.pref64 ≡ list_all (λ d. has_pref64 d.pref) (bridges_above b p)

-- ---- what all bridges above a path have

-- a bridge above a path is that of a row
record IsOver (b : Board) (p : Path) (d : Bridge) : Type 0 where
  row : Row
  there : IsIn row b
  leads : is_ancestor_of row.path p ≡ true
  own : IsIn d (bridge_of row)

over_from : (b : Board) (p : Path) (d : Bridge) → IsIn d (bridges_above b p) → IsOver b p d
over_from b p d m = grind (arith, from_flat_map, from_filter)

over_in : (b : Board) (p : Path) (d : Bridge) (r : Row) → IsIn r b → is_ancestor_of r.path p ≡ true → IsIn d (bridge_of r) → IsIn d (bridges_above b p)
over_in b p d r m h k = in_flat_map bridge_of r d (filter (λ (r : Row). is_ancestor_of r.path p) b) (in_filter (λ (r : Row). is_ancestor_of r.path p) r b m h) k

-- a path of the board is some
pub some_path : (b : Board) → IsBoard b → (r : Row) → IsIn r b → 0 < length r.path
some_path b board r m = (each_in (λ (x : Row). IsPath x.path) r b board.paths m).some

module _ (b : Board) (board : IsBoard b) (t : Bridge → Bool) where
  none_over_root : (p : Path) → 0 < length p → parent p ≡ [] → list_all t (bridges_above b p) ≡ true
  none_over_root p some up = all_from t (bridges_above b p) (λ d m. absurd (none d (over_from b p d m)))
    where
      split : p ≡ [] ++ last_part p ∷ []
      split = snoc p some ∙ ap (λ (x : Path). x ++ last_part p ∷ []) up

      no_root : (q : Path) → 0 < length q → (q ≡ []) ⊎ (is_ancestor_of q [] ≡ true) → ⊥
      no_root [] h k = absurd (omega arith)
      no_root (x ∷ q) h (inl e) = cc
      no_root (x ∷ q) h (inr e) = cc

      none : (d : Bridge) → IsOver b p d → ⊥
      none d o = no_root o.row.path (some_path b board o.row o.there) (leads_up o.row.path [] (last_part p) (subst (λ (x : Path). is_ancestor_of o.row.path x ≡ true) split o.leads))

  all_behind : (r : Row) → IsIn r b → (p : Path) → 0 < length p → parent p ≡ r.path → list_all t (bridges_above b p) ≡ (list_all t (bridges_above b r.path) && list_all t (bridge_of r))
  all_behind r there p some up = same_test (list_all t (bridges_above b p)) (list_all t (bridges_above b r.path) && list_all t (bridge_of r)) down back
    where
      split : p ≡ r.path ++ last_part p ∷ []
      split = snoc p some ∙ ap (λ (x : Path). x ++ last_part p ∷ []) up

      leads : is_ancestor_of r.path p ≡ true
      leads = subst (λ (x : Path). is_ancestor_of r.path x ≡ true) (sym split) (leads_self r.path (last_part p))

      down : list_all t (bridges_above b p) ≡ true → (list_all t (bridges_above b r.path) && list_all t (bridge_of r)) ≡ true
      down h =
          let own : list_all t (bridge_of r) ≡ true = all_from t (bridge_of r) (λ d m. all_in t d (bridges_above b p) h (over_in b p d r there leads m)) in
          let rest : list_all t (bridges_above b r.path) ≡ true = all_from t (bridges_above b r.path) (λ d m.
          let o = over_from b r.path d m in
          all_in t d (bridges_above b p) h (over_in b p d o.row o.there (leads_trans o.row.path r.path p o.leads leads) o.own)) in
          rw (own, rest)

      back : (list_all t (bridges_above b r.path) && list_all t (bridge_of r)) ≡ true → list_all t (bridges_above b p) ≡ true
      back h =
          let k = and_parts (list_all t (bridges_above b r.path)) (list_all t (bridge_of r)) h in
          all_from t (bridges_above b p) (λ d m. of_row k.0 k.1 d (over_from b p d m))
        where
          by_place : list_all t (bridges_above b r.path) ≡ true → list_all t (bridge_of r) ≡ true → (d : Bridge) → (o : IsOver b p d) → (o.row.path ≡ r.path) ⊎ (is_ancestor_of o.row.path r.path ≡ true) → t d ≡ true
          by_place rest own d o (inl e) = all_in t d (bridge_of r) own (subst (λ (x : Row). IsIn d (bridge_of x)) (same_row b board o.row r o.there there e) o.own)
          by_place rest own d o (inr k) = all_in t d (bridges_above b r.path) rest (over_in b r.path d o.row o.there k o.own)

          of_row : list_all t (bridges_above b r.path) ≡ true → list_all t (bridge_of r) ≡ true → (d : Bridge) → IsOver b p d → t d ≡ true
          of_row rest own d o = by_place rest own d o (leads_up o.row.path r.path (last_part p) (subst (λ (x : Path). is_ancestor_of o.row.path x ≡ true) split o.leads))

-- ---- the next row

pub tells_root : (b : Board) → IsBoard b → (p : Path) → 0 < length p → parent p ≡ [] → Tells b p nothing_above
tells_root b board p some up = grind (arith, none_over_root)

pub tells_behind : (b : Board) → IsBoard b → (n : ℕ) (r : Row) → slice_get b n ≡ Some r → (p : Path) → 0 < length p → parent p ≡ r.path → (up : UpstreamSupport) → Tells b r.path up → Tells b p (behind (suc n) r.decl up)
tells_behind b board n r e p some at up tells = by_decl r.decl refl
  where
    there : IsIn r b
    there = index_in b n r e

    below : suc n ≤ length b
    below = let w = slice_get_within b n r e in omega (arith, w)

    step : (t : Bridge → Bool) → list_all t (bridges_above b p) ≡ (list_all t (bridges_above b r.path) && list_all t (bridge_of r))
    step t = all_behind b board t r there p some at

    by_decl : (d : Decl) → r.decl ≡ d → Tells b p (behind (suc n) d up)
    by_decl d f = grind (arith, below, step, and_true)
