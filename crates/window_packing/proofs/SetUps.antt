-- Set-up end to end, over the definitions: what scan, sizing, placement and programming leave is a board that is ready, and a refusal
-- is the first broken rule.
use Rattle.std.{proofs.{Common.{◌≡◌, ◌⊎◌, inl, inr, ℕ, Bool, true, List, [], ◌∷◌, Some, None, refl, sym, ap, ◌∙◌, subst, arith, rules}, lemmas.Bool.le-leb}, specs.Prelude.{nat_le, count_by, IsTrue}}
use Rattle.model_registers.specs.{DeclarationRules.first_broken, Apertures.{IsLawfulApertures, Apertures}}
use Rattle.model_board.{specs.{Board.{Board, Row, is_bridge, IsBoard}, BusNumbers.Enumerates, Lawful.HasLawfulDecls, State.State, AtReset.board_at}, proofs.StateRows.state_rows}
use Rattle.model_set_up.{specs.{Pools.{Pool, io_pool, mem_pool, pref_pool, has_io_paths}, Placement.fits, Layout.{IsLawful, layout}, SetUp.{set_up_file, set_up_state}, SetUpWrites.{Plan, planned, placement_rules, set_up_rules}, FunctionTable.{TableRow, sized_table}, UniqueClaimant.CanBePlaced}, proofs.{LawfulPlacement.layout_is_lawful, UniqueClaimant.set_up_gives_unique_claimants}}
use Rattle.host_bridge.specs.HostState.{HostState}
use Rattle.bus_scan.specs.{declared.fault.Fault.{Fault, TheVariants.Memory}, Faults.number_of, SizedTables.IsTableOf}
use Rattle.window_packing.specs.{Plans.IsRefusal, Readies.{ReadyBoard, board_below, IsEnumerated, IsReady, OwnClaims}}

-- ---- rules

kept_first : (n : ℕ) (t : Bool) (rules : List (ℕ × Bool)) → first_broken ((n, t) ∷ rules) ≡ None → (t ≡ true) × (first_broken rules ≡ None)
kept_first n t rules h = grind arith

-- a lawful board that keeps the rules of placement can be placed
pub placeable : (b : Board) (a : Apertures) → IsBoard b → HasLawfulDecls b → IsLawfulApertures a → first_broken (placement_rules b a) ≡ None → CanBePlaced b a
placeable b a board lawful apertures h =
    let io = kept_first 202 (has_io_paths b) ((203, fits b a io_pool) ∷ (204, fits b a mem_pool) ∷ (205, fits b a pref_pool) ∷ []) h in
    let first = kept_first 203 (fits b a io_pool) ((204, fits b a mem_pool) ∷ (205, fits b a pref_pool) ∷ []) io.1 in
    let second = kept_first 204 (fits b a mem_pool) ((205, fits b a pref_pool) ∷ []) first.1 in
    let third = kept_first 205 (fits b a pref_pool) [] second.1 in
    record { places = board; declarations = lawful; apertures = apertures; io_paths = io.0; room = λ pool. room first.0 second.0 third.0 pool }
  where
    room : fits b a io_pool ≡ true → fits b a mem_pool ≡ true → fits b a pref_pool ≡ true → (pool : Pool) → IsTrue (fits b a pool)
    room x y z io_pool = x
    room x y z mem_pool = y
    room x y z pref_pool = z

all_kept : (b : Board) (a : Apertures) → has_io_paths b ≡ true → fits b a io_pool ≡ true → fits b a mem_pool ≡ true → fits b a pref_pool ≡ true → first_broken (placement_rules b a) ≡ None
all_kept b a ways io mem pref = rw (ways, io, mem, pref) refl

pub kept_placeable : (b : Board) (a : Apertures) → CanBePlaced b a → first_broken (placement_rules b a) ≡ None
kept_placeable b a h = all_kept b a h.io_paths (h.room io_pool) (h.room mem_pool) (h.room pref_pool)

pub rows_lawful : (b : Board) (a : Apertures) → CanBePlaced b a → IsLawful b a (layout b a)
rows_lawful b a h = layout_is_lawful b a h.places h.declarations h.room

pub rules_after_scan : (b : Board) (a : Apertures) → Enumerates b → first_broken (set_up_rules b a) ≡ first_broken (placement_rules b a)
rules_after_scan b a few = let e : nat_le (count_by (λ (r : Row). is_bridge r.decl) b) 255 ≡ true = le-leb _ _ few in rw e refl

-- ---- states

pub set_up_rows : (b : Board) (a : Apertures) → board_at (set_up_state b a).functions ≡ b
set_up_rows b a = state_rows b (set_up_file b a)

-- ---- ready

abbrev AreReady : Board → Apertures → State → List TableRow → Plan → Type 0
AreReady b a s t p = CanBePlaced b a × Enumerates b × (s ≡ set_up_state b a) × (t ≡ sized_table b) × (p ≡ planned b a)

pub is_ready : (b : Board) (a : Apertures) (r : ReadyBoard) → CanBePlaced b a → Enumerates b → r.host ≡ record { state = set_up_state b a; apertures = a } → r.table ≡ sized_table b → r.plan ≡ planned b a → IsReady r
is_ready b a r can few host table plan =
    let rows : board_below r.host ≡ b = ap board_below host ∙ set_up_rows b a in
    let same : r.host.apertures ≡ a = ap (λ (h : HostState). h.apertures) host in
    let whole : AreReady b a r.host.state r.table r.plan = (can, few, ap (λ (h : HostState). h.state) host, table, plan) in
    let P : Board → Type 0 = λ x. AreReady x a r.host.state r.table r.plan in
    let Q : Apertures → Type 0 = λ x. AreReady (board_below r.host) x r.host.state r.table r.plan in
    let facts = subst Q (sym same) (subst P (sym rows) whole) in
    grind (arith, placeable, rows_lawful)

pub own_claims : (r : ReadyBoard) → IsReady r → OwnClaims r.host
own_claims r ready fs same = grind (arith, set_up_gives_unique_claimants, placeable)

-- ---- from reset on

-- h is the host at reset, k the same host when it is enumerated, t the table of its functions, and a its apertures
module _ {h k : HostState} {t : List TableRow} (found : IsEnumerated h k t) {a : Apertures} (same : a ≡ k.apertures) where
  apertures_left : a ≡ h.apertures
  apertures_left = same ∙ ap (λ (x : HostState). x.apertures) found.host

  few : Enumerates (board_below h)
  few = subst Enumerates found.board found.table.few

  -- the table is that of the board at reset
  first_table : IsTableOf (board_below h) t
  first_table = subst (λ (x : Board). IsTableOf x t) found.board found.table

  pub refused_left : (f : Fault) → ((b : Board) → IsTableOf b t → IsRefusal b a f) → (f ≡ Memory) ⊎ (first_broken (set_up_rules (board_below h) h.apertures) ≡ Some (number_of f))
  refused_left f refused = by_cause (subst (λ (x : Apertures). IsRefusal (board_below h) x f) apertures_left (refused (board_below h) first_table))
    where
      by_cause : IsRefusal (board_below h) h.apertures f → (f ≡ Memory) ⊎ (first_broken (set_up_rules (board_below h) h.apertures) ≡ Some (number_of f))
      by_cause (inl e) = inl e
      by_cause (inr e) = inr (rules_after_scan (board_below h) h.apertures few ∙ e)

  module _ {p : Plan} (planned_so : (b : Board) → IsTableOf b t → p ≡ planned b a) (placeable_so : (b : Board) → IsTableOf b t → CanBePlaced b a) where
    pub placeable_left : CanBePlaced (board_below k) k.apertures
    placeable_left = subst (CanBePlaced (board_below k)) same (placeable_so (board_below k) found.table)

    pub plan_left : p ≡ planned (board_below k) k.apertures
    plan_left = planned_so (board_below k) found.table ∙ ap (planned (board_below k)) same

    pub kept_left : first_broken (set_up_rules (board_below h) h.apertures) ≡ None
    kept_left =
        rules_after_scan (board_below h) h.apertures few
        ∙ ap (λ (x : Apertures). first_broken (placement_rules (board_below h) x)) (sym apertures_left)
        ∙ kept_placeable (board_below h) a (placeable_so (board_below h) first_table)

    -- m is the host when it is programmed
    module _ {m : HostState} (left : m ≡ record k { state = set_up_state (board_below k) k.apertures }) where
      pub host_left : m ≡ record h { state = set_up_state (board_below h) h.apertures }
      host_left = grind arith

      pub board_left : board_below m ≡ board_below h
      board_left = ap board_below host_left ∙ set_up_rows (board_below h) h.apertures

      pub ready_left : IsReady (record { host = m; table = t; plan = p })
      ready_left = is_ready (board_below k) k.apertures (record { host = m; table = t; plan = p }) placeable_left found.table.few left found.table.sized plan_left
