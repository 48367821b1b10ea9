-- A plan that was made for what a table tells is the plan of every board with that table.
use Rattle.std.proofs.Common.{◌≡◌, List, [], None, map, sym, ap, ◌∙◌, subst, arith}
use Rattle.model_registers.specs.{DeclarationRules.first_broken, Apertures.{IsLawfulApertures, Apertures}}
use Rattle.model_board.specs.{Paths.Path, Board.{Board, IsBoard}, Lawful.HasLawfulDecls}
use Rattle.model_set_up.{specs.{Layout.IsLawful, SetUpWrites.{Plan, FunctionProgram, planned, placement_rules, settings}, FunctionTable.{TableRow, board_in}, UniqueClaimant.CanBePlaced, Pools.Pool, Placement.items_on}, proofs.FoundBoards.{board_in_table, on_bus, scan_finds_all_placement_needs}}
use Rattle.bus_scan.specs.{declared.fault.Fault.Fault, SizedTables.IsTableOf}
use Rattle.window_packing.{specs.{LayoutRows.{rows_of, AreListable}, Placed.{Placement, IsPlacement}, Plans.IsRefusal, Uses.{told_by, told_use}}, proofs.{LayoutRows.{layout_rows, are_listable, table_paths}, SetUps.{placeable, rows_lawful}}}

-- ---- the plan of what was found

module _ (rows : List TableRow) (board : IsBoard (board_in rows)) (lawful : HasLawfulDecls (board_in rows)) (a : Apertures) (ps : List Path) (paths : ps ≡ map (λ (r : TableRow). r.path) rows) (pl : Placement) (placed : IsPlacement (board_in rows) a pl) where
  pub listable_rows : AreListable ps pl
  listable_rows = subst (λ (qs : List Path). AreListable qs pl) (sym (paths ∙ table_paths rows)) (are_listable (board_in rows) a board lawful pl placed)

  pub planned_rows : (ss : List FunctionProgram) → ss ≡ settings (board_in rows) a → (p : Plan) → p ≡ record { rows = rows_of ps pl; settings = ss } → p ≡ planned (board_in rows) a
  planned_rows ss writes p e = grind (arith, table_paths, layout_rows)

-- ---- the plan of a board with this table

-- the rows that the program reads are the table
module _ (t rows : List TableRow) (same : rows ≡ t) (b : Board) (h : IsTableOf b t) (a : Apertures) where
  plan_same : planned (board_in rows) a ≡ planned b a
  plan_same = ap (λ (x : List TableRow). planned (board_in x) a) (same ∙ h.sized) ∙ (scan_finds_all_placement_needs b h.board h.declarations).plan a

  rules_same : placement_rules (board_in rows) a ≡ placement_rules b a
  rules_same = ap (λ (x : List TableRow). placement_rules (board_in x) a) (same ∙ h.sized) ∙ (scan_finds_all_placement_needs b h.board h.declarations).rules a

  items_same : (pool : Pool) (bus : Path) → items_on (board_in rows) a pool bus ≡ items_on b a pool bus
  items_same pool bus = ap (λ (x : List TableRow). items_on (board_in x) a pool bus) (same ∙ h.sized) ∙ ap (λ (x : Board). items_on x a pool bus) (board_in_table b) ∙ on_bus b a pool bus

  pub use_of : (pool : Pool) → told_use (board_in rows) a pool ≡ told_use b a pool
  use_of pool = ap (told_by a pool) (items_same pool [])

  pub refusal_of : (f : Fault) → IsRefusal (board_in rows) a f → IsRefusal b a f
  refusal_of f e = grind (arith, rules_same)

  pub plan_of : (p : Plan) → p ≡ planned (board_in rows) a → p ≡ planned b a
  plan_of p e = e ∙ plan_same

  module _ (apertures : IsLawfulApertures a) (kept : first_broken (placement_rules (board_in rows) a) ≡ None) where
    pub placeable_of : CanBePlaced b a
    placeable_of = placeable b a h.board h.declarations apertures (sym (ap first_broken rules_same) ∙ kept)

    pub lawful_of : (p : Plan) → p ≡ planned (board_in rows) a → IsLawful b a p.rows
    lawful_of p e = subst (λ (q : Plan). IsLawful b a q.rows) (sym (plan_of p e)) (rows_lawful b a placeable_of)
