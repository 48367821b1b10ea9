-- A row with what is declared of a bridge says of it what its registers say.
use Rattle.std.{proofs.{Common.{arith, ◌≡◌, ℕ, ◌∷◌, Option, Some, None, refl, sym, ap₂, append-nil}, lemmas.Option.slice_get-map}, specs.{Prelude.{List, ◌++◌, ◌&&◌, [], slice_get}, Option.option_to_list}}
use Rattle.model_registers.specs.Decoding.{Space}
use Rattle.model_board.{specs.{Paths.Path, State.BoardFunction, Routing.{RoutingRow, row_of, routing, row_forwards, is_routed}}, proofs.Routing.forwarded_by_routing}
use Rattle.model_lines.{specs.Why.{blocking_cause, blockers, reaches_and_forwards}, proofs.Why.by_row}
use Rattle.bridge_forward.specs.{RoutingRows.{secondary_of, secondary_bus_nth}, BridgeDecls.{declared_bridge, declared_bridge_nth}}
use Rattle.findings.specs.WhyByRows.{row_stop, row_forwarder, forwarders_among}

stop_by_row : (space : Space) (n : ℕ) (p : Path) (f : BoardFunction) → row_stop space n p (declared_bridge f.decl) (row_of f) ≡ blocking_cause space n p f
stop_by_row space n p f = grind arith

alone : {B : Type 0} (o : Option B) → option_to_list o ≡ option_to_list o ++ []
alone None = refl
alone (Some x) = refl

pub stop_at : (fs : List BoardFunction) (rows : List RoutingRow) (space : Space) (n : ℕ) (p : Path) (i : ℕ) (r : RoutingRow) → rows ≡ routing fs → slice_get rows i ≡ Some r
    → option_to_list (row_stop space n p (declared_bridge_nth fs i) r) ≡ blockers (option_to_list (slice_get fs i)) space n p
stop_at fs rows space n p i r e there = grind (arith, slice_get-map, stop_by_row, alone)

-- ---- a bridge that forwards

module _ (fs : List BoardFunction) (space : Space) (n : ℕ) where
  routed_is : (f : BoardFunction) → (row_forwards space n (row_of f) && is_routed (routing fs) f.path space n) ≡ reaches_and_forwards fs space n f
  routed_is f = ap₂ ◌&&◌ (by_row space n f) (sym (forwarded_by_routing fs f.path space n))

  one_forwarder : (f : BoardFunction) → forwarders_among fs space n (f ∷ []) ≡ row_forwarder space n (routing fs) (secondary_of f.decl f.file) (row_of f)
  one_forwarder f = grind (arith, append-nil, routed_is)

  pub forwarder_at : (rows : List RoutingRow) (i : ℕ) (r : RoutingRow) → rows ≡ routing fs → slice_get rows i ≡ Some r
      → row_forwarder space n rows (secondary_bus_nth fs i) r ≡ forwarders_among fs space n (option_to_list (slice_get fs i))
  forwarder_at rows i r e there = grind (arith, slice_get-map, one_forwarder)
