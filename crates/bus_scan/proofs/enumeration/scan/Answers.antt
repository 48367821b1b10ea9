use Rattle.std.proofs.{Common.{◌≡◌, List, [], sym, ap, subst, refl, inl, ◌∙◌, arith}, lemmas.Result.err_from_is_err_and}
use Rattle.model_set_up.specs.{FunctionTable.{TableRow, scanned_table}, ScanOrder.on, Scanning.board_numbers}
use Rattle.model_board.specs.{AtReset.{board_at, IsAtReset}, State.State}
use Rattle.bus_scan.{specs.Scans.{IsAt, OnBus}, proofs.{FoundBoards.{same_board, numbered_board}, ScanSteps.{started, IsScanned, ended}}}
use Rattle.bus_scan.proofs.enumeration.scan.Goals as goal
use Rattle.bus_scan.proofs.enumeration.scan.Goals.{After-of}

whole : (s : State) → IsAtReset s → OnBus (board_at s.functions) [] 0
whole s at = record { board = at.board; declarations = at.declarations; there = inl refl; named = refl }

begun : (s : State) (rows : List TableRow) → IsAtReset s → rows ≡ [] → IsAt (board_at s.functions) (on [] 0) s rows 0
begun s rows at none = subst (λ (rows : List TableRow). IsAt (board_at s.functions) (on [] 0) s rows 0) (sym none) (started (board_at s.functions) at.board s at.registers)

pub returns-in_err-scan_bus-clause-refused : goal.returns-in_err-scan_bus-clause-refused
returns-in_err-scan_bus-clause-refused c = grind (arith, err_from_is_err_and, whole, begun)

pub returns-in_err-scan_bus-clause-board : goal.returns-in_err-scan_bus-clause-board
returns-in_err-scan_bus-clause-board c =
    let b = board_at c.args.host.now.state.functions in
    same_board b c.scan_bus.new.host.state (c.in_err-scan_bus.ensures.scanned b (whole c.args.host.now.state c.requires) (begun c.args.host.now.state c.new.result.items c.requires c.new.ensures.items)).registers

pub returns-in_err-scan_bus-clause-own : goal.returns-in_err-scan_bus-clause-own
returns-in_err-scan_bus-clause-own c = grind (arith, whole, begun)

-- what the scan leaves in the end
scanned : (c : After-of) → IsScanned (board_at c.args.host.now.state.functions) c.scan_bus.new.host.state c.scan_bus.new.self.rows.items
scanned c =
    let b = board_at c.args.host.now.state.functions in
    ended b c.requires.board c.scan_bus.new.host.state c.scan_bus.new.self.rows.items c.scan_bus.new.self.last
    (c.in_ok-scan_bus.ensures.scanned b (whole c.args.host.now.state c.requires) (begun c.args.host.now.state c.new.result.items c.requires c.new.ensures.items))

same : (c : After-of) → board_at c.scan_bus.new.host.state.functions ≡ board_at c.args.host.now.state.functions
same c = same_board _ c.scan_bus.new.host.state (board_numbers (board_at c.args.host.now.state.functions), (scanned c).state)

pub returns-clause-board : goal.returns-clause-board
returns-clause-board c = same c

pub returns-clause-table : goal.returns-clause-table
returns-clause-table c = c.of.ensures ∙ (scanned c).table ∙ ap scanned_table (sym (same c))

pub returns-clause-registers : goal.returns-clause-registers
returns-clause-registers c = let s = scanned c in numbered_board _ c.scan_bus.new.host.state c.requires.board c.requires.declarations s.few s.state

pub returns-clause-numbered : goal.returns-clause-numbered
returns-clause-numbered c = let s = scanned c in λ i. record { state = s.state i; apertures = c.scan_bus.ensures.kept i }

pub returns-clause-own : goal.returns-clause-own
returns-clause-own c = grind (arith, whole, begun, ended)
