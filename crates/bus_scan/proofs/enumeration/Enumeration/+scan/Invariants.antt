use Rattle.std.proofs.Common.{◌≡◌, ◌+◌, ◌-◌, ◌*◌, ◌≤◌, length}
use Rattle.model_board.specs.{Paths.devfn_count, Board.Board}
use Rattle.model_set_up.specs.ScanOrder.{on}
use Rattle.bus_scan.specs.Scans.{OnBus, IsAt}
use Rattle.bus_scan.proofs.enumeration.Enumeration.+scan.Given as goal

abbrev pub decreases-scan_bridge : goal.decreases-scan_bridge
decreases-scan_bridge l = 3 * (17 - length l.path)

abbrev pub decreases-scan_bus : goal.decreases-scan_bus
decreases-scan_bus l = 3 * (16 - length l.bus.now) + 2

abbrev pub decreases-scan_and_next_devfn : goal.decreases-scan_and_next_devfn
decreases-scan_and_next_devfn l = 3 * (16 - length l.bus.now) + 1

abbrev pub invariant-scan_bus-loop-n : goal.invariant-scan_bus-loop-n
invariant-scan_bus-loop-n l = record {
  within : l.n ≤ devfn_count;
  kept : l.host.apertures ≡ l.fn.host.apertures;
  rows : length l.fn.self.rows.items ≤ length l.self.rows.items;
  scanned : (b : Board) → OnBus b l.bus l.number → IsAt b (on l.bus 0) l.fn.host.state l.fn.self.rows.items l.fn.self.last → IsAt b (on l.bus l.n) l.host.state l.self.rows.items l.self.last;
}

abbrev pub decreases-scan_bus-loop-n : goal.decreases-scan_bus-loop-n
decreases-scan_bus-loop-n l = devfn_count - l.n
