use Rattle.std.{proofs.Common.{◌≡◌, ◌++◌, drop}, specs.List.{enumerate_from, flat_map}}
use Rattle.board_fit.specs.Misfits.{no_io_window_remarks}
use Rattle.board_fit.proofs.misfit.remarks_on_blocked_io.Given as goal

abbrev pub invariant-endpoints : goal.invariant-endpoints
invariant-endpoints l =
    l.remarks.items ++ flat_map (no_io_window_remarks l.file.bridges) (enumerate_from l.index (drop l.index l.file.endpoints))
    ≡ flat_map (no_io_window_remarks l.file.bridges) (enumerate_from 0 l.file.endpoints)
