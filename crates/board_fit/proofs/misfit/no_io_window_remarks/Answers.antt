use Rattle.board_fit.specs.Misfits.{no_io_window_remarks}
use Rattle.board_fit.proofs.misfit.no_io_window_remarks.Goals as goal

pub returns : goal.returns
unfolding no_io_window_remarks
returns c = rw (← c.endpoint.view_is, ← c.path_or_zero.ensures, ← c.first_bridge_blocking_io-bridge.ensures, ← c.deref.ensures.value) c.remarks_on_io_bars_if_blocked.ensures
