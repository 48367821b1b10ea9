-- A board that is set up: PCI Local Bus 3.0, chapter 6.2.5; PCI-to-PCI Bridge Architecture 1.2, chapters 3.2.5
-- and 4.
--     ReadyBoard      a host, the table of its functions, and the addresses of their regions and windows
--     board_below      the functions below a host
--     IsEnumerated      what scan and sizing leave of a host at reset: its bus numbers, and its functions in a table
--     IsReady      registers, table and plan are those that set-up gives to the board, and the plan's rows are a lawful
--         layout
--     OwnClaims      in every state with these routing registers each byte of a placed region has its own claim, and no
--         other address any
use Rattle.std.specs.Prelude.{List, ◌≡◌}
use Rattle.model_board.specs.{Board.Board, BusNumbers.Enumerates, State.BoardFunction, AtReset.board_at, Routing.routing}
use Rattle.model_set_up.specs.{Scanning.{IsNumbered, numbered_state}, FunctionTable.{TableRow, sized_table, board_in}, Layout.IsLawful, SetUp.set_up_state, SetUpWrites.{Plan, planned}, UniqueClaimant.{CanBePlaced, HasUniqueClaims}}
use Rattle.host_bridge.specs.HostState.{HostState}
use Rattle.bus_scan.specs.SizedTables.{IsTableOf}

pub record ReadyBoard : Type 0 where
  pub host : HostState
  pub table : List TableRow
  pub plan : Plan

abbrev pub board_below : HostState → Board
board_below h = board_at h.state.functions

-- h is at reset, k is that host after enumeration, and t is the table of its functions
pub record IsEnumerated (h k : HostState) (t : List TableRow) : Type 0 where
  pub host : k ≡ record h { state = numbered_state (board_below h) }
  pub board : board_below k ≡ board_below h
  pub registers : IsNumbered k.state
  pub table : IsTableOf (board_below k) t
  pub found : IsTableOf (board_in t) t

pub record IsReady (r : ReadyBoard) : Type 0 where
  pub placeable : CanBePlaced (board_below r.host) r.host.apertures
  pub few : Enumerates (board_below r.host)
  pub registers : r.host.state ≡ set_up_state (board_below r.host) r.host.apertures
  pub table : r.table ≡ sized_table (board_below r.host)
  pub plan : r.plan ≡ planned (board_below r.host) r.host.apertures
  pub lawful : IsLawful (board_below r.host) r.host.apertures r.plan.rows

-- in every state with the host's routing registers: each function's Command, and its bases or windows
abbrev pub OwnClaims : HostState → Type 0
OwnClaims h = (fs : List BoardFunction) → routing fs ≡ routing h.state.functions →
    HasUniqueClaims (board_below h) h.apertures fs
