-- The addresses that a bridge forwards: PCI-to-PCI Bridge Architecture 1.2, chapter 4.
--     is_in, in_windows      a window, or one of a bridge's three windows, contains an address
--     is_in_window      a window in the space contains an address
--     forwards      a bridge forwards an address
use Rattle.std.specs.Prelude.{ℕ, Bool, false, ◌&&◌, ◌||◌, nat_le, Option, Some, None}
use Rattle.model_registers.specs.{Registers.File, Declarations.Bridge, Decoding.{Space, io, memory, is_open}}
use Rattle.model_board.specs.{Board.{endpoint, bridge}, State.BoardFunction}
pub use Rattle.model_registers.specs.Windows.{Window, window, window_bits, io_window, mem_window, pref_window}

abbrev pub is_in : ℕ → Option Window → Bool
is_in a None = false
is_in a (Some w) = nat_le w.first a && nat_le a w.last

-- an I/O address in the I/O window, or a memory address in one of the other two windows
abbrev pub in_windows : Option Window → Option Window → Option Window → Space → ℕ → Bool
in_windows wio wmem wpref io a = is_in a wio
in_windows wio wmem wpref memory a = is_in a wmem || is_in a wpref

abbrev pub is_in_window : Bridge → File → Space → ℕ → Bool
is_in_window d file space a = in_windows (io_window d.io file) (mem_window file) (pref_window d.pref file) space a

-- a bridge forwards an address if its Command enables the space and a window contains the address
abbrev pub forwards : Space → ℕ → BoardFunction → Bool
forwards space a f = elim f.decl [
  | endpoint d ↦ false
  | bridge d ↦ is_open f.file space && is_in_window d f.file space a
]
