-- A board as firmware hands it over to guests. PCI Firmware Specification 3.0, chapter 3.5 (device state at
-- firmware/operating system handoff).
--     declared_cells d      the cells that a declaration has at reset, in a single-function device
--     HasDeclaredShape f      a function's cells differ from its declaration only in their values
--     IsHandoff s      a state of a lawful board of such functions
--     is_given w p      a guest of the world is assigned the function at a path
--     files_given b ps      the files at reset of the endpoints at these paths
--     with_given_reset w s      the handoff with each assigned function at reset, except for the bytes that guests have copies of
--     taken_over w s      this state with CONFIG_ADDRESS 0: the board that guests get
--     HasGivenAtReset w s      each assigned function is already at reset, with the same exception
use Rattle.std.specs.{Prelude.{List, ◌≡◌, Bool, false, if◌then◌else◌, Option, None, option_map, ⊤, IsTrue, IsFalse}, List.list_any}
use Rattle.lists.specs.Elements.{Each}
use Rattle.model_registers.specs.{Registers.{Place, File, cell_at}, Declarations.Endpoint, EndpointTable.endpoint_reset, BridgeTable.bridge_reset, OwnCopies.is_own, CopiedFiles.shape_of}
use Rattle.model_board.specs.{Paths.{Path, path_eq}, Board.{Decl, endpoint, bridge, Board}, State.{BoardFunction, State}}
use Rattle.model_findings.specs.Orderly.{IsStateOfBoard}
use Rattle.model_guests.specs.{World.{World, declared, given_paths}, AgreedBoard.with_files}

abbrev pub declared_cells : Decl → File
declared_cells (endpoint d) = endpoint_reset d false
declared_cells (bridge d) = bridge_reset d false

-- each cell is at its declared place, with its declared masks
abbrev pub HasDeclaredShape : BoardFunction → Type 0
HasDeclaredShape f = shape_of f.file ≡ shape_of (declared_cells f.decl)

pub record IsHandoff (s : State) : Type 0 where
  pub board : IsStateOfBoard s.functions
  pub shapes : Each HasDeclaredShape s.functions

-- ---- before any event

abbrev pub is_given : World → Path → Bool
is_given w p = list_any (λ q. path_eq q p) (given_paths w)

abbrev pub file_at_reset : Endpoint → File
file_at_reset d = endpoint_reset d false

abbrev pub files_given : Board → List Path → Path → Option File
files_given b ps p = if list_any (λ q. path_eq q p) ps then option_map file_at_reset (declared b p) else None

abbrev pub reset_files : World → Path → Option File
reset_files w p = files_given w.board (given_paths w) p

abbrev pub with_given_reset : World → State → State
with_given_reset w s = with_files (reset_files w) s

abbrev pub taken_over : World → State → State
taken_over w s = record (with_given_reset w s) { latch = 0 }

abbrev pub HoldsReset : Decl → File → Type 0
HoldsReset (endpoint d) file = (p : Place) → IsFalse (is_own p) → cell_at file p ≡ cell_at (file_at_reset d) p
HoldsReset (bridge d) file = ⊤

-- firmware may have written Command, base registers and functions in no slot, and no other register
abbrev pub HasGivenAtReset : World → State → Type 0
HasGivenAtReset w s = Each (λ f. IsTrue (is_given w f.path) → HoldsReset f.decl f.file) s.functions
