-- What a scan finds, and the state after set-up, don't depend on bit 7 of the header type in functions 1 to 7. Software
-- looks at this bit in function 0 of a device only: PCI Local Bus 3.0, chapter 6.2.1.
--     with_multifunction g b      the board b whose functions declare the bit as g says
--     cell_in fs p q      the cell at the place q of the function at the path p
--     HasSameCells      two states are the same, except for this bit in functions 1 to 7
--     IsSetUpAlike b c      the board c is lawful, and scan, sizing, placement and set-up do with it what they do with b
--     OnlyBitOfFunction0Matters      all choices of the bit are alike
use Rattle.std.specs.Prelude.{List, [], ◌∷◌, ◌≡◌, ◌%◌, Bool, IsFalse, if◌then◌else◌, map}
use Rattle.model_registers.specs.{Cell.{Cell, no_cell}, Registers.{Place, config, place_eq, cell_at}, Apertures.Apertures}
use Rattle.model_board.specs.{Paths.{Path, path_eq, last_part}, Board.{Decl, endpoint, bridge, Row, Board, IsBoard}, State.{BoardFunction, State}, Lawful.HasLawfulDecls}
use Rattle.model_set_up.specs.{FunctionTable.{scanned_table, sized_table}, SetUp.set_up_state, SetUpWrites.{planned, set_up_rules}}

abbrev pub declaring : Bool → Decl → Decl
declaring flag (endpoint d) = endpoint (record d { multifunction = flag })
declaring flag (bridge d) = bridge (record d { multifunction = flag })

abbrev pub with_multifunction : (Path → Bool) → Board → Board
with_multifunction g b = map (λ (r : Row). record { path = r.path; decl = declaring (g r.path) r.decl }) b

abbrev pub header_type_place : Place
header_type_place = config 0x0e

abbrev pub cell_in : List BoardFunction → Path → Place → Cell
cell_in [] p q = no_cell
cell_in (f ∷ fs) p q = if path_eq f.path p then cell_at f.file q else cell_in fs p q

pub record HasSameCells (s t : State) : Type 0 where
  pub paths : map (λ (f : BoardFunction). f.path) s.functions ≡ map (λ (f : BoardFunction). f.path) t.functions
  pub latch : s.latch ≡ t.latch
  pub elsewhere : (p : Path) (q : Place) → IsFalse (place_eq q header_type_place)
      → cell_in s.functions p q ≡ cell_in t.functions p q
  pub function_0 : (p : Path) → (last_part p).function ≡ 0
      → cell_in s.functions p header_type_place ≡ cell_in t.functions p header_type_place
  -- bits 0 to 6, which encode the layout of the header
  pub layouts : (p : Path)
      → (cell_in s.functions p header_type_place).value % 0x80 ≡ (cell_in t.functions p header_type_place).value % 0x80

pub record IsSetUpAlike (b c : Board) : Type 0 where
  pub board : IsBoard c
  pub declarations : HasLawfulDecls c
  pub scanned : scanned_table c ≡ scanned_table b
  pub sized : sized_table c ≡ sized_table b
  pub plan : (a : Apertures) → planned c a ≡ planned b a
  pub rules : (a : Apertures) → set_up_rules c a ≡ set_up_rules b a
  pub cells : (a : Apertures) → HasSameCells (set_up_state c a) (set_up_state b a)

abbrev pub OnlyBitOfFunction0Matters : Type 0
OnlyBitOfFunction0Matters = (b : Board) → IsBoard b → HasLawfulDecls b → (g : Path → Bool)
    → IsSetUpAlike b (with_multifunction g b)
