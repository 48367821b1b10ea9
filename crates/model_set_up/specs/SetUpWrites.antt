-- The values that set-up writes into a board's functions, and the reasons for refusing a board: PCI Local Bus 3.0, chapters
-- 6.2.2 and 6.2.5; PCI-to-PCI Bridge Architecture 1.2, chapter 3.2.5.
--     RegisterValues, FunctionProgram      the Command and bases of an endpoint, or the windows of a bridge; these with the function's BDF
--     settings      the values for each function of a board, in path order
--     Plan, planned      the rows of the compact placement, and these values
--     placement_rules, set_up_rules      the rules that a board must follow, in order, each with the number of its refusal
use Rattle.std.specs.Prelude.{List, [], ◌∷◌, ℕ, Bool, map}
use Rattle.model_registers.specs.{Declarations.Region, EndpointTable.BaseAddress, Apertures.Apertures}
use Rattle.model_board.specs.{Paths.Path, Board.{Decl, endpoint, bridge, Row, Board}, BusNumbers.numbers_suffice, Cycles.BusAddress}
use Rattle.model_set_up.specs.{Reach.address_of, Pools.{io_pool, mem_pool, pref_pool, has_io_paths}, Placement.fits, Layout.{LayoutRow, layout}, SetUp.{first_of, command_of}}
pub use Rattle.model_set_up.specs.SetUp.{Windows, windows_of}

pub data RegisterValues : Type 0 where
  to_endpoint : ℕ → List BaseAddress → RegisterValues
  to_bridge : Windows → RegisterValues

pub record FunctionProgram : Type 0 where
  pub at : BusAddress
  pub writes : RegisterValues

abbrev pub placed_base : Board → Apertures → Path → Region → BaseAddress
placed_base b a p r = record { index = r.index; kind = r.kind; size = r.size; base = first_of b a p r }

abbrev pub writes_of : Board → Apertures → Path → Decl → RegisterValues
writes_of b a p (endpoint d) = to_endpoint (command_of d) (map (placed_base b a p) d.regions)
writes_of b a p (bridge d) = to_bridge (windows_of b a p)

abbrev pub settings : Board → Apertures → List FunctionProgram
settings b a = map (λ (r : Row). record { at = address_of b r.path; writes = writes_of b a r.path r.decl }) b

pub record Plan : Type 0 where
  pub rows : List LayoutRow
  pub settings : List FunctionProgram

abbrev pub planned : Board → Apertures → Plan
planned b a = record { rows = layout b a; settings = settings b a }

-- the numbers of the refusals for the board in a board file
abbrev pub placement_rules : Board → Apertures → List (ℕ × Bool)
placement_rules b a =
    (202, has_io_paths b) ∷ (203, fits b a io_pool) ∷ (204, fits b a mem_pool) ∷ (205, fits b a pref_pool) ∷ []

abbrev pub set_up_rules : Board → Apertures → List (ℕ × Bool)
set_up_rules b a = (201, numbers_suffice b) ∷ placement_rules b a
