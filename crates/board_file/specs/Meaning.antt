-- The meaning of a board file: a board with its apertures and guests, or the number of the first check that fails.
--     file_checks, order      the checks except that of cell masks, in the order in which they are made: without the checks
--         of keys, and with them
--     check ms f, early_checks ms, checks ms      no entry breaks a rule with this fault; these checks in order, and all
--         checks
--     world_in      a host and guests as a world
--     world_of, meaning      the world that a file declares; that world, if all checks hold
--     document_meaning      the meaning of a document, if it is TOML
use Rattle.std.specs.Prelude.{ℕ, Bool, List, [], ◌∷◌, ◌++◌, map, Option, Some, None, Result, Ok, Err}
use Rattle.toml.specs.Data.{Members}
use Rattle.model_registers.specs.DeclarationRules.{first_broken}
use Rattle.model_board.specs.{Places.board_of, AtReset.board_at}
use Rattle.model_guests.specs.World.{Guest, World}
use Rattle.host_bridge.specs.HostState.{HostState}
use Rattle.board_file.specs.{Entries.{File, file}, Functions.{rows, apertures, guests}, Faults.number_of, Problems.none, KeyProblems.problems_of, declared.fault.BoardFault.BoardFault}
use Rattle.board_file.specs.declared.fault.BoardFault.TheVariants as fault

-- those of what a file says
abbrev pub file_checks : List BoardFault
file_checks =
    fault.Number ∷ fault.TooMany ∷ fault.Place ∷ fault.Register ∷ fault.Size ∷ fault.GuestName ∷ fault.Slot ∷ fault.Aperture
    ∷ []

-- the checks but for that of patterns, in the order in which they are made: patterns are judged last, since their lengths go by
-- those of blocks
abbrev pub order : List BoardFault
order = fault.Key ∷ fault.UnknownKey ∷ file_checks

abbrev pub check : Members → BoardFault → ℕ × Bool
check ms f = (number_of f, none (problems_of ms f))

abbrev pub early_checks : Members → List (ℕ × Bool)
early_checks ms = map (check ms) order

abbrev pub checks : Members → List (ℕ × Bool)
checks ms = early_checks ms ++ check ms fault.CellMasks ∷ []

abbrev pub world_of : File → World
world_of f = record { board = board_of (rows f); apertures = apertures f; guests = guests f }

-- a host and guests that are declared
abbrev pub world_in : HostState → List Guest → World
world_in h guests = record { board = board_at h.state.functions; apertures = h.apertures; guests = guests }

-- the value, unless a check failed
abbrev pub unless : {A : Type 0} → Option ℕ → A → Result A ℕ
unless None x = Ok x
unless (Some n) x = Err n

abbrev pub meaning : Members → Result World ℕ
meaning ms = unless (first_broken (checks ms)) (world_of (file ms))

abbrev pub document_meaning : Option Members → Result World ℕ
document_meaning None = Err 101
document_meaning (Some ms) = meaning ms
