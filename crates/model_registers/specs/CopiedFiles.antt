-- A function's register file as the guest has it and as the board has it, and the parts they share.
--     places_of, shape_of      the places of a file; its cells without their values
--     agreed_file left own      the board's file: the handoff's cells where the guest has copies, and the guest's cells elsewhere
--     with_copies copies file      a file with the copies replacing the cells at their places
--     after_reset d file      the board's file of a function at reset, except for the bytes that guests have copies of
use Rattle.std.specs.Prelude.{List, if◌then◌else◌, map, false}
use Rattle.model_registers.specs.{Registers.{Place, PlacedCell, File, cell_at}, Declarations.Endpoint, EndpointTable.endpoint_reset, OwnCopies.is_own}

abbrev pub places_of : File → List Place
places_of file = map (λ e. e.place) file

-- the masks of each cell stay the same
abbrev pub shape_of : File → File
shape_of file = map (λ (e : PlacedCell). record e { cell = record e.cell { value = 0 } }) file

abbrev pub agreed_file : File → File → File
agreed_file left own = map (λ (e : PlacedCell). if is_own e.place then e else record e { cell = cell_at own e.place }) left

abbrev pub copied : File → PlacedCell → PlacedCell
copied copies e = if is_own e.place then record e { cell = cell_at copies e.place } else e

abbrev pub with_copies : File → File → File
with_copies copies file = map (copied copies) file

abbrev pub after_reset : Endpoint → File → File
after_reset d file = agreed_file file (endpoint_reset d false)
