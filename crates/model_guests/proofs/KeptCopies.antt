-- A device raises no bits of the registers of which a guest has copies; and a path finds the file of its slot.
use Rattle.std.proofs.Common.{arith, false, [], ◌∷◌, Some, Option, sym, ◌∙◌, subst}
use Rattle.model_registers.specs.{Registers.File, Decoding.Function, EndpointTable.endpoint_reset, CopiedFiles.shape_of}
use Rattle.model_board.specs.{Paths.Path, Board.Board, Lawful.HasLawfulDecls}
use Rattle.model_guests.{proofs.{CopiesNeverRise.{StaysLow, not_raised, reset_low, declared_lawful}, GuestsByName.function_named, SeatedMoves.seat_in, FoundFiles.file_found}, specs.{Guests.path_in, Seated.IsSeat, AgreedLaws.{CopiesNeverRise, FileOfSeat}}}

shape_low : (file : File) → StaysLow file → StaysLow (shape_of file)
shape_low [] h = tt
shape_low (e ∷ es) h = (h.0, shape_low es h.1)

low_shape : (file : File) → StaysLow (shape_of file) → StaysLow file
low_shape [] h = tt
low_shape (e ∷ es) h = (h.0, low_shape es h.1)

seat_low : (b : Board) → HasLawfulDecls b → (q : Option Path) (f : Function) → IsSeat b q (Some f) → StaysLow f.file
seat_low b decls q f h = grind (arith, declared_lawful b decls, low_shape f.file, shape_low (endpoint_reset f.decl false), reset_low f.decl)

pub copies_never_rise : CopiesNeverRise
copies_never_rise b decls s seated name n f is m p own =
    not_raised m p own f.file (seat_low b decls (path_in s name n) f (subst (IsSeat b (path_in s name n)) is (seat_in b s seated.guests name n)))

pub file_of_seat : FileOfSeat
file_of_seat b s seated name n p f at is = file_found s seated.names_apart seated.paths_apart name n p f at (sym (function_named s name n) ∙ is)
