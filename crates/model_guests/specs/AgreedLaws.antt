-- When a state of the board agrees with the current guests.
--     HoldsFile, AgreesAt, AgreesAtEach, Agrees      the definition cell by cell, without constructing the state
--     ShowsFile      for each byte that a guest has no copy of, the board holds the guest's value
--     CopiesNeverRise      no device raises bits in the registers that a guest has copies of
--     FileOfSeat      the file found for a path is that of the slot with the path
use Rattle.std.specs.Prelude.{List, [], ◌∷◌, ◌≡◌, ℕ, Bool, Option, Some, ⊤, IsTrue, IsFalse, MatchOption}
use Rattle.model_registers.specs.{Registers.{Place, File, cell_at, read, raise}, OwnCopies.{is_own, forwarded_byte_enables}, Decoding.Function, CopiedFiles.{places_of, agreed_file}}
use Rattle.model_board.specs.{Paths.Path, Board.Board, Lawful.HasLawfulDecls, State.{BoardFunction, State}}
use Rattle.model_guests.specs.{Text.Text, Guests.{GuestsNow, path_in, function_in, file_of}, Seated.AreSeated}

-- the file `left` is the handoff's, `own` the guest's, and `now` the board's: the registers that the guest has copies of
-- are as in the handoff's, and every other place is as in the guest's
pub record HoldsFile (left own now : File) : Type 0 where
  pub places : places_of now ≡ places_of left
  pub kept : (p : Place) → IsTrue (is_own p) → cell_at now p ≡ cell_at left p
  pub common : (p : Place) → IsFalse (is_own p) → cell_at now p ≡ cell_at own p

-- the function is `left` in the handoff and `now` on the board; if no guest has it, it is unchanged
pub record AgreesAt (left : BoardFunction) (own : Option File) (now : BoardFunction) : Type 0 where
  pub path : now.path ≡ left.path
  pub decl : now.decl ≡ left.decl
  pub cells : MatchOption own (now.file ≡ left.file) (λ file. HoldsFile left.file file now.file)

-- the same functions in the same order
abbrev pub AgreesAtEach : (Path → Option File) → List BoardFunction → List BoardFunction → Type 0
AgreesAtEach files [] [] = ⊤
AgreesAtEach files [] (n ∷ ns) = ⊥
AgreesAtEach files (l ∷ ls) [] = ⊥
AgreesAtEach files (l ∷ ls) (n ∷ ns) = AgreesAt l (files l.path) n × AgreesAtEach files ls ns

-- the handoff is the first state, and the board is now the second
pub record Agrees (s : State) (gs : GuestsNow) (now : State) : Type 0 where
  pub functions : AgreesAtEach (file_of gs) s.functions now.functions
  pub latch : now.latch ≡ s.latch

-- a file with the places of the handoff's file
abbrev pub ShowsFile : Type 0
ShowsFile = (left own : File) → places_of own ≡ places_of left → (p : Place) (enables : List Bool)
    → read (agreed_file left own) p (forwarded_byte_enables p enables) ≡ read own p (forwarded_byte_enables p enables)

-- raising bits in a register that the guest has a copy of doesn't change the guest's file either
abbrev pub CopiesNeverRise : Type 0
CopiesNeverRise = (b : Board) → HasLawfulDecls b → (gs : GuestsNow) → AreSeated b gs
    → (name : Text) (n : ℕ) (f : Function)
    → function_in gs name n ≡ Some f → (m : ℕ) (p : Place) → IsTrue (is_own p) → raise m p f.file ≡ f.file

abbrev pub FileOfSeat : Type 0
FileOfSeat = (b : Board) (gs : GuestsNow) → AreSeated b gs → (name : Text) (n : ℕ) (p : Path) (f : Function)
    → path_in gs name n ≡ Some p → function_in gs name n ≡ Some f → file_of gs p ≡ Some f.file
