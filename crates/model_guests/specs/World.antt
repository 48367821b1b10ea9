-- A board with its apertures and guests.
--     Guest, World      a name with the paths of its slots; a board, its apertures and guests
--     paths_of, declarations      the paths of a guest's slots, and the declarations there
--     HasLawfulNames, HasLawfulGuests, IsLawfulWorld      the properties of every board and guests that a board file defines
use Rattle.std.specs.{Prelude.{List, [], ◌∷◌, ℕ, Bool, false, ◌&&◌, ◌||◌, ◌≤◌, length, not, nat_le, Option, Some, None, map, find, flat_map, codes, IsTrue, IsFalse, IsSome}, Char.{is_ascii_digit, is_ascii_lowercase}, List.list_all, Option.option_map_or, Str.bytes_eq}
use Rattle.lists.specs.Elements.{Each, EachPair}
use Rattle.model_registers.specs.{Declarations.Endpoint, Apertures.Apertures}
use Rattle.model_board.specs.{Paths.{Path, path_eq}, Board.{endpoint, bridge, Row, Board, IsBoard}, Lawful.HasLawfulDecls}
use Rattle.model_guests.specs.Text.{Text}

-- a guest and the paths of its slots, slot 0 first
pub record Guest : Type 0 where
  pub name : Text
  pub slots : List Path

pub record World : Type 0 where
  pub board : Board
  pub apertures : Apertures
  pub guests : List Guest

abbrev pub names : World → List Text
names w = map (λ g. g.name) w.guests

abbrev pub endpoint_of : Row → Option Endpoint
endpoint_of r = elim r.decl [ endpoint d ↦ Some d | bridge d ↦ None ]

-- the endpoint at a path
abbrev pub declared : Board → Path → Option Endpoint
declared b p = option_map_or endpoint_of (find (λ r. path_eq r.path p) b) None

-- the paths of a guest's slots, slot 0 first
abbrev pub paths_of : World → Text → List Path
paths_of w name = option_map_or (λ (g : Guest). g.slots) (find (λ g. bytes_eq g.name name) w.guests) []

-- the declarations there
abbrev pub declarations : World → Text → List (Option Endpoint)
declarations w name = map (declared w.board) (paths_of w name)

abbrev pub is_name_byte : ℕ → Bool
is_name_byte c = is_ascii_lowercase c || is_ascii_digit c

-- a lower-case letter, then at most 15 letters and digits; not `host`
abbrev pub is_name : Text → Bool
is_name [] = false
is_name (c ∷ cs) = is_ascii_lowercase c && list_all is_name_byte cs && nat_le (length cs) 15
    && not (bytes_eq (c ∷ cs) (codes "host"))

abbrev pub HasLawfulNames : World → Type 0
HasLawfulNames w = Each (λ n. IsTrue (is_name n)) (names w)

-- the paths in all slots, guest by guest
abbrev pub given_paths : World → List Path
given_paths w = flat_map (λ g. g.slots) w.guests

-- at most 32 guests with distinct lawful names; at most 32 slots each, each with an endpoint of the board,
-- and no endpoint in two slots
pub record HasLawfulGuests (w : World) : Type 0 where
  pub few_guests : length w.guests ≤ 32
  pub lawful_names : HasLawfulNames w
  pub names_apart : EachPair (λ m n. IsFalse (bytes_eq m n)) (names w)
  pub few_slots : Each (λ g. length g.slots ≤ 32) w.guests
  pub endpoints : Each (λ p. IsSome (declared w.board p)) (given_paths w)
  pub paths_apart : EachPair (λ p q. IsFalse (path_eq p q)) (given_paths w)

pub record IsLawfulWorld (w : World) : Type 0 where
  pub board : IsBoard w.board
  pub functions : HasLawfulDecls w.board
  pub guests : HasLawfulGuests w
