-- A board: its functions and their paths.
--     Decl      the declaration at a path: an endpoint or a bridge
--     Row, Board      a path with its declaration; rows in path order
--     rows_on, is_multifunction      the functions on one bus; another function is in the same device
--     has_multifunction_bit      bit 7 of the header type of the function at a path
--     IsBoard      unique paths, each behind a bridge or on bus 0, and a function 0 in each device
use Rattle.std.specs.{Prelude.{List, [], ◌≡◌, Bool, true, false, ◌&&◌, ◌||◌, ◌==◌, not, filter, IsTrue, ◌⊎◌}, List.list_any}
use Rattle.lists.specs.Elements.{Each, EachPair}
use Rattle.model_registers.specs.Declarations.{Endpoint, Bridge}
use Rattle.model_board.specs.Paths.{Path, path_eq, path_before, parent, last_part, same_device, function_zero, IsPath}

pub data Decl : Type 0 where
  endpoint : Endpoint → Decl
  bridge : Bridge → Decl

abbrev pub is_bridge : Decl → Bool
is_bridge (endpoint d) = false
is_bridge (bridge d) = true

pub record Row : Type 0 where
  pub path : Path
  pub decl : Decl

abbrev pub Board : Type 0
Board = List Row

-- the rows on the bus behind a bridge; [] means bus 0
abbrev pub rows_on : Board → Path → Board
rows_on b bus = filter (λ r. path_eq (parent r.path) bus) b

abbrev pub stands_at : Board → Path → Bool
stands_at b p = list_any (λ r. path_eq r.path p) b

abbrev pub is_bridge_at : Board → Path → Bool
is_bridge_at b p = list_any (λ r. is_bridge r.decl && path_eq r.path p) b

-- the device has another function
abbrev pub is_multifunction : Board → Path → Bool
is_multifunction b p = list_any (λ r. same_device r.path p && not (path_eq r.path p)) b

abbrev pub declares_multifunction : Decl → Bool
declares_multifunction (endpoint d) = d.multifunction
declares_multifunction (bridge d) = d.multifunction

-- bit 7 of the header type of the function at this path. PCI Local Bus 3.0, chapter 6.2.1, demands it of function 0 of a
-- device with several functions; the others have it if they declare it (own)
abbrev pub has_multifunction_bit : Board → Path → Bool
has_multifunction_bit b p =
    is_multifunction b p
    && ((last_part p).function == 0 || list_any (λ r. path_eq r.path p && declares_multifunction r.decl) b)

-- lawful places: unique paths, each behind a bridge of the board or on bus 0, and a function 0 in each device
pub record IsBoard (b : Board) : Type 0 where
  pub paths : Each (λ r. IsPath r.path) b
  pub in_order : EachPair (λ r s. IsTrue (path_before r.path s.path)) b
  pub behind_bridges : Each (λ r. (parent r.path ≡ []) ⊎ IsTrue (is_bridge_at b (parent r.path))) b
  pub function_zeros : Each (λ r. IsTrue (stands_at b (function_zero r.path))) b
