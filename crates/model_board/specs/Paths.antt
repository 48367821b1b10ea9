-- The location of a function: the devices and functions from bus 0 down.
--     Part, Path      a device and function number on one bus; the parts from bus 0 down
--     path_before, is_ancestor_of      path order; one path is a proper prefix of another
--     parent, last_part      the bridge above; the device and function on its own bus
--     same_device, function_zero      two functions are in one device; function 0 of a device
--     devfn_count      how many device and function numbers a bus has
--     IsPart, IsPath      32 devices of 8 functions on a bus; at most 16 buses down
use Rattle.std.specs.Prelude.{List, [], ◌∷◌, ℕ, ◌<◌, Bool, true, false, ◌&&◌, ◌==◌, ◌≤◌, length, ◌||◌, nat_lt}
use Rattle.lists.specs.Elements.{Each}

pub record Part : Type 0 where
  pub device : ℕ
  pub function : ℕ

abbrev pub Path : Type 0
Path = List Part

abbrev pub part_eq : Part → Part → Bool
part_eq p q = p.device == q.device && p.function == q.function

abbrev pub part_before : Part → Part → Bool
part_before p q = nat_lt p.device q.device || (p.device == q.device && nat_lt p.function q.function)

abbrev pub path_eq : Path → Path → Bool
path_eq [] [] = true
path_eq [] (q ∷ qs) = false
path_eq (p ∷ ps) [] = false
path_eq (p ∷ ps) (q ∷ qs) = part_eq p q && path_eq ps qs

-- path order: part by part, with each path before its extensions
abbrev pub path_before : Path → Path → Bool
path_before [] [] = false
path_before [] (q ∷ qs) = true
path_before (p ∷ ps) [] = false
path_before (p ∷ ps) (q ∷ qs) = part_before p q || (part_eq p q && path_before ps qs)

-- the first path is a proper prefix of the second
abbrev pub is_ancestor_of : Path → Path → Bool
is_ancestor_of [] [] = false
is_ancestor_of [] (q ∷ qs) = true
is_ancestor_of (p ∷ ps) [] = false
is_ancestor_of (p ∷ ps) (q ∷ qs) = part_eq p q && is_ancestor_of ps qs

-- the path without its last part: the bridge above, or [] for bus 0
abbrev pub parent : Path → Path
parent [] = []
parent (p ∷ []) = []
parent (p ∷ q ∷ ps) = p ∷ parent (q ∷ ps)

abbrev pub last_part : Path → Part
last_part [] = record { device = 0; function = 0 }
last_part (p ∷ []) = p
last_part (p ∷ q ∷ ps) = last_part (q ∷ ps)

abbrev pub function_zero : Path → Path
function_zero [] = []
function_zero (p ∷ []) = record p { function = 0 } ∷ []
function_zero (p ∷ q ∷ ps) = p ∷ function_zero (q ∷ ps)

-- two functions of one device
abbrev pub same_device : Path → Path → Bool
same_device p q = path_eq (parent p) (parent q) && ((last_part p).device == (last_part q).device)

-- how many functions a bus can have: 8 in each of 32 devices
abbrev pub devfn_count : ℕ
devfn_count = 256

pub record IsPart (p : Part) : Type 0 where
  pub device_fits : p.device < 32
  pub function_fits : p.function < 8

pub record IsPath (p : Path) : Type 0 where
  pub some : 0 < length p
  pub few : length p ≤ 16
  pub parts : Each IsPart p
