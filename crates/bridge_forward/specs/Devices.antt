-- Devices with functions other than function 0.
--     is_nonzero_function      the function number isn't 0
--     multifunction_device_paths      the path of function 0 in the device of each such function
use Rattle.std.specs.Prelude.{Bool, not, List, map, filter, ◌==◌}
use Rattle.model_board.specs.{Paths.{Path, last_part, function_zero}, Board.Board}

abbrev pub is_nonzero_function : Path → Bool
is_nonzero_function p = not ((last_part p).function == 0)

abbrev pub multifunction_device_paths : Board → List Path
multifunction_device_paths b = map (λ r. function_zero r.path) (filter (λ r. is_nonzero_function r.path) b)
