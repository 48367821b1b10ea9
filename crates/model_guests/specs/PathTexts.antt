-- The texts of numbers and paths.
--     hexadecimal      0x and a number's hexadecimal digits, without leading zeros
--     part_text, path_text      a device and a function; these from bus 0 down, separated by slashes
use Rattle.std.specs.{Prelude.{ℕ, false, ◌++◌, map, codes, decimal}, Fmt.digits, List.join_with_byte}
use Rattle.model_board.specs.Paths.{Part, Path}
use Rattle.model_guests.specs.Text.{Text}

abbrev pub hexadecimal : ℕ → Text
hexadecimal n = codes "0x" ++ digits 16 false n

abbrev pub part_text : Part → Text
part_text p = decimal p.device ++ codes "." ++ decimal p.function

abbrev pub path_text : Path → Text
path_text p = join_with_byte 47 (map part_text p)
