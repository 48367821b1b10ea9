-- The only register state of the board that agrees with the current guests.
--     with_files files s      the state with these files for each function that a guest has
--     state_over s gs      the state of the whole board; everything else is that of the handoff
--     with_change_at change p s      the state with the file of the function at p changed
use Rattle.std.specs.{Prelude.{map, Option}, Option.option_map_or}
use Rattle.model_registers.specs.{Registers.File, CopiedFiles.agreed_file}
use Rattle.model_board.specs.{Paths.Path, State.{BoardFunction, State, with_file}}
use Rattle.model_guests.specs.Guests.{GuestsNow, file_of}

-- `files` gives the guests' file of each function
abbrev pub agreed_function : (Path → Option File) → BoardFunction → BoardFunction
agreed_function files f = option_map_or (λ (own : File). record f { file = agreed_file f.file own }) (files f.path) f

abbrev pub with_files : (Path → Option File) → State → State
with_files files s = record s { functions = map (agreed_function files) s.functions }

-- bridges, functions in no slot and CONFIG_ADDRESS are those of the handoff
abbrev pub state_over : State → GuestsNow → State
state_over s gs = with_files (file_of gs) s

abbrev pub with_change_at : (File → File) → Path → State → State
with_change_at change p s = record s { functions = with_file change p s.functions }
