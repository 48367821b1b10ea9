-- The report on a function of a board that firmware programs: PCI Local Bus 3.0, chapter 6; PCI-to-PCI Bridge
-- Architecture 1.2, chapter 3.
--     is_found fs p      a configuration cycle to the function's BDF reaches it
--     DrivenFunctionNow, driven_function s f      a function with its report, and the spaces that its Command enables
--     driven_function_nth s i      the function at an index, in path order
use Rattle.std.specs.Prelude.{ℕ, Bool, List, [], Option, option_map, slice_get}
use Rattle.model_registers.specs.Decoding.{io, memory, is_open}
use Rattle.model_board.specs.{Paths.Path, State.{BoardFunction, State}}
use Rattle.model_findings.specs.Found.{path_reached}
use Rattle.model_handoff.specs.Functions.{LiveFunction, function_now, is_there}

abbrev pub is_found : List BoardFunction → Path → Bool
is_found fs p = is_there p (path_reached fs p)

-- no guest has the function
pub record DrivenFunctionNow : Type 0 where
  pub function : LiveFunction
  pub is_found : Bool
  pub opens_io : Bool
  pub opens_memory : Bool

abbrev pub driven_function : State → BoardFunction → DrivenFunctionNow
driven_function s f = record {
  function = function_now s [] f;
  is_found = is_found s.functions f.path;
  opens_io = is_open f.file io;
  opens_memory = is_open f.file memory;
}

abbrev pub driven_function_nth : State → ℕ → Option DrivenFunctionNow
driven_function_nth s i = option_map (driven_function s) (slice_get s.functions i)
