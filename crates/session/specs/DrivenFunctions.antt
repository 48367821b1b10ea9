-- What code answers of a function of a board that firmware drives, from the program's words.
--     driven_function_named      the function
use Rattle.model_handoff.specs.DrivenFunctions.{DrivenFunctionNow}
use Rattle.monitor.specs.FunctionsTold.{function_named}
use Rattle.session.specs.declared.functions.DrivenFunction.{DrivenFunction}

abbrev pub driven_function_named : DrivenFunction → DrivenFunctionNow
driven_function_named f = record {
  function = function_named f.function;
  is_found = f.is_found;
  opens_io = f.opens_io;
  opens_memory = f.opens_memory;
}
