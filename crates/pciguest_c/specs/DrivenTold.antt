-- The description of a function on a board that firmware drives, as C receives it: PCI Local Bus 3.0, chapter 6; PCI-to-PCI
-- Bridge Architecture 1.2, chapter 3.
--     driven_row f      its description
use Rattle.std.specs.Prelude.{replicate}
use Rattle.model_handoff.specs.DrivenFunctions.{DrivenFunctionNow}
use Rattle.pciguest_c.specs.{InterruptsTold.no_interrupt, QueriesTold.one_if, FunctionsTold.function_row, declared.board.functions.DrivenRow.DrivenRow}

abbrev pub driven_row : DrivenFunctionNow → DrivenRow
driven_row f = record {
  function = function_row f.function no_interrupt;
  is_found = one_if f.is_found;
  opens_io = one_if f.opens_io;
  opens_memory = one_if f.opens_memory;
  reserved = replicate 4 0;
}
