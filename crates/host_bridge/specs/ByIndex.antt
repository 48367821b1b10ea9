-- Changes of the function at an index.
--     file_nth fs i      its cells; none past the last function
--     with_file_nth g i fs      the functions with only this one's cells changed
--     with_reset_nth i fs      the functions with only the endpoint at this index reset
use Rattle.std.specs.{Prelude.{List, [], ℕ, slice_get}, Option.option_map_or}
use Rattle.model_registers.specs.{Registers.File, Decoding.Function, CopiedFiles.after_reset}
use Rattle.model_board.specs.State.{BoardFunction, with_file}
use Rattle.bridge_forward.specs.Lending.{endpoint_nth}

abbrev pub file_nth : List BoardFunction → ℕ → File
file_nth fs i = option_map_or (λ (f : BoardFunction). f.file) (slice_get fs i) []

abbrev pub with_file_nth : (File → File) → ℕ → List BoardFunction → List BoardFunction
with_file_nth g i fs = option_map_or (λ (f : BoardFunction). with_file g f.path fs) (slice_get fs i) fs

abbrev pub with_reset_nth : ℕ → List BoardFunction → List BoardFunction
with_reset_nth i fs =
    option_map_or (λ (e : Function). with_file_nth (after_reset e.decl) i fs) (endpoint_nth fs i) fs
