-- One function of the board as it agrees with a guest's file, and after a change at a path.
use Rattle.std.{proofs.Common.{◌≡◌, true, false, cond, Option, arith}, specs.Option.option_map_or}
use Rattle.model_registers.specs.{Registers.File, CopiedFiles.agreed_file}
use Rattle.model_board.specs.{Paths.{Path, path_eq}, State.BoardFunction}

abbrev pub changed_function : (File → File) → Path → BoardFunction → BoardFunction
changed_function change p f = cond (path_eq f.path p) (record f { file = change f.file }) f

abbrev pub agreed_by : Option File → BoardFunction → BoardFunction
agreed_by own f = option_map_or (λ (file : File). record f { file = agreed_file f.file file }) own f

pub changed_here : (change : File → File) (p : Path) (f : BoardFunction) → path_eq f.path p ≡ true → changed_function change p f ≡ record f { file = change f.file }
changed_here change p f e = rw e

pub unchanged : (change : File → File) (p : Path) (own : Option File) (f : BoardFunction) → path_eq f.path p ≡ false → changed_function change p (agreed_by own f) ≡ agreed_by own f
unchanged change p own f e = grind arith
