-- What the words of the command line ask for.
--     is_plain given is_terminal      a check tells lines alone, by what is given for `--plain` and where it is written
--     is_json value      what is told is written as JSON
--     is_all value      a check tells every warning
--     is_strict value      a refused line is a fault
--     board_path choice      the path of the board file that is read
--     IsAskedBy name value is_terminal choice      the choice is the subcommand of this name, with what is given for its arguments
--     IsAsked words is_terminal choice      the choice is the subcommand that the words name
--     IsNoCommand name      the program has no subcommand of this name
--     IsHelp, IsWork choice      the choice is help, or is none
use Rattle.std.specs.{Prelude.{◌≡◌, ◌≢◌, ℕ, Bool, false, not, ◌||◌, List, [], Option, None, Some, codes, option_and_then, unwrap_or}, Option.option_map_or, Str.bytes_eq}
use Rattle.model_lines.specs.Reports.{report_named}
use Rattle.lines.specs.Requests.{report_of}
use Rattle.command_line.specs.{Words.{subcommand, value}, declared.choice.Choice.{Choice, TheVariants.{Help, Demo, List as Lists, Check, Run, Firmware, Report}}}

abbrev pub is_flag_set : Option (List ℕ) → Bool
is_flag_set given = option_map_or (λ t. bytes_eq t (codes "true")) given false

abbrev pub is_plain : Option (List ℕ) → Bool → Bool
is_plain given is_terminal = not is_terminal || is_flag_set given

-- `--json` is given
abbrev pub is_json : (List ℕ → Option (List ℕ)) → Bool
is_json value = is_flag_set (value (codes "json"))

-- `--all` is given
abbrev pub is_all : (List ℕ → Option (List ℕ)) → Bool
is_all value = is_flag_set (value (codes "all"))

-- `--strict` is given
abbrev pub is_strict : (List ℕ → Option (List ℕ)) → Bool
is_strict value = is_flag_set (value (codes "strict"))

-- the path of a board file, which is empty where none is given
abbrev pub board_in : (List ℕ → Option (List ℕ)) → List ℕ
board_in value = unwrap_or (value (codes "board")) []

abbrev pub IsAskedBy : Option (List ℕ) → (List ℕ → Option (List ℕ)) → Bool → Choice → Type 0
IsAskedBy name value terminal (Help text) = Unit {0}
IsAskedBy name value terminal Demo = name ≡ Some (codes "demo")
IsAskedBy name value terminal (Lists path json) =
    (name ≡ Some (codes "list")) × (path.now ≡ board_in value) × (json ≡ is_json value)
IsAskedBy name value terminal (Check path all plain) =
    (name ≡ Some (codes "check")) × (path.now ≡ board_in value) × (all ≡ is_all value)
    × (plain ≡ is_plain (value (codes "plain")) terminal)
IsAskedBy name value terminal (Run path strict) =
    (name ≡ Some (codes "run")) × (path.now ≡ board_in value) × (strict ≡ is_strict value)
IsAskedBy name value terminal (Firmware path strict) =
    (name ≡ Some (codes "firmware")) × (path.now ≡ board_in value) × (strict ≡ is_strict value)
IsAskedBy name value terminal (Report report path json strict) =
    (option_and_then report_named name ≡ Some (report_of report)) × (path.now ≡ board_in value) × (json ≡ is_json value)
    × (strict ≡ is_strict value)

abbrev pub IsAsked : List (List ℕ) → Bool → Choice → Type 0
IsAsked words terminal choice = IsAskedBy (subcommand words) (value words) terminal choice

pub record IsNoCommand (name : List ℕ) : Type 0 where
  pub demo : name ≢ codes "demo"
  pub list : name ≢ codes "list"
  pub check : name ≢ codes "check"
  pub run : name ≢ codes "run"
  pub firmware : name ≢ codes "firmware"
  pub report : report_named name ≡ None

abbrev pub board_path : Choice → Option (List ℕ)
board_path (Help text) = None
board_path Demo = None
board_path (Lists path json) = Some path.now
board_path (Check path all plain) = Some path.now
board_path (Run path strict) = Some path.now
board_path (Firmware path strict) = Some path.now
board_path (Report report path json strict) = Some path.now

abbrev pub IsHelp : Choice → Type 0
IsHelp (Help text) = Unit {0}
IsHelp _ = ⊥

abbrev pub IsWork : Choice → Type 0
IsWork (Help text) = ⊥
IsWork _ = Unit {0}
