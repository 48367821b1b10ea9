-- The program's command line, as a definition that `clap` reads.
--     demo_and_list_app, with_check_app, with_run_app, with_firmware_app, with_audit_app      with the first subcommands, and
--         up to these
--     pciguest_app      with all of them
--     is_taken words      the command line takes these words, the program's name among them
--     subcommand words      the subcommand that they name
--     value words id      what they give first for one of its arguments
use Rattle.std.specs.{Prelude.{ℕ, Bool, true, List, [], ◌∷◌, Option, Some, codes, option_map, option_and_then, find, slice_get}, Str.bytes_eq}
use Rattle.clap.specs.{declared.builder.action.ArgAction.TheVariants.SetTrue, Walk.{Row, Rule}, Simple.{App, Shape, new_app, new_rule, new_shape, with_subcommand, on_top, subcommand_of}, Takes.takes}

abbrev pub board_rule : Rule
board_rule = record (new_rule (codes "board")) { required = true; value_names = 1 }

-- the flag `--NAME`
abbrev pub flag_rule : List ℕ → Rule
flag_rule name = record (new_rule name) { long = Some name; action = Some SetTrue }

abbrev pub json_rule : Rule
json_rule = flag_rule (codes "json")

abbrev pub strict_rule : Rule
strict_rule = flag_rule (codes "strict")

-- `list [--json] BOARD`, `check [--all] [--plain] BOARD`, `run [--strict] BOARD`, `firmware [--strict] BOARD`,
-- `audit [--json] [--strict] BOARD` and `ready [--json] [--strict] BOARD`
abbrev pub list_shape : Shape
list_shape = record (new_shape (codes "list")) { rules = json_rule ∷ board_rule ∷ [] }

abbrev pub check_shape : Shape
check_shape = record (new_shape (codes "check")) {
  rules = flag_rule (codes "all") ∷ flag_rule (codes "plain") ∷ board_rule ∷ [];
}

abbrev pub run_shape : Shape
run_shape = record (new_shape (codes "run")) { rules = strict_rule ∷ board_rule ∷ [] }

abbrev pub firmware_shape : Shape
firmware_shape = record (new_shape (codes "firmware")) { rules = strict_rule ∷ board_rule ∷ [] }

abbrev pub audit_shape : Shape
audit_shape = record (new_shape (codes "audit")) { rules = json_rule ∷ strict_rule ∷ board_rule ∷ [] }

abbrev pub ready_shape : Shape
ready_shape = record (new_shape (codes "ready")) { rules = json_rule ∷ strict_rule ∷ board_rule ∷ [] }

-- `pciguest demo` and `pciguest list [--json] BOARD`, with a version and no help subcommand
abbrev pub demo_and_list_app : App
demo_and_list_app =
    with_subcommand (with_subcommand
    (on_top (λ s. record s { has_version = true; disable_help_subcommand = true; subcommand_required = true })
    (new_app (codes "pciguest")))
    (new_shape (codes "demo"))) list_shape

-- and `pciguest check [--all] [--plain] BOARD`
abbrev pub with_check_app : App
with_check_app = with_subcommand demo_and_list_app check_shape

-- and `pciguest run [--strict] BOARD`
abbrev pub with_run_app : App
with_run_app = with_subcommand with_check_app run_shape

-- and `pciguest firmware [--strict] BOARD`
abbrev pub with_firmware_app : App
with_firmware_app = with_subcommand with_run_app firmware_shape

-- and `pciguest audit [--json] [--strict] BOARD`
abbrev pub with_audit_app : App
with_audit_app = with_subcommand with_firmware_app audit_shape

-- and `pciguest ready [--json] [--strict] BOARD`
abbrev pub pciguest_app : App
pciguest_app = with_subcommand with_audit_app ready_shape

abbrev pub is_taken : List (List ℕ) → Bool
is_taken words = takes pciguest_app words

abbrev pub subcommand : List (List ℕ) → Option (List ℕ)
subcommand words = option_map (λ s. s.0) (subcommand_of pciguest_app words)

-- the first value of an argument
abbrev pub value_in : List Row → List ℕ → Option (List ℕ)
value_in rows id = option_and_then (λ r. slice_get r.values 0) (find (λ r. bytes_eq r.id id) rows)

abbrev pub value : List (List ℕ) → List ℕ → Option (List ℕ)
value words id = option_and_then (λ s. value_in s.1 id) (subcommand_of pciguest_app words)
