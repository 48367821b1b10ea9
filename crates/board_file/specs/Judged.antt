-- What the checks establish about a file before its functions are declared.
--     is_lawful_bridge      a bridge keeps the rules of its numbers
--     IsShortGuest      a guest's name and slots fit what holds them
--     is_judged      of the whole file: no problem is found under any check but that of cell masks
use Rattle.std.specs.{Prelude.{◌≤◌, length, Bool}, List.list_all}
use Rattle.board_file.specs.{Entries.{Bridge, Guest, File}, EntryRules.bridge_rules, Rules.kept, Meaning.file_checks, Problems.{none, problems_in}}
use Rattle.board_file.specs.declared.fault.BoardFault.TheVariants as fault

abbrev pub is_lawful_bridge : Bridge → Bool
is_lawful_bridge b = kept (bridge_rules fault.Number b)

-- a guest's name and slots fit what holds them
pub record IsShortGuest (g : Guest) : Type 0 where
  pub name : length g.name ≤ 16
  pub slots : length g.slots ≤ 32

abbrev pub is_judged : File → Bool
is_judged f = list_all (λ fault. none (problems_in f fault)) file_checks
