-- The numbers of why the board of a file is not set up, of which C is told.
--     file_is_small, set_up_is_large      those of a file are 101 to 199, and those of its board 201 to 299
--     is_small      those of both are at most 299
--     refused, broken      what is said of a refusal, by its number
--     known      the fault of which a check tells is none of memory
--     out_of_memory      one of memory is 199 or 299
use Rattle.std.{proofs.Common.{◌≡◌, ◌≤◌, ◌<◌, ◌⊎◌, ℕ, Option, Some, None, refl, ap, inl, inr, lit<, lit≤, arith}, specs.{Prelude.◌≢◌, Option.option_map_or}}
use Rattle.model_guests.specs.Text.{Text}
use Rattle.board_file.specs.declared.fault.BoardFault.{BoardFault}
use Rattle.bus_scan.specs.declared.fault.Fault.{Fault as SetUpFault}
use Rattle.session.specs.{declared.opening.OpenFault.{OpenFault, TheVariants.{File, SetUp}}, Faults.{number_of, OnFile, OnSetUp}}
use Rattle.board_told.specs.Checking.{IsFaultOf, IsOutOfMemory}
use Rattle.board_file.specs.declared.fault.BoardFault.TheVariants as file
use Rattle.board_file.specs.Faults as board_file
use Rattle.bus_scan.specs.declared.fault.Fault.TheVariants as set_up
use Rattle.bus_scan.specs.Faults as bus_scan

pub file_is_small : (b : BoardFault) → (101 ≤ board_file.number_of b) × (board_file.number_of b ≤ 199)
file_is_small file.NotToml = (lit≤ tt, lit≤ tt)
file_is_small _ = (lit≤ tt, lit≤ tt)

pub set_up_is_large : (s : SetUpFault) → (201 ≤ bus_scan.number_of s) × (bus_scan.number_of s ≤ 299)
set_up_is_large set_up.Buses = (lit≤ tt, lit≤ tt)
set_up_is_large _ = (lit≤ tt, lit≤ tt)

pub is_small : (f : OpenFault) → (101 ≤ number_of f) × (number_of f ≤ 299)
is_small (File b) = let small = file_is_small b in (small.0, omega arith)
is_small (SetUp s) = let large = set_up_is_large s in (omega arith, large.1)

pub refused : (P : ℕ → Type 0) (f : OpenFault) → OnFile P f → number_of f < 199 → P (number_of f)
refused P (File b) said small = said (λ memory. let full : board_file.number_of b ≡ 199 = ap board_file.number_of memory in omega arith)
refused P (SetUp s) said small = absurd (let large = set_up_is_large s in omega arith)

pub broken : (P : ℕ → Type 0) (f : OpenFault) → OnSetUp P f → 199 < number_of f → number_of f < 299 → P (number_of f)
broken P (File b) said large small = absurd (let less = file_is_small b in omega arith)
broken P (SetUp s) said large small = said (λ memory. let full : bus_scan.number_of s ≡ 299 = ap bus_scan.number_of memory in omega arith)

known_file : (b : BoardFault) → b ≢ file.Memory → (board_file.number_of b < 299) × (board_file.number_of b ≢ 199)
known_file file.Memory other = absurd (other refl)
known_file _ other = (lit< tt, λ wrong. omega arith)

known_set_up : (s : SetUpFault) → s ≢ set_up.Memory → (bus_scan.number_of s < 299) × (bus_scan.number_of s ≢ 199)
known_set_up set_up.Memory other = absurd (other refl)
known_set_up _ other = (lit< tt, λ wrong. omega arith)

pub known : (board : Text) (o : Option OpenFault) → IsFaultOf board o
    → (option_map_or number_of o 0 < 299) × (option_map_or number_of o 0 ≢ 199)
known board None found = (lit< tt, λ wrong. omega arith)
known board (Some (File b)) found = known_file b found.0
known board (Some (SetUp s)) found = known_set_up s found.0

pub out_of_memory : (f : OpenFault) → IsOutOfMemory f → (number_of f ≡ 199) ⊎ (number_of f ≡ 299)
out_of_memory (File b) is = inl (ap board_file.number_of is)
out_of_memory (SetUp s) is = inr (ap bus_scan.number_of is)
