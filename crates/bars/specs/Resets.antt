-- Declared BARs and their values at reset.
--     at_reset      the BARs for declarations by index, each with base 0
--     with_no_base      a BAR with base 0
use Rattle.std.specs.Prelude.{ℕ, ◌+◌, List, [], ◌∷◌, Option, Some, None}
use Rattle.model_registers.specs.{Declarations.Bar, EndpointTable.BaseAddress}

abbrev pub reset_from : ℕ → List (Option Bar) → List BaseAddress
reset_from n [] = []
reset_from n (None ∷ bars) = reset_from (n + 1) bars
reset_from n (Some b ∷ bars) = record { index = n; kind = b.kind; size = b.size; base = 0 } ∷ reset_from (n + 1) bars

abbrev pub at_reset : List (Option Bar) → List BaseAddress
at_reset bars = reset_from 0 bars

abbrev pub with_no_base : BaseAddress → BaseAddress
with_no_base b = record b { base = 0 }
