-- The replies that a line of output can show.
--     IsShown      a value of at most four bytes, done, or a refusal
--     IsRefusal      a refusal
use Rattle.std.specs.Prelude.{◌≤◌, ⊤}
use Rattle.accesses.specs.declared.access.Reply.{Reply, TheVariants.{Value, Done, Refused}}

abbrev pub IsShown : Reply → Type 0
IsShown (Value v w) = w ≤ 4
IsShown Done = ⊤
IsShown (Refused why) = ⊤

abbrev pub IsRefusal : Reply → Type 0
IsRefusal (Refused why) = ⊤
IsRefusal _ = ⊥
