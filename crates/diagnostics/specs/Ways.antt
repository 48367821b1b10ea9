-- Ways through a document.
--     child      the value behind a step
--     value_at      the value at the end of a way
use Rattle.std.specs.Prelude.{List, [], ◌∷◌, Option, Some, option_and_then}
use Rattle.toml.specs.Data.{Data, get, at}
use Rattle.diagnostics.specs.declared.steps.Step.{Step, TheVariants.{Key, Index}}

abbrev pub child : Step → Data → Option Data
child (Key k) d = get k.now d
child (Index i) d = at i d

abbrev pub value_at : List Step → Data → Option Data
value_at [] d = Some d
value_at (s ∷ ss) d = option_and_then (value_at ss) (child s d)
