-- A function's identity, converted to the type of the definitions.
--     identity_told      an identity, from the code's type
--     identity_nth fs i      that of the function at an index of the list
use Rattle.std.specs.Prelude.{List, ℕ, Option, option_map, slice_get}
use Rattle.model_board.specs.State.{BoardFunction}
use Rattle.findings.specs.declared.identities.Identity.{Identity}
use Rattle.model_handoff.specs.Functions as model

abbrev pub identity_told : Identity → model.Identity
identity_told i = record {
  vendor = i.vendor;
  device = i.device;
  revision = i.revision;
  class = i.class;
  subvendor = i.subvendor;
  subsystem = i.subsystem;
}

abbrev pub identity_nth : List BoardFunction → ℕ → Option model.Identity
identity_nth fs i = option_map (λ (f : BoardFunction). model.identity_now f.decl f.file) (slice_get fs i)
