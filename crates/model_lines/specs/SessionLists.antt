-- Capability lists on the board of a session: PCI Local Bus 3.0, chapter 6.7.
--     ShowsDeclared f      a function that was declared with a capability list shows this list
--     SessionsShowLists      all functions of a lawful board do, in every state that the lines of a session reach from reset
use Rattle.std.specs.Prelude.{◌≡◌, ◌<◌, List, ◌∷◌}
use Rattle.lists.specs.Elements.{Each}
use Rattle.model_registers.specs.{Declarations.Endpoint, Capabilities.{Capability, with_capabilities, ShowsList}}
use Rattle.model_board.specs.{Board.endpoint, State.BoardFunction}
use Rattle.model_guests.specs.{Text.Text, World.{World, IsLawfulWorld}, LineRuns.after_lines}
use Rattle.model_lines.specs.Sessions.{driven, at_reset, session_functions, session_protocol}

abbrev pub ShowsDeclared : BoardFunction → Type 0
ShowsDeclared f = (d : Endpoint) (c : Capability) (cs : List Capability)
    → f.decl ≡ endpoint (with_capabilities (c ∷ cs) d) → Each (λ e. e.id < 256) (c ∷ cs) → ShowsList f.file (c ∷ cs)

abbrev pub SessionsShowLists : Type 0
SessionsShowLists = (w : World) → IsLawfulWorld w → (ls : List Text)
    → Each ShowsDeclared (session_functions (after_lines session_protocol (driven (at_reset w)) ls))
