-- Guests on a board after set-up, which is one possible handoff.
--     world_at_first w      a world before any line, over the handoff from set-up
--     IsIsolated, SetUpIsolates      each guest's own inputs decide its replies and its state
--     SetUpTwoWorlds      worlds and scripts that agree on a guest's functions and inputs give it the same reply lines
use Rattle.std.specs.Prelude.{◌≡◌, IsTrue}
use Rattle.model_set_up.specs.SetUp.{set_up_state}
use Rattle.model_guests.specs.{Text.{Text, lines}, Grammar.has_name, World.{World, names, HasLawfulNames}, Replies.reply_lines, Guests.guests_at_first, WorldNow.{WorldNow, world_over, output}, Inputs.inputs, Isolation.{IsDecidedBy, AgreeOn}}

abbrev pub world_at_first : World → WorldNow
world_at_first w = world_over w (set_up_state w.board w.apertures)

abbrev pub IsIsolated : World → Text → Text → Type 0
IsIsolated w name script =
    IsDecidedBy (inputs (guests_at_first w) name (lines script)) w (world_at_first w) name script

abbrev pub SetUpIsolates : Type 0
SetUpIsolates = (w : World) → HasLawfulNames w → (name script : Text) → IsTrue (has_name (names w) name)
    → IsIsolated w name script

abbrev pub SetUpTwoWorlds : Type 0
SetUpTwoWorlds = (name : Text) (v w : World) (s t : Text) → HasLawfulNames v → HasLawfulNames w → AgreeOn name v w s t
    → reply_lines name (output (world_at_first v) (lines s)) ≡ reply_lines name (output (world_at_first w) (lines t))
