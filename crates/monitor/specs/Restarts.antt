-- Resetting the guest at an index.
--     slots_at_reset i w      the world with all functions of guest i at reset
use Rattle.std.specs.Prelude.{ℕ, map}
use Rattle.model_guests.specs.WorldNow.{WorldNow}
use Rattle.model_images.specs.Images.{function_at_reset}
use Rattle.monitor.specs.ByIndex.{lone_nth, with_lone_nth}

abbrev pub slots_at_reset : ℕ → WorldNow → WorldNow
slots_at_reset i w = with_lone_nth i (record (lone_nth w i) { slots = map function_at_reset (lone_nth w i).slots }) w
