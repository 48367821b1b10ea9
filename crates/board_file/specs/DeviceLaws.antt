-- The devices of the board that a file declares.
--     IsBelow n p      every device of a path is below n
--     AcceptedDevicesAreBelowLimit      of every function of an accepted file: with 16 devices, which is the default, no device is
--         above 15
use Rattle.std.specs.Prelude.{◌≡◌, ◌<◌, ℕ, Ok}
use Rattle.toml.specs.Data.{Members}
use Rattle.lists.specs.Elements.{Each}
use Rattle.model_board.specs.{Paths.{Part, Path}, Board.Row}
use Rattle.model_guests.specs.World.{World}
use Rattle.board_file.specs.{Entries.file, Rules.device_limit, Meaning.meaning}

abbrev pub IsBelow : ℕ → Path → Type 0
IsBelow n p = Each (λ (q : Part). q.device < n) p

abbrev pub AcceptedDevicesAreBelowLimit : Type 0
AcceptedDevicesAreBelowLimit =
    (ms : Members) (w : World) → meaning ms ≡ Ok w → Each (λ (r : Row). IsBelow (device_limit (file ms).devices) r.path) w.board
