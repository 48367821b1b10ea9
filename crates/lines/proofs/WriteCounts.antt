-- Writes of firmware with too few words or too many. `ws` are references to the words.
use Rattle.std.proofs.Common.{◌≡◌, ◌<◌, ◌≤◌, List, [], ◌∷◌, None, length, take, Bor, refl, arith}
use Rattle.model_guests.specs.Text.{Text}
use Rattle.model_lines.specs.FirmwareLines.{host_write_of, host_access_of}
use Rattle.lines.proofs.Counts.{texts}

pub host_write_of_few : (ws : List (Bor Text)) → length ws < 4 → None ≡ host_write_of (texts ws)
host_write_of_few [] h = refl
host_write_of_few (a ∷ []) h = refl
host_write_of_few (a ∷ b ∷ []) h = refl
host_write_of_few (a ∷ b ∷ c ∷ []) h = refl
host_write_of_few (a ∷ b ∷ c ∷ d ∷ ws) h = absurd (omega arith)

pub host_write_of_many : (ws : List (Bor Text)) → 6 ≤ length ws → None ≡ host_write_of (texts ws)
host_write_of_many [] h = absurd (omega arith)
host_write_of_many (a ∷ []) h = absurd (omega arith)
host_write_of_many (a ∷ b ∷ []) h = absurd (omega arith)
host_write_of_many (a ∷ b ∷ c ∷ []) h = absurd (omega arith)
host_write_of_many (a ∷ b ∷ c ∷ d ∷ []) h = absurd (omega arith)
host_write_of_many (a ∷ b ∷ c ∷ d ∷ e ∷ []) h = absurd (omega arith)
host_write_of_many (a ∷ b ∷ c ∷ d ∷ e ∷ f ∷ ws) h = refl

-- seven words are enough to tell
pub firmware_of_seven : (ws : List Text) → host_access_of (take 7 ws) ≡ host_access_of ws
firmware_of_seven ws = grind arith
