-- Lines that ask something, with too few words or too many; and writes, which ask nothing. `ws` are references to the words.
use Rattle.std.proofs.Common.{◌≡◌, ◌<◌, ◌≤◌, List, [], ◌∷◌, Option, None, Some, option_map, length, take, Bor, refl, arith}
use Rattle.model_guests.specs.Text.{Text}
use Rattle.model_lines.specs.{Requests.request_of, HostAccesses.HostAccess, FirmwareLines.asked}
use Rattle.lines.{specs.{FirmwareLines.{firmware_meaning_of, requested}, declared.firmware_line.FirmwareCommand.FirmwareCommand}, proofs.Counts.texts}
use Rattle.lines.specs.declared.firmware_line.FirmwareCommand.TheVariants as what

pub no_request_of_few : (ws : List (Bor Text)) → length ws < 3 → (length ws ≡ 1 → ⊥) → None ≡ request_of (texts ws)
no_request_of_few [] h other = refl
no_request_of_few (a ∷ []) h other = absurd (other refl)
no_request_of_few (a ∷ b ∷ []) h other = refl
no_request_of_few (a ∷ b ∷ c ∷ ws) h other = absurd (omega arith)

pub no_request_of_many : (ws : List (Bor Text)) → 4 ≤ length ws → None ≡ request_of (texts ws)
no_request_of_many [] h = absurd (omega arith)
no_request_of_many (a ∷ []) h = absurd (omega arith)
no_request_of_many (a ∷ b ∷ []) h = absurd (omega arith)
no_request_of_many (a ∷ b ∷ c ∷ []) h = absurd (omega arith)
no_request_of_many (a ∷ b ∷ c ∷ d ∷ ws) h = refl

-- seven words are enough to tell
pub request_of_seven : (ws : List Text) → request_of (take 7 ws) ≡ request_of ws
request_of_seven ws = grind arith

pub writes_ask_nothing : (w : FirmwareCommand) (a : Option HostAccess) → Some (firmware_meaning_of w) ≡ option_map asked a → requested w ≡ None
writes_ask_nothing (what.Asks r) None is = cc
writes_ask_nothing (what.Asks r) (Some a) is = cc
writes_ask_nothing _ a is = refl
