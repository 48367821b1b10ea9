-- Lines with too few words or too many. `ws` are references to the words.
use Rattle.std.proofs.Common.{◌≡◌, ◌<◌, ◌≤◌, List, [], ◌∷◌, None, map, length, take, codes, Bor, refl, arith}
use Rattle.model_guests.specs.{Text.Text, Grammar.{event_of, host_read_of}, Lines.{move_of, read_or_move}}

abbrev pub texts : List (Bor Text) → List Text
texts ws = map (λ w. w.now) ws

pub raise_of_few : (ws : List (Bor Text)) → length ws < 4 → None ≡ event_of (codes "raise" ∷ texts ws)
raise_of_few [] h = refl
raise_of_few (a ∷ []) h = refl
raise_of_few (a ∷ b ∷ []) h = refl
raise_of_few (a ∷ b ∷ c ∷ []) h = refl
raise_of_few (a ∷ b ∷ c ∷ d ∷ ws) h = absurd (omega arith)

pub raise_of_many : (ws : List (Bor Text)) → 5 ≤ length ws → None ≡ event_of (codes "raise" ∷ texts ws)
raise_of_many [] h = absurd (omega arith)
raise_of_many (a ∷ []) h = absurd (omega arith)
raise_of_many (a ∷ b ∷ []) h = absurd (omega arith)
raise_of_many (a ∷ b ∷ c ∷ []) h = absurd (omega arith)
raise_of_many (a ∷ b ∷ c ∷ d ∷ []) h = absurd (omega arith)
raise_of_many (a ∷ b ∷ c ∷ d ∷ e ∷ ws) h = refl

-- seven words are enough to tell
pub event_of_seven : (op : Text) (ws : List Text) → event_of (op ∷ take 7 ws) ≡ event_of (op ∷ ws)
event_of_seven op ws = grind arith

pub host_read_of_few : (ws : List (Bor Text)) → length ws < 3 → None ≡ host_read_of (texts ws)
host_read_of_few [] h = refl
host_read_of_few (a ∷ []) h = refl
host_read_of_few (a ∷ b ∷ []) h = refl
host_read_of_few (a ∷ b ∷ c ∷ ws) h = absurd (omega arith)

pub host_read_of_many : (ws : List (Bor Text)) → 5 ≤ length ws → None ≡ host_read_of (texts ws)
host_read_of_many [] h = absurd (omega arith)
host_read_of_many (a ∷ []) h = absurd (omega arith)
host_read_of_many (a ∷ b ∷ []) h = absurd (omega arith)
host_read_of_many (a ∷ b ∷ c ∷ []) h = absurd (omega arith)
host_read_of_many (a ∷ b ∷ c ∷ d ∷ []) h = absurd (omega arith)
host_read_of_many (a ∷ b ∷ c ∷ d ∷ e ∷ ws) h = refl

pub move_of_few : (names : List Text) (ws : List (Bor Text)) → length ws < 5 → None ≡ move_of names (texts ws)
move_of_few names [] h = refl
move_of_few names (a ∷ []) h = refl
move_of_few names (a ∷ b ∷ []) h = refl
move_of_few names (a ∷ b ∷ c ∷ []) h = refl
move_of_few names (a ∷ b ∷ c ∷ d ∷ []) h = refl
move_of_few names (a ∷ b ∷ c ∷ d ∷ e ∷ ws) h = absurd (omega arith)

pub move_of_many : (names : List Text) (ws : List (Bor Text)) → 6 ≤ length ws → None ≡ move_of names (texts ws)
move_of_many names [] h = absurd (omega arith)
move_of_many names (a ∷ []) h = absurd (omega arith)
move_of_many names (a ∷ b ∷ []) h = absurd (omega arith)
move_of_many names (a ∷ b ∷ c ∷ []) h = absurd (omega arith)
move_of_many names (a ∷ b ∷ c ∷ d ∷ []) h = absurd (omega arith)
move_of_many names (a ∷ b ∷ c ∷ d ∷ e ∷ []) h = absurd (omega arith)
move_of_many names (a ∷ b ∷ c ∷ d ∷ e ∷ f ∷ ws) h = refl

-- seven words are enough to tell
pub host_of_seven : (names ws : List Text)
    → read_or_move (host_read_of (take 7 ws)) (move_of names (take 7 ws)) ≡ read_or_move (host_read_of ws) (move_of names ws)
host_of_seven names ws = grind arith
