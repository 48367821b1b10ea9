-- Whether a run refused a line, and which lines have none of the forms.
--     refuses p refusal s ls      one of the lines is refused, by some number
--     is_marked line      a line begins with a byte order mark
--     with_bad x, with_refused line n x, with_line line refused x      what is seen after one more line that is told of, that
--         is refused, and that is any
--     seen_along p refusal s ls x      what is seen after these lines
--     watched p refusal      what answers lines, and what is seen of them, as a protocol
--     IsWatched p refusal s at result      what a run did, and what was seen of its lines
use Rattle.std.specs.{Prelude.{◌≡◌, ◌+◌, ◌%◌, ◌^◌, ◌++◌, ◌&&◌, ◌||◌, ◌==◌, ℕ, Bool, true, false, not, length, List, [], ◌∷◌, Option, None, Some, Result, IfOk, is_some, if◌then◌else◌}, Option.ForSome}
use Rattle.model_guests.specs.{Text.{Text, lines}, Grammar.is_long, LineRuns.Protocol}
use Rattle.lines.specs.{declared.{runs.RunFault.RunFault, watching.{RunStats.RunStats, Counted.Counted}}, Runs.{Ends, Runs}}

-- the number by which each line is refused, if it is
abbrev pub Refusal : Type 0 → Type 0
Refusal S = S → Text → Option ℕ

abbrev pub refuses : {S : Type 0} → Protocol S → Refusal S → S → List Text → Bool
refuses p refusal s [] = false
refuses p refusal s (line ∷ more) = is_some (refusal s line) || refuses p refusal (p.next s line) more

-- ---- what is seen of lines

-- that of UTF-8
abbrev pub is_marked : Text → Bool
is_marked (a ∷ b ∷ c ∷ line) = a == 0xEF && b == 0xBB && c == 0xBF
is_marked _ = false

abbrev pub none_seen : RunStats
none_seen = record { refused = false; lines = 0; bad = 0; first = record { items = [] } }

-- the first twenty are told of, each by its number
abbrev pub with_bad : RunStats → RunStats
with_bad x = record {
  refused = x.refused;
  lines = x.lines;
  bad = (x.bad + 1) % 2 ^ 64;
  first = record { items = if length x.first.items == 20 then x.first.items else x.first.items ++ x.lines ∷ [] };
}

-- told of are lines of 401, and those that are refused and begin with a byte order mark, but for long ones
abbrev pub with_refused : Text → ℕ → RunStats → RunStats
with_refused line n x =
    let seen : RunStats = record x { refused = true } in
    if (n == 401 || is_marked line) && not (is_long line) then with_bad seen else seen

abbrev pub with_line : Text → Option ℕ → RunStats → RunStats
with_line line None x = record x { lines = (x.lines + 1) % 2 ^ 64 }
with_line line (Some n) x = with_refused line n (record x { lines = (x.lines + 1) % 2 ^ 64 })

abbrev pub seen_along : {S : Type 0} → Protocol S → Refusal S → S → List Text → RunStats → RunStats
seen_along p refusal s [] x = x
seen_along p refusal s (line ∷ more) x = seen_along p refusal (p.next s line) more (with_line line (refusal s line) x)

-- ---- a run that is watched

abbrev pub watched : {S : Type 0} → Protocol S → Refusal S → Protocol (Counted S)
watched p refusal = record {
  writes = λ w line. p.writes w.server line;
  next = λ w line. record { server = p.next w.server line; seen = with_line line (refusal w.server line) w.seen };
}

pub record IsWatched {S : Type 0} (p : Protocol S) (refusal : Refusal S) (s : S) (at : Ends) (result : Result (S × RunStats) RunFault)
    : Type 0 where
  pub end : S
  pub runs : Runs p s end at result
  pub left : IfOk result (λ x. x.0 ≡ end)
  pub refused : IfOk result (λ x. ForSome at.script (λ script. x.1.refused ≡ refuses p refusal s (lines script)))
  pub seen : IfOk result (λ x. ForSome at.script (λ script. x.1 ≡ seen_along p refusal s (lines script) none_seen))
