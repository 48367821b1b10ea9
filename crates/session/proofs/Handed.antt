-- Whatever firmware does, the board stays the one that it was, in a state that may be handed over.
--     at_first      a board at reset
--     IsAsked, asked_at      the board after an access, by what the code keeps of it
use Rattle.std.{proofs.{Common.{◌≡◌, ◌||◌, ℕ, Bool, true, false, List, Option, None, Some, refl, sym, ap, ap₂, ◌∙◌, subst, arith}, lemmas.Bool.or_parts}, specs.Option.option_map_or}
use Rattle.model_board.specs.{AtReset.{board_at, reset_state}, State.State}
use Rattle.model_guests.specs.{Accesses.{reads, refused, answered}, Grammar.HostTarget, World.{Guest, World, IsLawfulWorld}}
use Rattle.model_lines.{specs.{HostAccesses.{HostAccess, answer, after_access}, Sessions.{DrivenNow, at_reset, is_done, after_board_access}}, proofs.{FirmwareLeaves.access_leaves, Written.accesses_tell_written}}
use Rattle.model_handoff.specs.Handoffs.{IsHandoff}
use Rattle.host_bridge.specs.HostState.{HostState}
use Rattle.monitor.specs.Beginnings.{world_on}
use Rattle.session.specs.{Boards.{board_now, IsBoardNow}, Hosts.after_asked}

pub at_first : (h : HostState) (gs : List Guest) → IsLawfulWorld (world_on h gs)
    → IsHandoff h.state → h.state ≡ reset_state (board_at h.state.functions) → IsBoardNow (board_now h gs false)
at_first h gs lawful handoff reset = grind arith

-- ---- an access

latch_clear : (b : DrivenNow) → b ≡ at_reset b.world → b.state.latch ≡ 0
latch_clear b is = ap (λ (x : DrivenNow). x.state.latch) is

asked_of : (b : DrivenNow) (a : HostAccess) → IsBoardNow b → IsBoardNow (after_board_access b a)
asked_of b a was = record {
  lawful = was.lawful;
  handoff = (access_leaves b.state was.handoff a).handoff;
  untouched = λ none.
      let reset : b ≡ at_reset b.world = was.untouched (or_parts b.written (is_done (answer b.state a)) none).0 in
      accesses_tell_written b (latch_clear b reset) a none ∙ reset;
}

world_stays : (h : HostState) (gs : List Guest) (a : HostAccess) → IsHandoff h.state → world_on (after_asked h a) gs ≡ world_on h gs
world_stays h gs a handoff = grind (arith, access_leaves)

now_asked : (h k : HostState) (gs : List Guest) (t u : Bool) (a : HostAccess) → IsHandoff h.state → k ≡ after_asked h a
    → u ≡ (t || is_done (answer h.state a)) → board_now k gs u ≡ after_board_access (board_now h gs t) a
now_asked h k gs t u a handoff after written =
    ap₂ (λ (x : HostState) (v : Bool). board_now x gs v) after written
    ∙ ap (λ (w : World). let b : DrivenNow = record { world = w; state = after_access h.state a; written = t || is_done (answer h.state a) } in b) (world_stays h gs a handoff)

pub record IsAsked (h k : HostState) (gs : List Guest) (t u : Bool) (a : HostAccess) : Type 0 where
  pub board : IsBoardNow (board_now k gs u)
  pub after : board_now k gs u ≡ after_board_access (board_now h gs t) a

pub asked_at : (h k : HostState) (gs : List Guest) (t u : Bool) (a : HostAccess) → IsBoardNow (board_now h gs t)
    → k ≡ after_asked h a → u ≡ (t || is_done (answer h.state a)) → IsAsked h k gs t u a
asked_at h k gs t u a was after written =
    let now = now_asked h k gs t u a was.handoff after written in
    record { board = subst IsBoardNow (sym now) (asked_of (board_now h gs t) a was); after = now }

-- ---- what was written

pub none_more : (t u : Bool) → u ≡ false → t ≡ (t || u)
none_more true u none = refl
none_more false u none = sym none

pub one_more : (t u : Bool) → u ≡ true → true ≡ (t || u)
one_more true u one = refl
one_more false u one = sym one

answers_no_write : (f : Option ℕ) (v w : ℕ) → is_done (option_map_or refused f (answered v w)) ≡ false
answers_no_write None v w = refl
answers_no_write (Some n) v w = refl

pub read_writes_none : (t : Bool) (s : State) (w : ℕ) (at : HostTarget) → let a : HostAccess = record { target = at; width = w; op = reads } in t ≡ (t || is_done (answer s a))
read_writes_none t s w at = grind (arith, none_more, answers_no_write)
