-- What a guest is told by requests, and holds after them, is that of its own.
use Rattle.std.{proofs.Common.{◌≡◌, Bool, cond, List, [], ◌∷◌, ◌++◌, refl, sym, ap, ◌∙◌, append-nil, arith}, specs.{Prelude.{map, IsSome}, Str.bytes_eq}}
use Rattle.model_guests.{specs.{Accesses.Reply, Text.Text, Lone.LoneGuest, Guests.{guest_named, lone_of}, WorldNow.WorldNow, Calls.{CallInput, all_alone_told, after_own_call, after_own_calls}}, proofs.{Names.equal_texts, OneGuest.{lone_by, still}}}
use Rattle.model_handoff.{specs.Actions.{Action, told_by}, proofs.Actions.{isolated_by_actions, there_after}}
use Rattle.model_images.{specs.{Images.{Image, image_of_lone, lone_of_image, loaded, at_reset}, Requests.{Request, acts, loads, restarts, after_request, after_requests, told_of, all_told_of, OwnInput, acted, inputs_of_request, request_inputs, all_told_alone, after_all_own, IsolatedByRequests}, LoadLaws.{AnswersAsSaved, copied}}, proofs.Loading.{holds_as_saved, lone_reset_back}}

-- ---- a guest that is there stays there

pub there_now : (w : WorldNow) (name : Text) → IsSome (guest_named w.guests name) → (r : Request) → IsSome (guest_named (after_request w r).guests name)
there_now w name there r = grind (arith, there_after, still)

-- ---- what is a guest's own of actions

acted_holds : (is : List CallInput) (g : LoneGuest) (more : List OwnInput) → after_all_own g (map acted is ++ more) ≡ after_all_own (after_own_calls g is) more
acted_holds [] g more = refl
acted_holds (i ∷ is) g more = acted_holds is (after_own_call g i) more

acted_tells : (is : List CallInput) (g : LoneGuest) (more : List OwnInput) → all_told_alone g (map acted is ++ more) ≡ all_alone_told g is ++ all_told_alone (after_own_calls g is) more
acted_tells [] g more = refl
acted_tells (i ∷ is) g more = grind (arith, acted_tells is (after_own_call g i) more)

-- ---- one request

-- before what comes of later inputs
pub record Decides (w : WorldNow) (name : Text) (r : Request) (more : List OwnInput) : Type 0 where
  pub holds : after_all_own (lone_of w.guests name) (inputs_of_request name w r ++ more) ≡ after_all_own (lone_of (after_request w r).guests name) more
  pub tells : all_told_alone (lone_of w.guests name) (inputs_of_request name w r ++ more) ≡ told_of name w r ++ all_told_alone (lone_of (after_request w r).guests name) more

action_decides : (w : WorldNow) (name : Text) → IsSome (guest_named w.guests name) → (a : Action) (more : List OwnInput) → Decides w name (acts a) more
action_decides w name there a more = grind (arith, isolated_by_actions w name there (a ∷ []), append-nil, append-nil (told_by name w a), acted_holds, acted_tells)

loaded_now : (w : WorldNow) (n name : Text) (i : Image) → IsSome (guest_named w.guests name) → lone_of (after_request w (loads n i)).guests name ≡ cond (bytes_eq n name) (lone_of_image i) (lone_of w.guests name)
loaded_now w n name i there = lone_by (loaded i) (λ t. refl) (λ (g : LoneGuest). lone_of_image i) (λ t. refl) n name w.guests there

load_decides : (w : WorldNow) (name : Text) → IsSome (guest_named w.guests name) → (n : Text) (i : Image) (more : List OwnInput) → Decides w name (loads n i) more
load_decides w name there n i more = grind (arith, loaded_now w n name i there)

restarted_now : (w : WorldNow) (n name : Text) → IsSome (guest_named w.guests name) → lone_of (after_request w (restarts n)).guests name ≡ cond (bytes_eq n name) (at_reset (lone_of w.guests name)) (lone_of w.guests name)
restarted_now w n name there = loaded_now w n name (image_of_lone (at_reset (lone_of w.guests n))) there ∙ by (bytes_eq n name) refl
  where
    by : (t : Bool) → bytes_eq n name ≡ t → cond t (lone_of_image (image_of_lone (at_reset (lone_of w.guests n)))) (lone_of w.guests name) ≡ cond t (at_reset (lone_of w.guests name)) (lone_of w.guests name)
    by t e = grind (arith, lone_reset_back, equal_texts)

restart_decides : (w : WorldNow) (name : Text) → IsSome (guest_named w.guests name) → (n : Text) (more : List OwnInput) → Decides w name (restarts n) more
restart_decides w name there n more = grind (arith, restarted_now w n name there)

decides : (w : WorldNow) (name : Text) → IsSome (guest_named w.guests name) → (r : Request) (more : List OwnInput) → Decides w name r more
decides w name there (acts a) more = action_decides w name there a more
decides w name there (loads n i) more = load_decides w name there n i more
decides w name there (restarts n) more = restart_decides w name there n more

-- ---- requests

all_hold : (rs : List Request) (w : WorldNow) (name : Text) → IsSome (guest_named w.guests name) → lone_of (after_requests w rs).guests name ≡ after_all_own (lone_of w.guests name) (request_inputs name w rs)
all_hold [] w name there = refl
all_hold (r ∷ rs) w name there = grind (arith, there_now, decides, all_hold rs (after_request w r) name (there_now w name there r))

all_tell : (rs : List Request) (w : WorldNow) (name : Text) → IsSome (guest_named w.guests name) → all_told_of name w rs ≡ all_told_alone (lone_of w.guests name) (request_inputs name w rs)
all_tell [] w name there = refl
all_tell (r ∷ rs) w name there =
    ap (λ (x : List Reply). told_of name w r ++ x) (all_tell rs (after_request w r) name (there_now w name there r))
    ∙ sym (decides w name there r (request_inputs name (after_request w r) rs)).tells

pub isolated_by_requests : IsolatedByRequests
isolated_by_requests w name there rs = record { replies = all_tell rs w name there; holds = all_hold rs w name there }

-- ---- on another board

pub answers_as_saved : AnswersAsSaved
answers_as_saved w v from to is ones others same =
    let there = still (loaded (image_of_lone (lone_of w.guests from))) (λ t. refl) to to v.guests is.second in
    grind (arith, holds_as_saved w v from to is, isolated_by_requests w from is.first ones, isolated_by_requests (copied from w to v) to there others)
