-- Isolation along any sequence of actions, loads and restarts. A guest's replies and state depend only on its own
-- inputs: its parts of actions, and the images that are loaded into it.
--     Request      an action, or loading or resetting a guest
--     after_request, after_requests      the world after one request, and after several
--     told_of, all_told_of      the replies to a guest
--     OwnInput, inputs_of_request, request_inputs      the parts of a request that concern a guest
--     told_alone, after_own, all_told_alone, after_all_own      the effect of these inputs on the guest alone
--     IsolatedByRequests      these inputs decide the guest's replies and state
use Rattle.std.specs.{Prelude.{◌≡◌, List, [], ◌∷◌, ◌++◌, if◌then◌else◌, map, IsSome}, Str.bytes_eq}
use Rattle.model_guests.specs.{Accesses.Reply, Text.Text, Lone.LoneGuest, Guests.{guest_named, lone_of}, WorldNow.WorldNow, Calls.{CallInput, alone_told, after_own_call}}
use Rattle.model_handoff.specs.Actions.{Action, after_action, told_by, inputs_of_action}
use Rattle.model_images.specs.Images.{Image, lone_of_image, after_load, at_reset, after_restart}

pub data Request : Type 0 where
  acts : Action → Request
  loads : Text → Image → Request
  restarts : Text → Request

abbrev pub after_request : WorldNow → Request → WorldNow
after_request w (acts a) = after_action w a
after_request w (loads n i) = after_load n i w
after_request w (restarts n) = after_restart n w

abbrev pub after_requests : WorldNow → List Request → WorldNow
after_requests w [] = w
after_requests w (r ∷ more) = after_requests (after_request w r) more

-- the host gets the reply to a load or a restart
abbrev pub told_of : Text → WorldNow → Request → List Reply
told_of name w (acts a) = told_by name w a
told_of name w (loads n i) = []
told_of name w (restarts n) = []

abbrev pub all_told_of : Text → WorldNow → List Request → List Reply
all_told_of name w [] = []
all_told_of name w (r ∷ more) = told_of name w r ++ all_told_of name (after_request w r) more

-- ---- the guest's inputs

pub data OwnInput : Type 0 where
  acted : CallInput → OwnInput
  gets_image : Image → OwnInput
  restarted : OwnInput

abbrev pub inputs_of_request : Text → WorldNow → Request → List OwnInput
inputs_of_request name w (acts a) = map acted (inputs_of_action name w a)
inputs_of_request name w (loads n i) = if bytes_eq n name then gets_image i ∷ [] else []
inputs_of_request name w (restarts n) = if bytes_eq n name then restarted ∷ [] else []

abbrev pub request_inputs : Text → WorldNow → List Request → List OwnInput
request_inputs name w [] = []
request_inputs name w (r ∷ more) = inputs_of_request name w r ++ request_inputs name (after_request w r) more

-- ---- for the guest alone

abbrev pub told_alone : LoneGuest → OwnInput → List Reply
told_alone g (acted i) = alone_told g i
told_alone g (gets_image i) = []
told_alone g restarted = []

abbrev pub after_own : LoneGuest → OwnInput → LoneGuest
after_own g (acted i) = after_own_call g i
after_own g (gets_image i) = lone_of_image i
after_own g restarted = at_reset g

abbrev pub all_told_alone : LoneGuest → List OwnInput → List Reply
all_told_alone g [] = []
all_told_alone g (i ∷ is) = told_alone g i ++ all_told_alone (after_own g i) is

abbrev pub after_all_own : LoneGuest → List OwnInput → LoneGuest
after_all_own g [] = g
after_all_own g (i ∷ is) = after_all_own (after_own g i) is

pub record AreDecidedBy (is : List OwnInput) (w : WorldNow) (name : Text) (requests : List Request) : Type 0 where
  pub replies : all_told_of name w requests ≡ all_told_alone (lone_of w.guests name) is
  pub holds : lone_of (after_requests w requests).guests name ≡ after_all_own (lone_of w.guests name) is

-- in any state of a world
abbrev pub IsolatedByRequests : Type 0
IsolatedByRequests = (w : WorldNow) (name : Text) → IsSome (guest_named w.guests name) → (requests : List Request)
    → AreDecidedBy (request_inputs name w requests) w name requests
