-- Saved guests can be loaded again: at any time, each function holds values that functions with its declaration can hold.
--     IsFittingFunction, IsFitting, AreFitting      this property of a function, of a guest by itself, and of all guests
--     FittingAtFirst      it holds at first
--     IsFittingRequest, AreFittingRequests      requests whose images fit the guests that get them
--     FittingAfter, FittingAlong      it is preserved along such requests
--     declarations_of, SavedFits      the image of such a guest fits each guest with equal declarations
use Rattle.std.specs.Prelude.{◌≡◌, List, [], ◌∷◌, map, Option, Some, None, option_map, ⊤, IsTrue, IsSome, false}
use Rattle.lists.specs.Elements.{Each}
use Rattle.model_registers.specs.{Declarations.Endpoint, EndpointTable.endpoint_reset, CopiedFiles.shape_of, Decoding.Function, ConfigAddress.latched}
use Rattle.model_guests.specs.{Text.Text, World.World, Lone.LoneGuest, Guests.{GuestNow, GuestsNow, guests_at_first, guest_named, lone_of}, WorldNow.WorldNow}
use Rattle.model_images.specs.{Images.{saved, image_of_guest, fits_declaration, Fits}, Requests.{Request, acts, loads, restarts, after_request, after_requests}}

pub record IsFittingFunction (f : Function) : Type 0 where
  pub shape : shape_of f.file ≡ shape_of (endpoint_reset f.decl false)
  pub values : IsTrue (fits_declaration (saved f))

abbrev pub HoldsFitting : Option Function → Type 0
HoldsFitting None = ⊤
HoldsFitting (Some f) = IsFittingFunction f

pub record IsFitting (g : LoneGuest) : Type 0 where
  pub latch : latched g.latch ≡ g.latch
  pub functions : Each HoldsFitting g.slots

abbrev pub AreFitting : GuestsNow → Type 0
AreFitting gs = Each (λ (t : GuestNow). IsFitting t.lone) gs

abbrev pub FittingAtFirst : Type 0
FittingAtFirst = (w : World) → AreFitting (guests_at_first w)

abbrev pub IsFittingRequest : WorldNow → Request → Type 0
IsFittingRequest w (acts a) = ⊤
IsFittingRequest w (loads n i) = Fits i (lone_of w.guests n)
IsFittingRequest w (restarts n) = ⊤

abbrev pub AreFittingRequests : WorldNow → List Request → Type 0
AreFittingRequests w [] = ⊤
AreFittingRequests w (r ∷ more) = IsFittingRequest w r × AreFittingRequests (after_request w r) more

abbrev pub FittingAfter : Type 0
FittingAfter = (w : WorldNow) → AreFitting w.guests → (r : Request) → IsFittingRequest w r
    → AreFitting (after_request w r).guests

abbrev pub FittingAlong : Type 0
FittingAlong = (w : WorldNow) → AreFitting w.guests → (requests : List Request) → AreFittingRequests w requests
    → AreFitting (after_requests w requests).guests

abbrev pub declarations_of : LoneGuest → List (Option Endpoint)
declarations_of g = map (option_map (λ (f : Function). f.decl)) g.slots

-- on whatever board
abbrev pub SavedFits : Type 0
SavedFits = (w v : WorldNow) (from to : Text) → AreFitting w.guests → IsSome (guest_named w.guests from)
    → declarations_of (lone_of w.guests from) ≡ declarations_of (lone_of v.guests to)
    → Fits (image_of_guest from w) (lone_of v.guests to)
