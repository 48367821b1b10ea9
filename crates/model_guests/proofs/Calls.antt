-- What a guest is told by a call, and holds after it, is that of its own.
use Rattle.std.{proofs.Common.{◌≡◌, Bool, cond, List, [], ◌∷◌, ◌++◌, refl, ◌∙◌, arith}, specs.{Prelude.{map, IsSome}, Str.bytes_eq}}
use Rattle.model_guests.{specs.{Accesses.{Reply, refused}, Text.Text, Grammar.{guest, host, nobody}, Lone.{LoneGuest, answer, after_event}, Guests.{GuestsNow, guest_named, lone_of, guest_after}, Lines.{nothing, guest_event, host_read, host_move, bad}, WorldNow.WorldNow, Inputs.{Input, after_input, after_inputs}, DeviceEvents.{device_answer, after_device_event, device_after}, Calls.{Call, asks, at_device, after_call, told, CallInput, own_event, own_bad, own_device, moved, inputs_of_call, alone_told, all_alone_told, after_own_calls}}, proofs.{Names.equal_texts, OneGuest.{lone_by, still, touched}}}

-- ---- moves

after_moved : (is : List Input) (g : LoneGuest) → after_own_calls g (map moved is) ≡ after_inputs g is
after_moved [] g = refl
after_moved (i ∷ is) g = after_moved is (after_input g i)

-- ---- one call

pub holds_after : (w : WorldNow) (name : Text) → IsSome (guest_named w.guests name) → (c : Call)
    → lone_of (after_call w c).guests name ≡ after_own_calls (lone_of w.guests name) (inputs_of_call name w.guests c)
holds_after w name there (asks nothing) = refl
holds_after w name there (asks (guest_event n e)) = lone_by (guest_after e) (λ t. refl) (λ (g : LoneGuest). after_event g e) (λ t. refl) n name w.guests there ∙ cases (bytes_eq n name)
  where
    cases : (t : Bool) → cond t (after_event (lone_of w.guests name) e) (lone_of w.guests name) ≡ after_own_calls (lone_of w.guests name) (cond t (own_event e ∷ []) [])
    cases t = grind arith
holds_after w name there (asks (host_read r)) = refl
holds_after w name there (asks (host_move m)) = grind (arith, touched, after_moved)
holds_after w name there (asks (bad (guest n) k)) = grind arith
holds_after w name there (asks (bad host k)) = refl
holds_after w name there (asks (bad nobody k)) = refl
holds_after w name there (at_device n e) = lone_by (device_after e) (λ t. refl) (λ (g : LoneGuest). after_device_event g e) (λ t. refl) n name w.guests there ∙ cases (bytes_eq n name)
  where
    cases : (t : Bool) → cond t (after_device_event (lone_of w.guests name) e) (lone_of w.guests name) ≡ after_own_calls (lone_of w.guests name) (cond t (own_device e ∷ []) [])
    cases t = grind arith

pub there_after : (w : WorldNow) (name : Text) → IsSome (guest_named w.guests name) → (c : Call) → IsSome (guest_named (after_call w c).guests name)
there_after w name there c = grind (arith, still)

-- what the guest is told, before what comes of later inputs
abbrev pub Tells : WorldNow → Text → Call → Type 0
Tells w name c = (more : List CallInput) → all_alone_told (lone_of w.guests name) (inputs_of_call name w.guests c ++ more)
    ≡ told name w c ++ all_alone_told (after_own_calls (lone_of w.guests name) (inputs_of_call name w.guests c)) more

own_reply : (gs : GuestsNow) (n name : Text) (answer_of : LoneGuest → Reply) (i : CallInput) → ((g : LoneGuest) → alone_told g i ≡ answer_of g ∷ []) → (more : List CallInput)
    → all_alone_told (lone_of gs name) (cond (bytes_eq n name) (i ∷ []) [] ++ more)
    ≡ cond (bytes_eq n name) (answer_of (lone_of gs n) ∷ []) [] ++ all_alone_told (after_own_calls (lone_of gs name) (cond (bytes_eq n name) (i ∷ []) [])) more
own_reply gs n name answer_of i tells more = grind (arith, tells (lone_of gs name), equal_texts n name)

pub tells : (w : WorldNow) (name : Text) (c : Call) → Tells w name c
tells w name (asks nothing) more = refl
tells w name (asks (guest_event n e)) more = own_reply w.guests n name (λ g. answer g e) (own_event e) (λ g. refl) more
tells w name (asks (host_read r)) more = refl
tells w name (asks (host_move m)) more = grind arith
tells w name (asks (bad (guest n) k)) more = own_reply w.guests n name (λ g. refused k) (own_bad k) (λ g. refl) more
tells w name (asks (bad host k)) more = refl
tells w name (asks (bad nobody k)) more = refl
tells w name (at_device n e) more = own_reply w.guests n name (λ g. device_answer g e) (own_device e) (λ g. refl) more
