-- Every function in a slot has the lists of its declaration, because writes, raises and moves leave them as they are.
use Rattle.std.{proofs.{Common.{◌≡◌, ℕ, zero, suc, ◌+◌, ◌-◌, ◌*◌, ◌≤◌, Bool, true, false, cond, List, [], ◌∷◌, ◌++◌, length, Some, None, Option, refl, sym, ap, ◌∙◌, subst, arith}, lemmas.Bool.{Decides.nat_tests}}, specs.{Prelude.{slice_set, replicate, is_some, ⊤, MatchOption, bit_and}, Option.option_map_or}}
use Rattle.lists.{specs.Elements.Each, proofs.EachLemmas.{each_append, each_map, each_of_map}}
use Rattle.model_registers.{specs.{Cell.Cell, Registers.{Place, config, File, all_bytes}, Declarations.Endpoint, DeclarationRules.IsLawfulEndpoint, EndpointTable.endpoint_reset, Decoding.Function, OwnCopies.is_own, Capabilities.{Capability, byte, Finds, Change, write_of, raise_of, after_change}}, proofs.Capabilities.{HoldsLists, lists_held, lists_after, list_shown}}
use Rattle.model_guests.specs.{Accesses.{Op, reads, writes, Event, access, raises, Raise}, Slots.{Slots, slot_at, Landing, landing, effect, raise_landing, event_fault, with_file, reset_function, reset_slots}, Lone.{LoneGuest, Destination, own_latch, no_function, at_target, destination, after_access_at, changed_by, after_event, reset_guest}, Inputs.{Input, own_line, loses, gets, lone_event, after_own, after_input, after_inputs}, CapabilityLists.{IsLawfulInput, GuestsFindLists, BoardShowsLists}}

-- ---- what a function has become

pub record IsReached (f : Function) : Type 0 where
  pub lawful : IsLawfulEndpoint f.decl
  pub lists : HoldsLists f.decl f.file

abbrev pub MayBeReached : Option Function → Type 0
MayBeReached o = MatchOption o ⊤ IsReached

abbrev pub AllReached : Slots → Type 0
AllReached slots = Each MayBeReached slots

one_more : (f : Function) (c : Change) → IsReached f → IsReached (record f { file = after_change f.file c })
one_more f c is = record { lawful = is.lawful; lists = lists_after c f.decl f.file is.lists }

pub at_reset : (d : Endpoint) → IsLawfulEndpoint d → IsReached (record { decl = d; file = endpoint_reset d false })
at_reset d lawful = record { lawful = lawful; lists = lists_held d lawful false 0 (λ r. 0) }

-- ---- slots

pub set_reached : (slots : Slots) (n : ℕ) (o : Option Function) → AllReached slots → MayBeReached o → AllReached (slice_set slots n o)
set_reached [] n o h k = grind arith
set_reached (x ∷ xs) zero o h k = (k, h.1)
set_reached (x ∷ xs) (suc n) o h k = (h.0, set_reached xs n o h.1 k)

pub at_reached : (slots : Slots) (n : ℕ) → AllReached slots → MayBeReached (slot_at slots n)
at_reached [] n h = grind arith
at_reached (x ∷ xs) zero h = h.0
at_reached (x ∷ xs) (suc n) h = at_reached xs n h.1

put_reached : (c : Change) (n : ℕ) (slots : Slots) (o : Option Function) → AllReached slots → MayBeReached o
    → AllReached (option_map_or (λ (f : Function). slice_set slots n (Some (record f { file = after_change f.file c }))) o slots)
put_reached c n slots None h k = h
put_reached c n slots (Some f) h k = set_reached slots n (Some (record f { file = after_change f.file c })) h (one_more f c k)

with_file_reached : (c : Change) (n : ℕ) (slots : Slots) → AllReached slots → AllReached (with_file (λ file. after_change file c) n slots)
with_file_reached c n slots h = put_reached c n slots (slot_at slots n) h (at_reached slots n h)

-- ---- events

effect_reached : (v w : ℕ) (slots : Slots) (l : Option Landing) → AllReached slots → AllReached (effect (writes v) w slots l)
effect_reached v w slots None h = h
effect_reached v w slots (Some l) h = with_file_reached (write_of (all_bytes w) v l.place) l.slot slots h

access_reached : (g : LoneGuest) (op : Op) (w : ℕ) (d : Destination) → AllReached g.slots → AllReached (after_access_at g op w d).slots
access_reached g reads w d h = h
access_reached g (writes v) w own_latch h = h
access_reached g (writes v) w no_function h = h
access_reached g (writes v) w (at_target t) h = effect_reached v w g.slots (landing g.slots t) h

raise_reached : (slots : Slots) (r : Raise) (p : Option Place) → AllReached slots
    → AllReached (option_map_or (λ (q : Place). with_file (λ file. after_change file (raise_of r.mask q)) r.slot slots) p slots)
raise_reached slots r None h = h
raise_reached slots r (Some p) h = with_file_reached (raise_of r.mask p) r.slot slots h

changed_reached : (g : LoneGuest) (e : Event) → AllReached g.slots → AllReached (changed_by g e).slots
changed_reached g (access a) h = access_reached g a.op a.width (destination g.latch a.width a.target) h
changed_reached g (raises r) h = raise_reached g.slots r (raise_landing (slot_at g.slots r.slot) r) h

either_reached : (t : Bool) (a b : LoneGuest) → AllReached a.slots → AllReached b.slots → AllReached (cond t a b).slots
either_reached true a b h k = h
either_reached false a b h k = k

pub event_reached : (g : LoneGuest) (e : Event) → AllReached g.slots → AllReached (after_event g e).slots
event_reached g e h = either_reached (is_some (event_fault g.slots e)) g (changed_by g e) h (changed_reached g e h)

own_reached : (g : LoneGuest) (e : Option Event) → AllReached g.slots → AllReached (after_own g e).slots
own_reached g None h = h
own_reached g (Some e) h = event_reached g e h

input_reached : (g : LoneGuest) (i : Input) → IsLawfulInput i → AllReached g.slots → AllReached (after_input g i).slots
input_reached g (own_line line) lawful h = own_reached g (lone_event line) h
input_reached g (loses n) lawful h = set_reached g.slots n None h tt
input_reached g (gets n d) lawful h = set_reached g.slots n (reset_function (Some d)) h (at_reset d lawful)

inputs_reached : (g : LoneGuest) (is : List Input) → Each IsLawfulInput is → AllReached g.slots → AllReached (after_inputs g is).slots
inputs_reached g [] lawful h = h
inputs_reached g (i ∷ is) lawful h = inputs_reached (after_input g i) is lawful.1 (input_reached g i lawful.0 h)

-- ---- at first

first_reached : (o : Option Endpoint) → MatchOption o ⊤ IsLawfulEndpoint → MayBeReached (reset_function o)
first_reached None h = tt
first_reached (Some d) h = at_reset d h

no_functions : (n : ℕ) → Each (λ (o : Option Endpoint). MayBeReached (reset_function o)) (replicate n None)
no_functions zero = tt
no_functions (suc n) = (tt, no_functions n)

pub slots_reached : (ds : List (Option Endpoint)) → Each (λ o. MatchOption o ⊤ IsLawfulEndpoint) ds → AllReached (reset_slots ds)
slots_reached ds lawful =
    let rest : List (Option Endpoint) = replicate (32 - length ds) None in
    each_of_map MayBeReached reset_function (ds ++ rest)
    (each_append (λ (o : Option Endpoint). MayBeReached (reset_function o)) ds rest
    (each_map (λ (o : Option Endpoint). MatchOption o ⊤ IsLawfulEndpoint) (λ o. MayBeReached (reset_function o)) ds first_reached lawful)
    (no_functions (32 - length ds)))

pub guests_find_lists : GuestsFindLists
guests_find_lists ds lawful is inputs n f at d c cs same ids =
    let slots : Slots = (after_inputs (reset_guest ds) is).slots in
    let all : AllReached slots = inputs_reached (reset_guest ds) is inputs (slots_reached ds lawful) in
    let reached : IsReached f = subst MayBeReached at (at_reached slots n all) in
    list_shown d (c ∷ cs) f.file (reached.lists d c cs same ids)

-- ---- on the board

finds_too : (own now : File) → ((q : ℕ) → 0x40 ≤ q → byte now q ≡ byte own q) → (at : ℕ) (cs : List Capability) → Each (λ (c : Capability). 0x40 ≤ c.offset) cs → Finds own at cs → Finds now at cs
finds_too own now same at [] h k = k
finds_too own now same at (c ∷ cs) h k =
    let high : 0x40 ≤ at = subst (λ (n : ℕ). 0x40 ≤ n) (sym k.0) h.0 in
    let rest : Finds now (byte own (at + 1)) cs = finds_too own now same (byte own (at + 1)) cs h.1 k.2 in
    (k.0, same at high ∙ k.1, subst (λ (n : ℕ). Finds now n cs) (sym (same (at + 1) (omega (arith, high)))) rest)

no_copy : (q : ℕ) → 0x40 ≤ q → is_own (config q) ≡ false
no_copy q h = grind (arith, nat_tests)

pub board_shows_lists : BoardShowsLists
board_shows_lists left own now holds cs high shows =
    let same : (q : ℕ) → is_own (config q) ≡ false → byte now q ≡ byte own q = λ q other. ap (λ (c : Cell). c.value + 256 * 0) (holds.common (config q) other) in
    record {
      status = ap (λ n. bit_and n 0x10) (same 6 refl) ∙ shows.status;
      walk = subst (λ (n : ℕ). Finds now n cs) (sym (same 0x34 refl)) (finds_too own now (λ q h. same q (no_copy q h)) (byte own 0x34) cs high shows.walk);
    }
