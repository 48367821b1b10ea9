-- A guest of a world that is kept, as the host shows it, and its image.
--     places_seen      own copies change no place
--     lone_is, image_is      what a guest alone holds is what the host shows of it, and so its image
--     bytes_are, size_is      the bytes of its image, and how many they are
--     places_kept, few_slots      each function has the places that it declares, and there are 32 slots
--     filled_bytes, empty_bytes, slot_size_is      the bytes of a slot with a function, and of one without
--     filled_after, empty_after      bytes that are compared with such a slot
--     slots_go_on, slots_end      with slots, one after the other
--     header_ends, slots_decide      with a whole image
--     fault_told      what is told of that
--     image_put      an image that is put into a buffer, part by part
--     size_now, fault_now      what calls about a guest answer
use Rattle.std.{proofs.Common.{◌≡◌, ◌≤◌, ◌+◌, ℕ, zero, suc, false, List, [], ◌∷◌, ◌++◌, length, Some, None, Option, Ok, Err, slice_get, refl, sym, ap, ap₂, ◌∙◌, subst, arith, length-append}, specs.{Prelude.{map, option_map, IfErr, IfOk, Result}, Result.result_err}}
use Rattle.lists.{specs.Elements.Each, proofs.{EachLemmas.each_from_map, Members.flat_map_map}}
use Rattle.model_registers.specs.{Registers.{File, Place, PlacedCell}, EndpointTable.endpoint_reset, OwnCopies.{OwnCopies, own_file}, CopiedFiles.{copied, places_of, with_copies}, Decoding.Function}
use Rattle.model_board.specs.{Paths.Path, Board.Board, AtReset.board_at, State.BoardFunction}
use Rattle.model_guests.{specs.{Slots.Slots, Text.Text, Lone.LoneGuest, Guests.{GuestNow, lone_of}, WorldNow.WorldNow, Seated.AreSeats}, proofs.FoundFiles.same_places}
use Rattle.model_images.specs.{Images.{Image, image_of_lone, image_of_guest}, Layouts.le_bytes, ImageBytes.{image_bytes, magic, version}, LoadedBytes.{Left, after_beginning, after_bytes, after_image, after_latch, after_slot, after_slots, fault_of, header, load_fault, then_read}}
use Rattle.images.{specs.{declared.fault.ImageFault.ImageFault, Faults.number_of, Puts.put, Shown.{HasDeclaredPlaces, after_filled, function_bytes, seen, slot_bytes}}, proofs.{Puts.next, ComparedFunctions.filled_is, ShownValues.guest_bytes}}
use Rattle.host_bridge.specs.HostState.{HostState}
use Rattle.monitor.{specs.{declared.guest.{AssignedFunction.AssignedFunction, Guest.Guest}, Views.{guests_shown, slot_shown}, ByIndex.{guest_nth, lone_nth, name_nth}, ShownImages.{HasPlaces, HavePlaces, lone_shown, slots_image}}, proofs.{Shown.is_shown, Steps.{GuestAt, lone_named, slots_count}, Reached.seated}}

-- ---- places

place_kept : (copies : File) (x : PlacedCell) → (copied copies x).place ≡ x.place
place_kept copies x = grind arith

same_with : (copies file : File) → places_of (with_copies copies file) ≡ places_of file
same_with copies [] = refl
same_with copies (x ∷ xs) = ap₂ (λ (p : Place) (ps : List Place). p ∷ ps) (place_kept copies x) (same_with copies xs)

pub places_seen : (e : Function) (own : OwnCopies) → HasDeclaredPlaces (seen e own) → HasDeclaredPlaces e
places_seen e own h = sym (same_with (own_file own) e.file) ∙ h

places_seated : (b : Board) (qs : List (Option Path)) (fs : Slots) → AreSeats b qs fs → Each HasPlaces fs
places_seated b [] [] h = tt
places_seated b [] (f ∷ fs) h = absurd h
places_seated b (q ∷ qs) [] h = absurd h
places_seated b (q ∷ qs) (None ∷ fs) h = (tt, places_seated b qs fs h.1)
places_seated b (None ∷ qs) (Some f ∷ fs) h = absurd h.0
places_seated b (Some p ∷ qs) (Some f ∷ fs) h = (same_places f.file (endpoint_reset f.decl false) h.0.shape, places_seated b qs fs h.1)

-- ---- a guest by its index

shown_nth : (fs : List BoardFunction) (ts : List Text) (gs : List Guest) (i : ℕ) (g : Guest) (x : GuestNow) → slice_get gs i ≡ Some g → slice_get (guests_shown fs ts gs) i ≡ Some x → x.lone ≡ lone_shown fs g
shown_nth fs [] gs i g x stands at = cc
shown_nth fs (t ∷ ts) [] i g x stands at = cc
shown_nth fs (t ∷ ts) (k ∷ gs) zero g x stands at = grind arith
shown_nth fs (t ∷ ts) (k ∷ gs) (suc i) g x stands at = shown_nth fs ts gs i g x stands at

module _ {w : WorldNow} {h : HostState} {names : List Text} {gs : List Guest} {i : ℕ} {g : Guest} (at : GuestAt w h names gs i g) where
  abbrev fs : List BoardFunction
  fs = h.state.functions

  pub lone_is : lone_nth w i ≡ lone_shown h.state.functions g
  lone_is = shown_nth fs names gs i g (guest_nth w i) at.stands (ap (λ (v : WorldNow). slice_get v.guests i) (is_shown w h names gs at.kept) ∙ at.there)

  pub lone_by_name_is : lone_of w.guests (name_nth w i) ≡ lone_shown h.state.functions g
  lone_by_name_is = lone_named at ∙ lone_is

  pub image_is : image_of_guest (name_nth w i) w ≡ image_of_lone (lone_shown h.state.functions g)
  image_is = ap (λ (l : LoneGuest). image_of_lone l) lone_by_name_is

  pub places_kept : HavePlaces h.state.functions g.slots.items
  places_kept =
      each_from_map HasPlaces (slot_shown fs) g.slots.items
      (subst (λ (l : LoneGuest). Each HasPlaces l.slots) lone_is (places_seated (board_at w.handoff.functions) (guest_nth w i).paths (lone_nth w i).slots (seated at).seats))

  pub few_slots : length g.slots.items ≡ 32
  few_slots = slots_count w.handoff (guest_nth w i).paths (lone_nth w i).slots g.slots.items at.is.slots ∙ (seated at).count

-- ---- the bytes of its image

module _ (fs : List BoardFunction) (g : Guest) where
  pub bytes_are : image_bytes (image_of_lone (lone_shown fs g)) ≡ header ++ (le_bytes 4 g.latch ++ slots_image fs g.slots.items)
  bytes_are = guest_bytes (lone_shown fs g) ∙ ap (λ (xs : List ℕ). header ++ (le_bytes 4 g.latch ++ xs)) (flat_map_map slot_bytes (slot_shown fs) g.slots.items)

  pub size_is : length (image_bytes (image_of_lone (lone_shown fs g))) ≡ 12 + length (slots_image fs g.slots.items)
  size_is = grind (arith, bytes_are, length-append)

pub filled_bytes : (o : Option Function) (f : Function) → Some f ≡ o → (1 ∷ []) ++ function_bytes f ≡ slot_bytes o
filled_bytes o f is = ap (λ (x : Option Function). slot_bytes x) is

pub empty_bytes : (o : Option Function) → None ≡ o → 0 ∷ [] ≡ slot_bytes o
empty_bytes o is = ap (λ (x : Option Function). slot_bytes x) is

pub slot_size_is : (o : Option Function) (e : Function) (own : OwnCopies) (n : ℕ) → Some (seen e own) ≡ o → ((p : OwnCopies) → n ≡ length (function_bytes (seen e p))) → 1 + n ≡ length (slot_bytes o)
slot_size_is o e own n is many = grind (arith, filled_bytes)

-- ---- bytes that are compared with it

pub filled_after : (o : Option Function) (f : Function) (bytes : List ℕ) → Some f ≡ o → after_filled f.decl bytes ≡ after_slot o bytes
filled_after o f bytes is = filled_is f bytes ∙ ap (λ (x : Option Function). after_slot x bytes) is

pub empty_after : (o : Option Function) (bytes : List ℕ) → None ≡ o → after_bytes 906 (0 ∷ []) bytes ≡ after_slot o bytes
empty_after o bytes is = ap (λ (x : Option Function). after_slot x bytes) is

module _ (fs : List BoardFunction) where
  pub slots_go_on : (o : Option AssignedFunction) (left others : List (Option AssignedFunction)) (bytes rest : List ℕ) → left ≡ o ∷ others → after_slot (slot_shown fs o) bytes ≡ Ok rest
      → after_slots (map (slot_shown fs) others) rest ≡ after_slots (map (slot_shown fs) left) bytes
  slots_go_on o left others bytes rest first h = grind arith

  pub slots_end : (o : Option AssignedFunction) (left others : List (Option AssignedFunction)) (bytes : List ℕ) (n : ℕ) → left ≡ o ∷ others → after_slot (slot_shown fs o) bytes ≡ Err n
      → after_slots (map (slot_shown fs) left) bytes ≡ Err n
  slots_end o left others bytes n first h = grind arith

module _ (g : LoneGuest) (bytes : List ℕ) where
  pub header_ends : (n : ℕ) → after_beginning magic version bytes ≡ Err n → after_image g bytes ≡ Err n
  header_ends n h = ap (λ (l : Left). then_read (after_slots g.slots) (then_read after_latch l)) h

  module _ (next : List ℕ) (headed : after_beginning magic version bytes ≡ Ok next) where
    pub slots_decide : (rest : List ℕ) → after_latch next ≡ Ok rest → after_slots g.slots rest ≡ after_image g bytes
    slots_decide rest h = sym (ap (λ (l : Left). then_read (after_slots g.slots) (then_read after_latch l)) headed ∙ ap (then_read (after_slots g.slots)) h)

pub fault_told : {A : Type 0} (r : Result A ImageFault) (l : Left) → IfOk r (λ _. l ≡ Ok []) → IfErr r (λ why. l ≡ Err (number_of why)) → option_map number_of (result_err r) ≡ fault_of l
fault_told (Ok a) l all refused = sym (ap fault_of all)
fault_told (Err why) l all refused = sym (ap fault_of refused)

-- ---- an image that is put into a buffer

pub image_put : (fs : List BoardFunction) (g : Guest) (n m : ℕ) (out one two new : List ℕ) → length (image_bytes (image_of_lone (lone_shown fs g))) ≤ length out
    → one ≡ put 0 header out → n ≡ 0 + length header → two ≡ put n (le_bytes 4 g.latch) one → m ≡ n + length (le_bytes 4 g.latch) → new ≡ put m (slots_image fs g.slots.items) two
    → new ≡ put 0 (image_bytes (image_of_lone (lone_shown fs g))) out
image_put fs g n m out one two new room put_one at_one put_two at_two put_slots =
    let rest : List ℕ = le_bytes 4 g.latch ++ slots_image fs g.slots.items in
    let all = subst (λ (xs : List ℕ). length xs ≤ length out) (bytes_are fs g) room in
    let a = next 0 n header rest out one put_one at_one (omega (arith, all)) in
    let b = next n m (le_bytes 4 g.latch) (slots_image fs g.slots.items) one two put_two at_two a.room in
    put_slots ∙ b.bytes ∙ a.bytes ∙ ap (λ (xs : List ℕ). put 0 xs out) (sym (bytes_are fs g))

-- ---- a call about a guest of a world that is kept

module _ {w : WorldNow} {h : HostState} {names : List Text} {gs : List Guest} {i : ℕ} {g : Guest} (at : GuestAt w h names gs i g) where
  pub size_now : length (image_bytes (image_of_guest (name_nth w i) w)) ≡ 12 + length (slots_image h.state.functions g.slots.items)
  size_now = ap (λ (x : Image). length (image_bytes x)) (image_is at) ∙ size_is h.state.functions g

  pub fault_now : {A : Type 0} (r : Result A ImageFault) (bytes : List ℕ) → IfOk r (λ _. after_image (lone_shown h.state.functions g) bytes ≡ Ok []) → IfErr r (λ why. after_image (lone_shown h.state.functions g) bytes ≡ Err (number_of why))
      → option_map number_of (result_err r) ≡ load_fault (lone_of w.guests (name_nth w i)) bytes
  fault_now r bytes all refused = fault_told r (after_image (lone_shown h.state.functions g) bytes) all refused ∙ ap (λ (l : LoneGuest). load_fault l bytes) (sym (lone_by_name_is at))
