-- Along requests the world stays lawful, and a guest's count tells whether its answers may be others.
use Rattle.std.{proofs.Common.{◌≡◌, ◌+◌, ◌^◌, ◌%◌, ℕ, Bool, false, cond, List, [], ◌∷◌, Some, None, refl, sym, ap, subst, arith}, specs.Prelude.{map, option_map, IsSome}}
use Rattle.model_guests.specs.{Text.Text, Slots.Slots, Lone.LoneGuest, Guests.{guest_named, lone_of}, WorldNow.{WorldNow, names_now}}
use Rattle.model_handoff.{specs.{Kept.IsLawfulOver, Changes.{after_change, MachineNow}, CountLaws.{HaveSameAnswers, IsCounted}}, proofs.Counting.{counted_by, grown, lawful_after_action, names_after, none_counted, none_first, regions_stay_along, same_guest, there_by_index}}
use Rattle.model_images.{specs.{Images.{image_of_lone, saved, function_at_reset, at_reset, Fits, FitSlots}, Requests.{Request, acts, loads, restarts, after_request, after_requests}, FitLaws.IsFittingRequest, RequestLaws.{LawfulAlongRequests, changes_by, changes_along, after_request_on_machine, after_all_requests, AnswersStayAlong, RequestCountsGrow, AnswersStayByCount}}, proofs.{Loading.{lawful_after_load, names_after_load, others_after_load}, Requests.there_now, Fitting.reset_fits}}

-- ---- lawful worlds

reset_slots_fit : (fs : Slots) → FitSlots (map (option_map saved) (map function_at_reset fs)) fs
reset_slots_fit [] = tt
reset_slots_fit (None ∷ fs) = (tt, reset_slots_fit fs)
reset_slots_fit (Some f ∷ fs) = (record { decl = refl; values = (reset_fits f.decl).values }, reset_slots_fit fs)

reset_fits_guest : (g : LoneGuest) → Fits (image_of_lone (at_reset g)) g
reset_fits_guest g = record { latch = refl; slots = reset_slots_fit g.slots }

lawful_after_request : (w : WorldNow) → IsLawfulOver w → (r : Request) → IsFittingRequest w r → IsLawfulOver (after_request w r)
lawful_after_request w h (acts a) fits = lawful_after_action w h a
lawful_after_request w h (loads n i) fits = lawful_after_load w h n i fits
lawful_after_request w h (restarts n) fits = lawful_after_load w h n (image_of_lone (at_reset (lone_of w.guests n))) (reset_fits_guest (lone_of w.guests n))

pub lawful_along_requests : LawfulAlongRequests
lawful_along_requests w h [] fits = h
lawful_along_requests w h (r ∷ rs) fits = lawful_along_requests (after_request w r) (lawful_after_request w h r fits.0) rs fits.1

-- ---- answers

stay_by_request : (w : WorldNow) → IsLawfulOver w → (name : Text) → IsSome (guest_named w.guests name) → (r : Request) → changes_by name w r ≡ false → HaveSameAnswers w (after_request w r) name
stay_by_request w h name there (acts a) none = regions_stay_along w h name there (a ∷ []) (ap (λ (t : Bool). cond t 1 0 + 0) none)
stay_by_request w h name there (loads n i) none = same_guest w h name there (after_request w (loads n i)) (others_after_load w n name i none)
stay_by_request w h name there (restarts n) none = same_guest w h name there (after_request w (restarts n)) (others_after_load w n name (image_of_lone (at_reset (lone_of w.guests n))) none)

pub answers_stay_along : AnswersStayAlong
answers_stay_along w h name there [] fits none slot n = refl
answers_stay_along w h name there (r ∷ rs) fits none slot n = grind (arith, none_first, lawful_after_request, there_now, stay_by_request, answers_stay_along (after_request w r) (lawful_after_request w h r fits.0) name (there_now w name there r) rs fits.1)

-- ---- counts

pub names_stay : (w : WorldNow) (r : Request) → names_now (after_request w r) ≡ names_now w
names_stay w r = grind (arith, names_after, names_after_load)

counted_after : (m : MachineNow) (i : ℕ) (name : Text) (n : ℕ) → IsCounted m i name n → (r : Request) → IsCounted (after_request_on_machine m r) i name (after_change (changes_by name m.world r) n)
counted_after m i name n is r = counted_by m (after_request m.world r) (names_stay m.world r) (λ t. changes_by t m.world r) i name n is

pub request_counts_grow : RequestCountsGrow
request_counts_grow m i name n is [] = subst (IsCounted m i name) (let whole : n ≡ (n + 0) % 2 ^ 64 = let fits = is.fits in omega arith in whole) is
request_counts_grow m i name n is (r ∷ rs) = grind (arith, grown, counted_after, request_counts_grow (after_request_on_machine m r) i name (after_change (changes_by name m.world r) n) (counted_after m i name n is r) rs)

pub world_along : (rs : List Request) (m : MachineNow) → (after_all_requests m rs).world ≡ after_requests m.world rs
world_along [] m = refl
world_along (r ∷ rs) m = world_along rs (after_request_on_machine m r)

pub answers_stay_by_count : AnswersStayByCount
answers_stay_by_count m h i name n is rs fits few later =
    subst (λ (v : WorldNow). HaveSameAnswers m.world v name) (sym (world_along rs m))
    (answers_stay_along m.world h name (there_by_index m.world.guests i name is.named) rs fits
    (none_counted m (after_all_requests m rs) i name n (changes_along name m.world rs) is (request_counts_grow m i name n is rs) few later))
