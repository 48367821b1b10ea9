-- Along a script guests stay seated and keep their names, and the handoff stays.
use Rattle.std.{proofs.Common.{◌≡◌, ℕ, zero, suc, cond, List, [], ◌∷◌, Some, refl, ap, ap₂, ◌∙◌, subst, arith}, specs.Prelude.{map, slice_set}}
use Rattle.model_board.specs.Board.{Board}
use Rattle.model_guests.{specs.{Text.Text, World.{Guest, World, names}, Guests.{GuestNow, GuestsNow, guest_at_first, guests_at_first, guest_named, with_guest}, Lines.{Meaning, meaning}, WorldNow.{WorldNow, world_over, names_of, names_now, guests_after, after_line, after_lines}, Seated.{AreSeated, ByIndex, SeatedAlong}, WorldLaws.{NamesStay, NamesAlong, HandoffStays}}, proofs.{Names.same_text, GuestFiles.other_name, GuestsByName.{Keeps, one_name}, Seats.seated_after_events, SeatedMoves.seated_after_moves, FoundFiles.others_stay}}
use Rattle.lists.proofs.Indices.{each_at}

pub seated_meaning : (b : Board) (gs : GuestsNow) (m : Meaning) → AreSeated b gs → AreSeated b (guests_after gs m)
seated_meaning b gs m h = grind (arith, seated_after_events, seated_after_moves)

pub seated_along : SeatedAlong
seated_along b w h [] = h
seated_along b w h (l ∷ ls) = seated_along b (after_line w l) (seated_meaning b w.guests (meaning (names_now w) l) h) ls

pub handoff_stays : HandoffStays
handoff_stays w [] = refl
handoff_stays w (l ∷ ls) = handoff_stays (after_line w l) ls

-- ---- names

pub names_with : (f : GuestNow → GuestNow) → Keeps f → (n : Text) (gs : GuestsNow) → names_of (with_guest f n gs) ≡ names_of gs
names_with f keeps n [] = refl
names_with f keeps n (g ∷ gs) = ap₂ (λ (x : Text) (xs : List Text). x ∷ xs) (one_name f keeps n g) (names_with f keeps n gs)

pub names_meaning : (gs : GuestsNow) (m : Meaning) → names_of (guests_after gs m) ≡ names_of gs
names_meaning gs m = grind (arith, names_with)

pub names_stay : NamesStay
names_stay w l = names_meaning w.guests (meaning (names_now w) l)

names_lines : (ls : List Text) (w : WorldNow) → names_now (after_lines w ls) ≡ names_now w
names_lines [] w = refl
names_lines (l ∷ ls) w = names_lines ls (after_line w l) ∙ names_stay w l

names_first : (w : World) (gs : List Guest) → names_of (map (guest_at_first w) gs) ≡ map (λ (g : Guest). g.name) gs
names_first w [] = refl
names_first w (g ∷ gs) = ap (λ (xs : List Text). g.name ∷ xs) (names_first w gs)

pub names_at_first : (w : World) → names_of (guests_at_first w) ≡ names w
names_at_first w = names_first w w.guests

pub names_along : NamesAlong
names_along w s ls = names_lines ls (world_over w s) ∙ names_at_first w

-- ---- by index

abbrev IsThere : GuestsNow → ℕ → GuestNow → Type 0
IsThere gs i g = (guest_named gs g.name ≡ Some g) × ((f : GuestNow → GuestNow) → with_guest f g.name gs ≡ slice_set gs i (f g))

pub by_index : ByIndex
by_index [] apart i g at = cc
by_index (h ∷ hs) apart zero g at =
    let same : h ≡ g = cc in
    subst (IsThere (h ∷ hs) 0) same (
      ap (λ v. cond v (Some h) (guest_named hs h.name)) (same_text h.name),
      λ f. ap₂ (λ (x : GuestNow) (xs : GuestsNow). x ∷ xs) (ap (λ v. cond v (f h) h) (same_text h.name)) (others_stay f h.name hs apart.0),
    )
by_index (h ∷ hs) apart (suc i) g at = grind (arith, each_at, by_index hs apart.1 i g, other_name)
