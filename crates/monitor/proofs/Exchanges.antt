-- Guests after a slot of one of them has another function, or none.
use Rattle.std.proofs.{Common.{◌≡◌, ℕ, zero, suc, ◌<◌, List, [], ◌∷◌, length, Some, Option, slice_get, slice_set, refl, sym, ap, ◌∙◌, subst, arith, ◌≤◌, rules}, lemmas.{List.{length-set, set-set}, Option.slice_get_within}}
use Rattle.lists.proofs.Indices.{get_set}
use Rattle.model_guests.specs.{Text.Text, WorldNow.WorldNow}
use Rattle.host_bridge.specs.HostState.{HostState}
use Rattle.monitor.{specs.{declared.guest.{AssignedFunction.AssignedFunction, Guest.Guest}, ByIndex.{guest_nth, lone_nth}, Configs.HoldsAt, Moves.{HasSlot, HandsOver, IsExchanged}}, proofs.{Steps.{GuestAt, SlotAt, slots_count}, Reached.seated}}

-- one slot twice
pub exchanged_twice : {gs left new : List Guest} {i n : ℕ} {was o empty p : Option AssignedFunction} → IsExchanged gs i n was o left → IsExchanged left i n empty p new → IsExchanged gs i n was p new
exchanged_twice {gs} {left} {new} {i} {n} {was} {o} {empty} {p} one two =
    let there : slice_get left i ≡ Some one.guest = ap (λ (xs : List Guest). slice_get xs i) one.after ∙ get_set gs i one.before one.guest one.there in
    let same : two.before ≡ one.guest = let a = two.there in cc in
    record {
      before = one.before;
      there = one.there;
      had = one.had;
      guest = two.guest;
      after = two.after ∙ ap (λ (xs : List Guest). slice_set xs i two.guest) one.after ∙ set-set gs i one.guest two.guest;
      latch = two.latch ∙ ap (λ (k : Guest). k.latch) same ∙ one.latch;
      items = two.items ∙ ap (λ (k : Guest). slice_set k.slots.items n p) same ∙ ap (λ (os : List (Option AssignedFunction)). slice_set os n p) one.items ∙ set-set one.before.slots.items n o p;
    }

-- every guest has as many slots as before
has_still : (gs : List Guest) (i j m : ℕ) (k g : Guest) → slice_get gs i ≡ Some g → length k.slots.items ≡ length g.slots.items → HasSlot gs j m → HasSlot (slice_set gs i k) j m
has_still [] i j m k g at same has = cc
has_still (x ∷ gs) zero zero m k g at same has =
    let one : x ≡ g = cc in
    let two : x ≡ has.guest = cc has.there in
    record { guest = k; there = refl; inside = subst (λ (l : ℕ). m < l) (ap (λ (y : Guest). length y.slots.items) (sym two ∙ one) ∙ sym same) has.inside }
has_still (x ∷ gs) zero (suc j) m k g at same has = record { guest = has.guest; there = has.there; inside = has.inside }
has_still (x ∷ gs) (suc i) zero m k g at same has = record { guest = has.guest; there = has.there; inside = has.inside }
has_still (x ∷ gs) (suc i) (suc j) m k g at same has =
    let more = has_still gs i j m k g at same (record { guest = has.guest; there = has.there; inside = has.inside }) in
    record { guest = more.guest; there = more.there; inside = more.inside }

pub has_left : {gs left : List Guest} {i n j m : ℕ} {was o : Option AssignedFunction} → IsExchanged gs i n was o left → HasSlot gs j m → HasSlot left j m
has_left {gs} {left} {i} {n} {j} {m} {was} {o} is has =
    let count : length (slice_set is.before.slots.items n o) ≡ length is.before.slots.items = simp length-set in
    subst (λ (ls : List Guest). HasSlot ls j m) (sym is.after) (has_still gs i j m is.guest is.before is.there (ap length is.items ∙ count) has)

-- a function that is there
pub has_held : {gs : List Guest} {i n : ℕ} → HoldsAt gs i n → HasSlot gs i n
has_held {gs} {i} {n} holds = record { guest = holds.guest; there = holds.there; inside = slice_get_within holds.guest.slots.items n (Some holds.slot.held) holds.slot.there }

-- as code lends the guests
pub over_lent : {h new : HostState} {gs ms back : List Guest} {i n j m : ℕ} → ms ≡ gs → HandsOver h ms i n j m new back → HandsOver h gs i n j m new back
over_lent {h} {new} {gs} {ms} {back} {i} {n} {j} {m} same over = subst (λ (ls : List Guest). HandsOver h ls i n j m new back) same over

pub exchange_lent : {gs ms back : List Guest} {i n : ℕ} {was o : Option AssignedFunction} → ms ≡ gs → IsExchanged ms i n was o back → IsExchanged gs i n was o back
exchange_lent {gs} {ms} {back} {i} {n} {was} {o} same is = subst (λ (ls : List Guest). IsExchanged ls i n was o back) same is

-- ---- in a world that is kept

module _ {w : WorldNow} {h : HostState} {names : List Text} {gs : List Guest} {i : ℕ} {g : Guest} (at : GuestAt w h names gs i g) where
  pub before_is : {n : ℕ} {was o : Option AssignedFunction} {new : List Guest} → (is : IsExchanged gs i n was o new) → is.before ≡ g
  before_is is = let a = is.there in let b = at.stands in cc

  pub held_same : {n : ℕ} {held found : AssignedFunction} {o : Option AssignedFunction} {new : List Guest} → SlotAt at n held → IsExchanged gs i n (Some found) o new → found ≡ held
  held_same {n} {held} {found} slot is = search (rules, before_is)

  -- as code lends the guests
  abbrev pub holds_nth : {n : ℕ} {held : AssignedFunction} → SlotAt at n held → HoldsAt gs i n
  holds_nth {n} {held} slot = record { guest = g; there = at.stands; slot = record { held = held; there = slot.holds } }

  -- each guest has 32 slots
  pub has_nth : {n : ℕ} → n ≤ 31 → HasSlot gs i n
  has_nth {n} low =
      let count : length g.slots.items ≡ 32 = slots_count w.handoff (guest_nth w i).paths (lone_nth w i).slots g.slots.items at.is.slots ∙ (seated at).count in
      record { guest = g; there = at.stands; inside = omega arith }

  module _ {n : ℕ} {was o : Option AssignedFunction} {new : List Guest} (is : IsExchanged gs i n was o new) where
    pub latch_stays : is.guest.latch ≡ g.latch
    latch_stays = is.latch ∙ ap (λ (k : Guest). k.latch) (before_is is)

    pub items_are : is.guest.slots.items ≡ slice_set g.slots.items n o
    items_are = is.items ∙ ap (λ (k : Guest). slice_set k.slots.items n o) (before_is is)
