-- A read and a write of the region where a guest's address lands.
use Rattle.std.{proofs.Common.{◌≡◌, ℕ, ◌%◌, List, [], Some, None, Option, refl, sym, ap, ◌∙◌, subst, arith}, specs.{Option.option_map_or, Prelude.option_map}}
use Rattle.lists.proofs.Indices.{set_same}
use Rattle.model_registers.specs.{ByteEnables.IsWidth, Registers.{block, File, write, all_bytes, number}, Decoding.{Space, io, memory, Function}}
use Rattle.model_board.specs.{State.State, Claims.Claim, Ports.{claim_reply, after_claim_write}, Paths.Path}
use Rattle.model_guests.{specs.{Accesses.{answered, Op, reads, writes}, Slots.{Slots, Landing, landing, landing_from, perform, effect}, Lone.{at_target, reply_at, after_access_at, Destination}, WorldNow.WorldNow, ChangeLaws.ChangesAlike, Text.Text}, proofs.{AgreedFiles.writes_alike, Seats.written_shape}}
use Rattle.guest_functions.proofs.HeldCopies.{block_written_held}
use Rattle.bridge_forward.specs.{declared.bus.BarOffset.BarOffset, Locating.located_claim}
use Rattle.host_bridge.specs.{HostState.{HostState, with_functions}, Landings.IsLanding}
use Rattle.monitor.{specs.{declared.guest.{Guest.Guest, AssignedFunction.AssignedFunction}, Keeping.AreSlots, ByIndex.{lone_nth, with_lone_nth, guest_nth}, Landings.landing_of, Reaches.{LandsIn, target_in}, Configs.IsHolding}, proofs.{Steps.{kept_slot, GuestAt, SlotAt, in_place, slots_lent, with_same}, Reached.{all_handed, block_shown, landed, claim_by_index, is_landing, lands_at}, Calls.{Leaves, leaves}}}

-- ---- where an access lands

landing_in_space : (space : Space) (addr : ℕ) (slots : Slots) → landing slots (target_in space addr) ≡ landing_from 0 space addr slots
landing_in_space io addr slots = refl
landing_in_space memory addr slots = refl

-- what `decode_address` says of slots
abbrev pub Lands : List (Option AssignedFunction) → Space → ℕ → Option (ℕ × ℕ × ℕ) → Type 0
Lands slots space addr o = (s : State) (qs : List (Option Path)) (fs : Slots) → AreSlots s qs fs slots → option_map landing_of o ≡ landing_from 0 space addr fs

-- ---- an access of a region of the function in a slot

module _ {w : WorldNow} {h : HostState} {names : List Text} {gs : List Guest} {i : ℕ} {g : Guest} (at : GuestAt w h names gs i g) {n : ℕ} {held : AssignedFunction} (slot : SlotAt at n held) (k off : ℕ) {r : BarOffset} (found : r ≡ record { index = held.index; region = k; offset = off }) (width : ℕ) where
  abbrev there : Landing
  there = record { slot = n; place = block k off }

  abbrev claimed : Claim
  claimed = record { path = slot.p; index = k; offset = off }

  claim_is : located_claim h.state.functions (Some r) ≡ Some claimed
  claim_is = ap (λ (x : BarOffset). located_claim h.state.functions (Some x)) found ∙ ap (λ (s : State). located_claim s.functions (Some (record { index = held.index; region = k; offset = off }))) at.kept.agrees ∙ claim_by_index at slot k off

  pub read_there : {value : ℕ} → value ≡ claim_reply h.state.functions width (located_claim h.state.functions (Some r)) → answered value width ≡ perform reads width (lone_nth w i).slots (Some there)
  read_there {value} reads_it =
      ap (λ (x : ℕ). answered x width)
      (reads_it ∙ ap (claim_reply h.state.functions width) claim_is ∙ ap (λ (s : State). claim_reply s.functions width (Some claimed)) at.kept.agrees
      ∙ block_shown at slot k off width
      ∙ ap (λ (o : Option Function). number (option_map_or (λ (f : Function). f.file) o []) (block k off) width) (sym slot.function))

  module _ (v : ℕ) {new : HostState} (is_new : new ≡ with_functions (after_claim_write h.state.functions width v (located_claim h.state.functions (Some r))) h) where
    abbrev own_change : File → File
    own_change = write (all_bytes width) v (block k off)

    alike : ChangesAlike own_change own_change
    alike = subst (λ ons. ChangesAlike own_change (write ons v (block k off))) (all_handed k off (all_bytes width)) (writes_alike (all_bytes width) v (block k off))

    pub written_there : Leaves (with_lone_nth i (record (lone_nth w i) { slots = effect (writes v) width (lone_nth w i).slots (Some there) }) w) h new names gs
    written_there = leaves at.kept
        (in_place at _ new
        (kept_slot at slot own_change own_change alike (written_shape (all_bytes width) v (block k off))
        held.own (block_written_held held.own slot.f.file slot.held.own (all_bytes width) v k off) refl
        g refl (sym (set_same g.slots.items n (Some held) slot.holds))
        new
        (ap (λ (k : HostState). k.state) is_new ∙ ap (λ (c : Option Claim). record h.state { functions = after_claim_write h.state.functions width v c }) claim_is)))
        refl

-- ---- an access at a target, by what stands there

module _ {w : WorldNow} {h : HostState} {names : List Text} {gs : List Guest} {i : ℕ} {g : Guest} (at : GuestAt w h names gs i g) (space : Space) (addr : ℕ) {slots : List (Option AssignedFunction)} (same : slots ≡ g.slots.items) where
  abbrev target : Destination
  target = at_target (target_in space addr)

  lands_as : (o : Option (ℕ × ℕ × ℕ)) → Lands slots space addr o → landing (lone_nth w i).slots (target_in space addr) ≡ option_map landing_of o
  lands_as o lands = landing_in_space space addr (lone_nth w i).slots ∙ sym (lands w.handoff (guest_nth w i).paths (lone_nth w i).slots (slots_lent at same))

  module _ (lands : Lands slots space addr None) where
    pub reply_nowhere : (op : Op) (width : ℕ) → perform op width [] None ≡ reply_at (lone_nth w i) op width target
    reply_nowhere op width = grind (arith, lands_as, lands)

    pub after_nowhere : (op : Op) (width : ℕ) → w ≡ with_lone_nth i (after_access_at (lone_nth w i) op width target) w
    after_nowhere reads width = sym (with_same at)
    after_nowhere (writes v) width =
        sym (with_same at) ∙ ap (λ (o : Option Landing). with_lone_nth i (record (lone_nth w i) { slots = effect (writes v) width (lone_nth w i).slots o }) w) (sym (lands_as None lands))

  module _ {l : ℕ × ℕ × ℕ} (lands_in : LandsIn slots space addr l) where
    lands : LandsIn g.slots.items space addr l
    lands = subst (λ (os : List (Option AssignedFunction)). LandsIn os space addr l) same lands_in

    pub holds_landed : {others : List (Option AssignedFunction)} → others ≡ g.slots.items → IsHolding others l.0
    holds_landed is = subst (λ (os : List (Option AssignedFunction)). IsHolding os l.0) (sym is) (record { held = lands.held; there = lands.there })

    -- what code finds
    module _ {others : List (Option AssignedFunction)} (is : others ≡ g.slots.items) {r : BarOffset} (found : (holds : IsHolding others l.0) → r ≡ record { index = holds.held.index; region = l.1; offset = l.2 })
        (width : ℕ) (lands_there : Lands slots space addr (Some l)) where
      abbrev of_slot : SlotAt at l.0 lands.held
      of_slot = lands_at at lands

      found_here : r ≡ landed at lands
      found_here =
          subst (λ (os : List (Option AssignedFunction)). (holds : IsHolding os l.0) → r ≡ record { index = holds.held.index; region = l.1; offset = l.2 }) is found
          (record { held = lands.held; there = lands.there })

      pub landing_at : IsWidth width → addr % width ≡ 0 → IsLanding h.state.functions r width
      landing_at wide whole =
          subst (λ (x : BarOffset). IsLanding h.state.functions x width) (sym found_here)
          (subst (λ (s : State). IsLanding s.functions (landed at lands) width) (sym at.kept.agrees) (is_landing at lands width wide whole))

      pub reply_read : {value : ℕ} → value ≡ claim_reply h.state.functions width (located_claim h.state.functions (Some r)) → answered value width ≡ reply_at (lone_nth w i) reads width target
      reply_read reads_it = read_there at of_slot l.1 l.2 found_here width reads_it ∙ ap (perform reads width (lone_nth w i).slots) (sym (lands_as (Some l) lands_there))

      pub region_written : (v : ℕ) {new : HostState} → new ≡ with_functions (after_claim_write h.state.functions width v (located_claim h.state.functions (Some r))) h
          → Leaves (with_lone_nth i (after_access_at (lone_nth w i) (writes v) width target) w) h new names gs
      region_written v {new} is_new =
          subst (λ (o : Option Landing). Leaves (with_lone_nth i (record (lone_nth w i) { slots = effect (writes v) width (lone_nth w i).slots o }) w) h new names gs) (sym (lands_as (Some l) lands_there))
          (written_there at of_slot l.1 l.2 found_here width v is_new)
