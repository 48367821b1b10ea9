-- An access of one byte of a region by slot and register: the checks in their order, where it lands, and the machine after it.
use Rattle.std.{proofs.{Common.{◌≡◌, ◌<◌, ℕ, Bool, true, false, cond, List, [], Some, None, Option, Ok, Err, refl, sym, ap, ◌∙◌, subst, arith}, lemmas.Bool.Decides.nat_tests}, specs.{Prelude.{nat_lt, Result}, Option.{option_map_or, ok_or}}}
use Rattle.lists.{specs.Elements.IsIn, proofs.Indices.{found_at, index_in}}
use Rattle.model_registers.specs.{OwnCopies.IsLawfulOwn, Declarations.{Kind, Region}, Decoding.{Function, space_of, is_open}}
use Rattle.model_board.specs.{Paths.Path, State.State}
use Rattle.model_guests.specs.{Accesses.{RaisePlace, in_config, in_region, Op, reads, writes, refused}, Slots.{slot_at, perform}, Lone.LoneGuest, Text.Text, WorldNow.WorldNow, DeviceEvents.DeviceByte}
use Rattle.model_handoff.specs.{GuestRegions.region_at, RegionBytes.{opening, byte_opening, byte_reply, reply_there, after_there, register_of}, Changes.MachineNow}
use Rattle.bars.specs.declared.region.BarWithBase.{BarWithBase}
use Rattle.bridge_forward.specs.declared.bus.BarOffset.{BarOffset}
use Rattle.host_bridge.specs.{HostState.HostState, Landings.IsLanding}
use Rattle.accesses.specs.Accesses.{part_of}
use Rattle.monitor.{specs.{declared.guest.{AssignedFunction.AssignedFunction, Guest.Guest}, ByIndex.{lone_nth, with_lone_nth}, Counts.after_byte_nth, Keeping.IsHeld, DeviceBytes.device_byte, InSlots.{IsInSlot, IsSlotFault}}, proofs.{QuerySteps.IsRegionAt, Steps.{GuestAt, SlotAt, slot_lent, slots_lent, with_same}, Reached.byte_landing_there, ConfigSteps.seen, Checks.low_slot, Machines.untouched}}
use Rattle.headers.specs.declared.place.Place as headers

-- ---- what a region opens

pub opening_kept : (f : Function) (n off : ℕ) (x : BarWithBase) → IsRegionAt f n x → (k : Kind) → k ≡ x.decl.kind → {size : ℕ} → size ≡ x.decl.size
    → cond {A = Option Bool} (nat_lt off size) (Some (is_open f.file (space_of k))) None ≡ opening f (in_region n) off
opening_kept f n off x is k kind size = grind arith

pub opening_none : (f : Function) (n off : ℕ) → region_at f n ≡ None → None ≡ opening f (in_region n) off
opening_none f n off is = grind arith

-- a region that opens, or is closed, to a byte
pub record HasByte (f : Function) (n off : ℕ) : Type 0 where
  pub region : Region
  pub declared : IsIn region f.decl.regions
  pub index : region.index ≡ n
  pub inside : off < region.size

pub has_byte : (f : Function) (part : RaisePlace) (off : ℕ) (t : Bool) → Some t ≡ opening f part off → HasByte f (register_of part) off
has_byte f in_config off t is = cc
has_byte f (in_region n) off t is = grind (arith, found_at, index_in, nat_tests)

-- ---- the checks

module _ {w : WorldNow} {h : HostState} {names : List Text} {gs : List Guest} {i : ℕ} {g : Guest} (at : GuestAt w h names gs i g) {slots : List (Option AssignedFunction)} (same : slots ≡ g.slots.items) (n : ℕ) (place : headers.Place) (off : ℕ) where
  abbrev d : DeviceByte
  d = device_byte n place off

  pub slot_refused : {number : ℕ} → IsSlotFault slots n number → byte_opening (lone_nth w i) d ≡ Err number
  slot_refused {number} fault = let it = fault w.handoff _ (lone_nth w i).slots (slots_lent at same) in grind arith

  module _ {held : AssignedFunction} (is : IsInSlot slots n held) {o : Option Bool} (told : (s : State) (p : Path) (f : Function) → IsHeld s p f held → IsLawfulOwn held.own → o ≡ opening f (part_of place) off) where
    abbrev slot : SlotAt at n held
    slot = slot_lent at same is.there

    opens : o ≡ opening slot.f (part_of place) off
    opens = told w.handoff slot.p slot.f slot.held (seen at slot).lawful

    pub opening_is : byte_opening (lone_nth w i) d ≡ ok_or o 303
    opening_is =
        ap (λ (t : Bool). cond {A = Result Bool ℕ} t (Err 303) (option_map_or (λ (f : Function). ok_or (opening f (part_of place) off) 303) (slot_at (lone_nth w i).slots n) (Err 601))) (low_slot is.low)
        ∙ ap (λ (x : Option Function). option_map_or (λ (f : Function). ok_or (opening f (part_of place) off) 303) x (Err 601)) slot.function
        ∙ ap (λ (x : Option Bool). ok_or x 303) (sym opens)

    pub lands : {t : Bool} → o ≡ Some t → {r : BarOffset} → r ≡ record { index = held.index; region = register_of (part_of place); offset = off } → IsLanding h.state.functions r 1
    lands {t} some {r} found =
        let byte = has_byte slot.f (part_of place) off t (sym some ∙ opens) in
        subst (λ (x : BarOffset). IsLanding h.state.functions x 1)
        (ap (λ (k : ℕ). let x : BarOffset = record { index = held.index; region = k; offset = off } in x) byte.index ∙ sym found)
        (subst (λ (s : State). IsLanding s.functions (record { index = held.index; region = byte.region.index; offset = off }) 1) (sym at.kept.agrees)
        (byte_landing_there at slot byte.region byte.declared off byte.inside))

-- ---- an access that is refused, that a closed region drops, or that reads

closed_stays : (g : LoneGuest) (op : Op) (d : DeviceByte) → after_there g op d (Ok false) ≡ g
closed_stays g reads d = refl
closed_stays g (writes v) d = refl

nowhere : (g : LoneGuest) (op : Op) (d : DeviceByte) → perform op 1 [] None ≡ reply_there g op d (Ok false)
nowhere g reads d = refl
nowhere g (writes v) d = refl

module _ {m : MachineNow} {h : HostState} {names : List Text} {gs : List Guest} {i : ℕ} {g : Guest} (at : GuestAt m.world h names gs i g) (op : Op) (d : DeviceByte) where
  stays : {x : Result Bool ℕ} → byte_opening (lone_nth m.world i) d ≡ x → after_there (lone_nth m.world i) op d x ≡ lone_nth m.world i → m ≡ after_byte_nth i op d m
  stays {x} is same =
      untouched m i _ false
      (sym (with_same at) ∙ ap (λ (l : LoneGuest). with_lone_nth i l m.world) (sym (ap (after_there (lone_nth m.world i) op d) is ∙ same))) refl

  pub byte_refused : {number : ℕ} → byte_opening (lone_nth m.world i) d ≡ Err number → (refused number ≡ byte_reply (lone_nth m.world i) op d) × (m ≡ after_byte_nth i op d m)
  byte_refused is = (sym (ap (reply_there (lone_nth m.world i) op d) is), stays is refl)

  pub byte_closed : byte_opening (lone_nth m.world i) d ≡ Ok false → (perform op 1 [] None ≡ byte_reply (lone_nth m.world i) op d) × (m ≡ after_byte_nth i op d m)
  byte_closed is = (nowhere (lone_nth m.world i) op d ∙ sym (ap (reply_there (lone_nth m.world i) op d) is), stays is (closed_stays (lone_nth m.world i) op d))

pub read_stays : {m : MachineNow} {h : HostState} {names : List Text} {gs : List Guest} {i : ℕ} {g : Guest} → GuestAt m.world h names gs i g → (d : DeviceByte) → byte_opening (lone_nth m.world i) d ≡ Ok true → m ≡ after_byte_nth i reads d m
read_stays {m} at d is = stays {m = m} at reads d is refl
