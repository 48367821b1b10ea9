-- Where a region stands changes by nothing else than writes of its registers, moves and resets of its function.
use Rattle.std.{proofs.{Common.{◌≡◌, ◌≤◌, ℕ, zero, suc, ◌+◌, ◌*◌, ◌/◌, ◌%◌, Bool, true, false, ◌&&◌, ◌||◌, cond, eqb, List, [], ◌∷◌, length, Some, None, Option, Err, Result, refl, ap, ◌∙◌, arith}, lemmas.Bool.{or_parts, eqb-true, Decides.nat_tests}}, specs.{Prelude.{nat_le, slice_set, IsSome}, Option.option_map_or, Str.bytes_eq}}
use Rattle.lists.{specs.Elements.Each, proofs.{Indices.{found_at, each_at}, Tests.second_false}}
use Rattle.model_registers.{specs.{Cell.written, Registers.{Place, config, place_eq, after, File, cell_at, changed, read, write, raise, all_bytes}, Declarations.{Kind, Endpoint, registers_of, IsLawfulRegion}, Decoding.{Function, base}, OwnCopies.is_own, DeviceBytes.{is_device_byte, with_value, set_value}}, proofs.{RegisterFiles.{place_same, change_at_place}, ConstantCells.{no_cell_stays, raised_none}, DeviceBytes.{device_not_own, change_beside}}}
use Rattle.model_board.specs.{Paths.Path, Board.Board, Lawful.HasLawfulDecls}
use Rattle.model_guests.{specs.{Accesses.{Event, access, raises, Access, Raise, Op, writes}, Slots.{Slots, slot_at, with_file, Landing, effect, raise_landing, affected}, Text.Text, Lone.{LoneGuest, own_latch, destination, after_access_at, after_event, filled, emptied}, Guests.{GuestNow, GuestsNow, guest_named, lone_of, with_guest, guest_after, Move, handed_over, with_slot_emptied, with_slot_filled}, Lines.{nothing, guest_event, host_read, host_move, bad}, Seated.AreSeated, DeviceEvents.{resets, device_reads, device_writes, DeviceByte, byte_landing, with_byte, after_device_event, device_after}, Calls.{asks, at_device}}, proofs.{GuestFiles.slot_set, GuestsByName.Keeps, SeatedMoves.seat_in, CopiesNeverRise.declared_lawful, KeptCopies.copies_never_rise, DeviceBytes.{reached, read_leaves}, OneGuest.{lone_by, still}}}
use Rattle.model_handoff.{specs.{GuestRegions.{LiveBar, region_of, region_answer}, StayLaws.{tells_regions, any_tells, rewrites, RegionsStay}}, proofs.Landings.{same_destination, byte_goes, changed_there}}

-- ---- files that tell the same of regions

abbrev Alike : File → File → Type 0
Alike f g = (q : Place) → tells_regions q ≡ true → cell_at f q ≡ cell_at g q

same_number : (f g : File) → Alike f g → (ons : List Bool) (q : ℕ) → 0x10 ≤ q → q + length ons ≤ 0x28 → read f (config q) ons ≡ read g (config q) ons
same_number f g alike [] q low high = refl
same_number f g alike (on ∷ ons) q low high = grind (arith, same_number f g alike ons (q + 1), nat_tests)

same_base : (f g : File) → Alike f g → (kind : Kind) (n : ℕ) → n + registers_of kind ≤ 6 → base f n kind ≡ base g n kind
same_base f g alike kind n h = grind (arith, same_number f g alike (all_bytes 4) (0x10 + 4 * n), same_number f g alike (all_bytes 8) (0x10 + 4 * n))

-- ---- a function whose file is changed

same_of : (f : Function) → Each IsLawfulRegion f.decl.regions → (file : File) → Alike file f.file → (n : ℕ) → region_of (record f { file = file }) n ≡ region_of f n
same_of f lawful file alike n = grind (arith, found_at, each_at, same_base)

-- ---- slots

abbrev answer_of : ℕ → ℕ → Option Function → Result LiveBar ℕ
answer_of slot n o = cond (nat_le 32 slot) (Err 303) (option_map_or (λ (f : Function). region_of f n) o (Err 601))

slot_beside : (slots : Slots) (k n : ℕ) (x : Option Function) → eqb k n ≡ false → slot_at (slice_set slots k x) n ≡ slot_at slots n
slot_beside [] k n x apart = refl
slot_beside (s ∷ ss) k n x apart = grind (arith, slot_beside ss, nat_tests)

-- what a change of a file leaves
changed_answer : (change : File → File) (k slot n : ℕ) (slots : Slots)
    → (eqb k slot ≡ true → (f : Function) → slot_at slots slot ≡ Some f → region_of (record f { file = change f.file }) n ≡ region_of f n)
    → answer_of slot n (slot_at (with_file change k slots) slot) ≡ answer_of slot n (slot_at slots slot)
changed_answer change k slot n slots same = grind (arith, slot_beside, eqb-true, slot_set)

-- ---- cells after a write and after a raise

kept_by_write : (w x : ℕ) (p q : Place) (file : File) → any_tells w p ≡ false → tells_regions q ≡ true → cell_at (write (all_bytes w) x p file) q ≡ cell_at file q
kept_by_write zero x p q file none tells = refl
kept_by_write (suc w) x p q file none tells = grind (arith, or_parts, kept_by_write w (x / 256) (after p) q (changed (written (x % 256)) p file), change_at_place, no_cell_stays, place_same)

pub tells_own : (q : Place) → tells_regions q ≡ true → is_own q ≡ true
tells_own q h = grind arith

-- ---- one guest

module _ (b : Board) (decls : HasLawfulDecls b) (gs : GuestsNow) (seated : AreSeated b gs) (name : Text) (slot n : ℕ) where
  abbrev g : LoneGuest
  g = lone_of gs name

  abbrev Stays : LoneGuest → Type 0
  Stays h = region_answer h slot n ≡ region_answer g slot n

  lawful_regions : (k : ℕ) (f : Function) → slot_at g.slots k ≡ Some f → Each IsLawfulRegion f.decl.regions
  lawful_regions k f there = grind (arith, seat_in b gs seated.guests name k, declared_lawful b decls)

  by_write : (w v : ℕ) (o : Option Landing) → option_map_or (λ (l : Landing). eqb l.slot slot && any_tells w l.place) o false ≡ false
      → answer_of slot n (slot_at (effect (writes v) w g.slots o) slot) ≡ answer_of slot n (slot_at g.slots slot)
  by_write w v None none = refl
  by_write w v (Some l) none =
      changed_answer (write (all_bytes w) v l.place) l.slot slot n g.slots
      (λ here f there.
      grind (arith, same_of f (lawful_regions slot f there) (write (all_bytes w) v l.place f.file), lawful_regions slot f there, kept_by_write w v l.place))

  at_latch : (op : Op) (w : ℕ) → Stays (after_access_at g op w own_latch)
  at_latch op w = grind arith

  by_access : (a : Access) → rewrites slot g (access a) ≡ false → Stays (after_access_at g a.op a.width (destination g.latch a.width a.target))
  by_access a none = grind (arith, at_latch, same_destination, changed_there, byte_goes, by_write)

  own_elsewhere : (p q : Place) → is_own p ≡ false → tells_regions q ≡ true → place_eq p q ≡ false
  own_elsewhere p q other tells = grind (arith, place_same, tells_own)

  raised_alike : (m : ℕ) (p : Place) (f : Function) → slot_at g.slots slot ≡ Some f → Alike (raise m p f.file) f.file
  raised_alike m p f there q tells = grind (arith, copies_never_rise, change_at_place, raised_none, own_elsewhere)

  by_raise : (r : Raise) → answer_of slot n (slot_at (affected g.slots (raises r)) slot) ≡ answer_of slot n (slot_at g.slots slot)
  by_raise r = cases (raise_landing (slot_at g.slots r.slot) r)
    where
      cases : (o : Option Place) → answer_of slot n (slot_at (option_map_or (λ (p : Place). with_file (raise r.mask p) r.slot g.slots) o g.slots) slot) ≡ answer_of slot n (slot_at g.slots slot)
      cases o = grind (arith, changed_answer, same_of, lawful_regions slot, raised_alike r.mask)

  -- a device writes none of the bytes that tell of regions
  by_byte : (d : DeviceByte) (v : ℕ) → answer_of slot n (slot_at (with_byte d v g.slots) slot) ≡ answer_of slot n (slot_at g.slots slot)
  by_byte d v = cases (byte_landing (slot_at g.slots d.slot) d) refl
    where
      place_of : (o : Option Function) (p : Place) → byte_landing o d ≡ Some p → is_device_byte p ≡ true
      place_of o p h = grind (arith, reached)

      cases : (o : Option Place) → byte_landing (slot_at g.slots d.slot) d ≡ o
          → answer_of slot n (slot_at (option_map_or (λ (p : Place). with_file (set_value v p) d.slot g.slots) o g.slots) slot) ≡ answer_of slot n (slot_at g.slots slot)
      cases o e =
          grind (arith, device_not_own, place_of (slot_at g.slots d.slot), changed_answer, same_of, lawful_regions slot, change_beside (with_value (v % 256)), own_elsewhere)

  pub by_device_read : (d : DeviceByte) → Stays (after_device_event g (device_reads d))
  by_device_read d = ap (λ (h : LoneGuest). region_answer h slot n) (read_leaves g d)

  pub by_device_write : (d : DeviceByte) (v : ℕ) → Stays (after_device_event g (device_writes d v))
  by_device_write d v = grind (arith, by_byte)

  pub by_event : (e : Event) → rewrites slot g e ≡ false → Stays (after_event g e)
  by_event e none = grind (arith, by_access, by_raise)

-- ---- another slot

pub emptied_beside : (g : LoneGuest) (k slot n : ℕ) → eqb k slot ≡ false → region_answer (emptied k g) slot n ≡ region_answer g slot n
emptied_beside g k slot n apart = ap (answer_of slot n) (slot_beside g.slots k slot None apart)

pub filled_beside : (g : LoneGuest) (d : Endpoint) (k slot n : ℕ) → eqb k slot ≡ false → region_answer (filled k d g) slot n ≡ region_answer g slot n
filled_beside g d k slot n apart = ap (answer_of slot n) (slot_beside g.slots k slot (Some (record { decl = d; file = _ })) apart)

pub reset_beside : (g : LoneGuest) (k slot n : ℕ) → eqb k slot ≡ false → region_answer (after_device_event g (resets k)) slot n ≡ region_answer g slot n
reset_beside g k slot n apart = grind (arith, filled_beside)

-- ---- all guests

-- a change of one guest that leaves its answer
beside : (f : GuestNow → GuestNow) → Keeps f → (k : LoneGuest → LoneGuest) → ((t : GuestNow) → (f t).lone ≡ k t.lone) → (who name : Text) (gs : GuestsNow) → IsSome (guest_named gs name) → (slot n : ℕ)
    → (bytes_eq who name ≡ true → region_answer (k (lone_of gs name)) slot n ≡ region_answer (lone_of gs name) slot n)
    → region_answer (lone_of (with_guest f who gs) name) slot n ≡ region_answer (lone_of gs name) slot n
beside f keeps k does who name gs there slot n same = grind (arith, lone_by f keeps k does who name gs there)

moved : (name : Text) (m : Move) (p : Option Path) (o : Option Function) (gs : GuestsNow) → IsSome (guest_named gs name) → (slot n : ℕ)
    → ((bytes_eq m.from name && eqb m.slot slot) || (bytes_eq m.to name && eqb m.target slot)) ≡ false
    → region_answer (lone_of (handed_over m p o gs) name) slot n ≡ region_answer (lone_of gs name) slot n
moved name m p None gs there slot n apart = refl
moved name m p (Some f) gs there slot n apart =
    let parts = or_parts (bytes_eq m.from name && eqb m.slot slot) (bytes_eq m.to name && eqb m.target slot) apart in
    let left : GuestsNow = with_guest (with_slot_emptied m.slot) m.from gs in
    beside (with_slot_filled m.target p f.decl) (λ t. refl) (filled m.target f.decl) (λ t. refl) m.to name left (still (with_slot_emptied m.slot) (λ t. refl) m.from name gs there) slot n
    (λ here. filled_beside (lone_of left name) f.decl m.target slot n (second_false (bytes_eq m.to name) (eqb m.target slot) parts.1 here))
    ∙ beside (with_slot_emptied m.slot) (λ t. refl) (emptied m.slot) (λ t. refl) m.from name gs there slot n
    (λ here. emptied_beside (lone_of gs name) m.slot slot n (second_false (bytes_eq m.from name) (eqb m.slot slot) parts.0 here))

pub only_own_events_move_regions : RegionsStay
only_own_events_move_regions b decls w seated name there slot n (asks nothing) none = refl
only_own_events_move_regions b decls w seated name there slot n (asks (guest_event who e)) none =
    beside (guest_after e) (λ t. refl) (λ (g : LoneGuest). after_event g e) (λ t. refl) who name w.guests there slot n
    (λ here. by_event b decls w.guests seated name slot n e (second_false (bytes_eq who name) (rewrites slot (lone_of w.guests name) e) none here))
only_own_events_move_regions b decls w seated name there slot n (asks (host_read r)) none = refl
only_own_events_move_regions b decls w seated name there slot n (asks (host_move m)) none = grind (arith, moved)
only_own_events_move_regions b decls w seated name there slot n (asks (bad who k)) none = refl
only_own_events_move_regions b decls w seated name there slot n (at_device who (resets k)) none =
    beside (device_after (resets k)) (λ t. refl) (λ (g : LoneGuest). after_device_event g (resets k)) (λ t. refl) who name w.guests there slot n
    (λ here. reset_beside (lone_of w.guests name) k slot n (second_false (bytes_eq who name) (eqb k slot) none here))
only_own_events_move_regions b decls w seated name there slot n (at_device who (device_reads d)) none =
    beside (device_after (device_reads d)) (λ t. refl) (λ (g : LoneGuest). after_device_event g (device_reads d)) (λ t. refl) who name w.guests there slot n
    (λ here. by_device_read b decls w.guests seated name slot n d)
only_own_events_move_regions b decls w seated name there slot n (at_device who (device_writes d v)) none =
    beside (device_after (device_writes d v)) (λ t. refl) (λ (g : LoneGuest). after_device_event g (device_writes d v)) (λ t. refl) who name w.guests there slot n
    (λ here. by_device_write b decls w.guests seated name slot n d v)
