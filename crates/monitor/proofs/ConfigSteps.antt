-- A read and a write of the configuration space of the function in a slot.
use Rattle.std.{proofs.{Common.{◌≡◌, ℕ, ◌*◌, ◌/◌, ◌%◌, Bool, false, cond, List, [], Some, None, Option, slice_get, slice_set, sym, ap, ap₂, ◌∙◌, subst, get_or, length, refl, arith}, lemmas.Option.{slice_get_read, slice_get_within}}, specs.{Prelude.is_some, Option.option_map_or}}
use Rattle.model_registers.{specs.{Registers.{config, File, read, write, all_bytes, number}, ByteEnables.{lanes, enables_of, to_lanes, IsWidth}, OwnCopies.forwarded_byte_enables, Decoding.Function}, proofs.ByteAccesses.{aligned_lies_in_word, write_by_lanes}}
use Rattle.model_guests.{specs.{Accesses.{answered, reads, writes, configuration}, Slots.{Landing, landing, perform, effect, slot_at}, Lone.{at_target, reply_at, after_access_at}, WorldNow.WorldNow, ChangeLaws.with_slot_changed, AgreedBoard.with_change_at, Text.Text}, proofs.{AgreedFiles.writes_alike, Seats.written_shape}}
use Rattle.model_handoff.specs.StayLaws.{any_tells}
use Rattle.guest_functions.proofs.HeldCopies.{lawful_copies, written_held}
use Rattle.host_bridge.specs.{ByIndex.with_file_nth, HostState.{HostState, with_functions}}
use Rattle.monitor.{specs.{declared.guest.{AssignedFunction.AssignedFunction, Guest.Guest}, Keeping.IsKept, ByIndex.{lone_nth, with_lone_nth, guest_nth}, Counts.changes_at, Configs.{IsSeen, HoldsAt, IsHolding, WritesGuest, WritesOwn}}, proofs.{Steps.{with_guest_at, kept_slot, GuestAt, SlotAt, with_same}, Reached.{board_shows, changed_held, endpoint_held, reached_held, file_held, lawful}, Calls.{Leaves, leaves}, Exchanges.holds_nth}}

-- ---- one guest

-- the element that code reads at an index
pub same_at : {A : Type 0} (xs : List A) (i : ℕ) (x y : A) → slice_get xs i ≡ Some x → y ≡ get_or xs i y → y ≡ x
same_at xs i x y at is = let read = slice_get_read xs (length xs) i y refl (slice_get_within xs i x at) is in cc

pub guest_written : (gs : List Guest) (i n word enables value : ℕ) (holds : HoldsAt gs i n) (slots new : List (Option AssignedFunction)) (r : ℕ × ℕ) (guest : Guest)
    → slots ≡ holds.guest.slots.items → ((h : IsHolding slots n) → WritesOwn slots n h word enables value new r) → guest.latch ≡ holds.guest.latch → guest.slots.items ≡ new
    → WritesGuest gs i n holds word enables value (slice_set gs i guest) r
guest_written gs i n word enables value holds slots new r guest same written latch items = record {
  guest = guest;
  after = refl;
  latch = latch;
  slots = subst (λ (os : List (Option AssignedFunction)). WritesOwn holds.guest.slots.items n holds.slot word enables value os r) (sym items)
      (subst (λ (os : List (Option AssignedFunction)). (h : IsHolding os n) → WritesOwn os n h word enables value new r) same written holds.slot);
}

pub written_lent : {gs ms new : List Guest} {i n word enables value : ℕ} {r : ℕ × ℕ} → ms ≡ gs → (holds : HoldsAt gs i n)
    → ((h : HoldsAt ms i n) → WritesGuest ms i n h word enables value new r) → WritesGuest gs i n holds word enables value new r
written_lent {gs} {ms} {new} {i} {n} {word} {enables} {value} {r} same holds written =
    subst (λ (ls : List Guest). (h : HoldsAt ls i n) → WritesGuest ls i n h word enables value new r) same written holds

-- ---- a function in a slot of a world that is kept

module _ {w : WorldNow} {h : HostState} {names : List Text} {gs : List Guest} {i : ℕ} {g : Guest} (at : GuestAt w h names gs i g) where
  module _ {n : ℕ} {held : AssignedFunction} (slot : SlotAt at n held) where
    pub seen : IsSeen h held
    seen = record {
      file = slot.f.file;
      lawful = lawful_copies held.own slot.f.decl.regions (lawful at slot).regions slot.held.regions;
      holds = slot.held.own;
      there = endpoint_held at slot;
      reached = reached_held at slot;
      shows = λ off ons. ap (λ (file : File). read file (config off) (forwarded_byte_enables (config off) ons)) (file_held at slot) ∙ board_shows at slot (config off) ons;
    }

    -- an access to the slot lands there
    pub lands : (off : ℕ) → landing (lone_nth w i).slots (configuration n off) ≡ Some (record { slot = n; place = config off })
    lands off = ap (λ (o : Option Function). cond (is_some o) (Some (let l : Landing = record { slot = n; place = config off } in l)) None) slot.function

    pub config_changes : (off width v : ℕ) → changes_at (lone_nth w i) (writes v) width (at_target (configuration n off)) ≡ any_tells width (config off)
    config_changes off width v = ap (λ (o : Option Landing). option_map_or (λ (l : Landing). any_tells width l.place) o false) (lands off)

    pub config_reads : (off width : ℕ) {value : ℕ} → value ≡ number seen.file (config off) width → answered value width ≡ reply_at (lone_nth w i) reads width (at_target (configuration n off))
    unfolding seen
    config_reads off width is = grind (arith, lands)

    -- a write of the bytes of a word
    module _ (off width v : ℕ) (wide : IsWidth width) (aligned : off % width ≡ 0) {enables moved : ℕ} (enables_are : enables ≡ enables_of off width) (moved_is : moved ≡ to_lanes off v)
        {left : List Guest} {r : ℕ × ℕ} (written : WritesGuest gs i n (holds_nth at slot) (off / 4 * 4) enables moved left r)
        {new : HostState} (is_new : new ≡ with_functions (with_file_nth (write (lanes r.1) moved (config (off / 4 * 4))) r.0 h.state.functions) h) where
      abbrev word : ℕ
      word = off / 4 * 4

      abbrev own_change : File → File
      own_change = write (all_bytes width) v (config off)

      abbrev word_change : File → File
      word_change = write (lanes enables) moved (config word)

      abbrev board_change : File → File
      board_change = write (forwarded_byte_enables (config word) (lanes enables)) moved (config word)

      state : new.state ≡ with_change_at board_change slot.p h.state
      state =
          changed_held at slot board_change
          (is_new ∙ ap₂ (λ (k : ℕ) (ons : List Bool). with_functions (with_file_nth (write ons moved (config word)) k h.state.functions) h) written.slots.index written.slots.others)

      world : with_guest_at i (with_slot_changed word_change n (guest_nth w i)) w ≡ with_lone_nth i (after_access_at (lone_nth w i) (writes v) width (at_target (configuration n off))) w
      world = grind (arith, lands, write_by_lanes, aligned_lies_in_word)

      pub config_written : Leaves (with_lone_nth i (after_access_at (lone_nth w i) (writes v) width (at_target (configuration n off))) w) h new names left
      config_written = leaves at.kept
          (subst (λ (u : WorldNow). IsKept u new names left) world
          (subst (IsKept (with_guest_at i (with_slot_changed word_change n (guest_nth w i)) w) new names) (sym written.after)
          (kept_slot at slot word_change board_change (writes_alike (lanes enables) moved (config word)) (written_shape (lanes enables) moved (config word))
          written.slots.own (written_held held.own written.slots.own slot.f.file slot.held.own (lanes enables) moved (config word) written.slots.written) written.slots.regions
          written.guest written.latch written.slots.after new state)))
          refl

  -- no function is in the slot
  module _ (n : ℕ) (empty : slot_at (lone_nth w i).slots n ≡ None) where
    nowhere : (off : ℕ) → landing (lone_nth w i).slots (configuration n off) ≡ None
    nowhere off = ap (λ (o : Option Function). cond (is_some o) (Some (let l : Landing = record { slot = n; place = config off } in l)) None) empty

    pub config_reads_ones : (off width : ℕ) → perform reads width [] None ≡ reply_at (lone_nth w i) reads width (at_target (configuration n off))
    config_reads_ones off width = ap (perform reads width (lone_nth w i).slots) (sym (nowhere off))

    pub config_drops : (off width v : ℕ) → w ≡ with_lone_nth i (after_access_at (lone_nth w i) (writes v) width (at_target (configuration n off))) w
    config_drops off width v =
        sym (with_same at) ∙ ap (λ (o : Option Landing). with_lone_nth i (record (lone_nth w i) { slots = effect (writes v) width (lone_nth w i).slots o }) w) (sym (nowhere off))

    pub config_quiet : (off width v : ℕ) → changes_at (lone_nth w i) (writes v) width (at_target (configuration n off)) ≡ false
    config_quiet off width v = ap (λ (o : Option Landing). option_map_or (λ (l : Landing). any_tells width l.place) o false) (nowhere off)
