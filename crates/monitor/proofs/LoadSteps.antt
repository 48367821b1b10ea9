-- A function in a slot of a world that is kept, which becomes another byte by byte: as its device puts bytes, and as its
-- guest writes them.
--     changed_twice, changed_back, still_endpoint      the cells of a function by its index, changed one time after the other
--     its_guest, its_slot, its_low      the guest and the slot of a function that is kept
--     its_endpoint, its_row, its_decl, its_lawful      the endpoint that the host has for it, and its declaration
--     nothing_yet, go_on, chained      no change, the function after one, and one after the other
--     ReachesByte f place off      the byte is one that the device of the function reaches
--     put_next, put_none      the bytes after the first, as code holds the board
--     put_all      the device puts bytes from a place on
--     IsPut h index f new      the host with the cells of the function at an index changed
--     wrote_one      the guest writes a byte
use Rattle.std.{proofs.{Common.{◌≡◌, ◌≤◌, ◌<◌, ◌+◌, ◌*◌, ◌/◌, ◌%◌, ℕ, inl, Bool, true, false, cond, List, [], ◌∷◌, length, Some, None, Option, slice_get, slice_set, refl, sym, ap, ◌∙◌, subst, arith}, lemmas.{List.{set-set, set-get_or}, Option.{unwrap_or-slice_get, slice_get_within}}}, specs.{Prelude.{IsSome, nat_le, unwrap_or}, Option.option_map_or}}
use Rattle.lists.proofs.Indices.{get_set, map_at}
use Rattle.model_registers.specs.{Registers.{Place, config, after, File, write, all_bytes}, ByteEnables.{lanes, enables_of, to_lanes}, DeclarationRules.IsLawfulEndpoint, DeviceBytes.{is_device_byte, set_value}, Decoding.Function}
use Rattle.model_board.specs.{Paths.{Path, path_eq}, State.{BoardFunction, with_file}}
use Rattle.model_guests.{specs.{Accesses.{configuration, writes}, DeviceEvents.device_place, Lone.{LoneGuest, after_access_at, at_target}, Slots.{Slots, Landing, effect, slot_at}, WorldNow.WorldNow}, proofs.GuestFiles.{slot_set, with_file_there}}
use Rattle.model_images.specs.StepLaws.{put_run}
use Rattle.headers.specs.{declared.place.Place.TheVariants.{Cfg, Bar}, Places.place_of}
use Rattle.bridge_forward.{specs.Lending.{as_endpoint, endpoint_nth}, proofs.Changes.same_files}
use Rattle.host_bridge.specs.{ByIndex.with_file_nth, HostState.{HostState, with_functions}}
use Rattle.accesses.specs.Accesses.{part_of}
use Rattle.monitor.{specs.{declared.guest.{AssignedFunction.AssignedFunction, Guest.Guest}, ByIndex.{guest_nth, lone_nth, with_lone_nth}, Configs.{HoldsAt, WritesGuest}, Keeping.IsKept, Loadings.{KeepsFunction, Becomes, with_slot_nth}}, proofs.{Steps.{GuestAt, SlotAt, kept_nth, slot_nth, slots_count, with_same}, Checks.low_slot, ConfigSteps.{config_written, lands}, DeviceSteps.{byte_put, put_kept}, Exchanges.holds_nth, Reached.{endpoint_held, held_row, lawful, seated}, RestartSteps.{lone_set, set_again}}}
use Rattle.headers.specs.declared.place.Place as headers

-- ---- a function of the board by its index

twice_at : (f g : File → File) (p : Path) (fs : List BoardFunction) → with_file g p (with_file f p fs) ≡ with_file (λ file. g (f file)) p fs
twice_at f g p [] = refl
twice_at f g p (x ∷ xs) = grind (arith, twice_at f g p xs)

-- the function there, changed
abbrev changed_one : (File → File) → BoardFunction → BoardFunction → BoardFunction
changed_one f x y = cond (path_eq y.path x.path) (record y { file = f y.file }) y

same_path : (t : Bool) (x : BoardFunction) (file : File) → (cond t (record x { file = file }) x).path ≡ x.path
same_path true x file = refl
same_path false x file = refl

same_decl : (t : Bool) (x : BoardFunction) (file : File) → (cond t (record x { file = file }) x).decl ≡ x.decl
same_decl true x file = refl
same_decl false x file = refl

changed_row : (f : File → File) (i : ℕ) (fs : List BoardFunction) (x : BoardFunction) → slice_get fs i ≡ Some x → slice_get (with_file_nth f i fs) i ≡ Some (changed_one f x x)
changed_row f i fs x at = ap (λ (o : Option BoardFunction). slice_get (option_map_or (λ (y : BoardFunction). with_file f y.path fs) o fs) i) at ∙ map_at (changed_one f x) fs i x at

pub changed_twice : (f g : File → File) (i : ℕ) (fs : List BoardFunction) → with_file_nth g i (with_file_nth f i fs) ≡ with_file_nth (λ file. g (f file)) i fs
changed_twice f g i fs = cases (slice_get fs i) refl
  where
    cases : (o : Option BoardFunction) → slice_get fs i ≡ o → with_file_nth g i (with_file_nth f i fs) ≡ with_file_nth (λ file. g (f file)) i fs
    cases None at =
        let none : with_file_nth f i fs ≡ fs = ap (λ (o : Option BoardFunction). option_map_or (λ (y : BoardFunction). with_file f y.path fs) o fs) at in
        ap (with_file_nth g i) none ∙ ap (λ (o : Option BoardFunction). option_map_or (λ (y : BoardFunction). with_file g y.path fs) o fs) at
        ∙ sym (ap (λ (o : Option BoardFunction). option_map_or (λ (y : BoardFunction). with_file (λ file. g (f file)) y.path fs) o fs) at)
    cases (Some x) at =
        ap (λ (o : Option BoardFunction). option_map_or (λ (y : BoardFunction). with_file g y.path (with_file_nth f i fs)) o (with_file_nth f i fs)) (changed_row f i fs x at)
        ∙ ap (λ (p : Path). with_file g p (with_file_nth f i fs)) (same_path (path_eq x.path x.path) x (f x.file))
        ∙ ap (λ (o : Option BoardFunction). with_file g x.path (option_map_or (λ (y : BoardFunction). with_file f y.path fs) o fs)) at
        ∙ twice_at f g x.path fs
        ∙ sym (ap (λ (o : Option BoardFunction). option_map_or (λ (y : BoardFunction). with_file (λ file. g (f file)) y.path fs) o fs) at)

pub changed_back : (i : ℕ) (fs : List BoardFunction) → with_file_nth (λ file. file) i fs ≡ fs
changed_back i fs = grind (arith, same_files)

is_endpoint : (x y : BoardFunction) → y.decl ≡ x.decl → IsSome (as_endpoint x) → IsSome (as_endpoint y)
is_endpoint x y same some = grind arith

pub still_endpoint : (f : File → File) (i : ℕ) (fs : List BoardFunction) → IsSome (endpoint_nth fs i) → IsSome (endpoint_nth (with_file_nth f i fs) i)
still_endpoint f i fs some = cases (slice_get fs i) refl
  where
    cases : (o : Option BoardFunction) → slice_get fs i ≡ o → IsSome (endpoint_nth (with_file_nth f i fs) i)
    cases None at = let none : endpoint_nth fs i ≡ None = ap (λ (o : Option BoardFunction). option_map_or as_endpoint o None) at in cc
    cases (Some x) at =
        let there : IsSome (as_endpoint x) = subst (λ (o : Option BoardFunction). IsSome (option_map_or as_endpoint o None)) at some in
        subst (λ (o : Option BoardFunction). IsSome (option_map_or as_endpoint o None)) (sym (changed_row f i fs x at))
        (is_endpoint x (changed_one f x x) (same_decl (path_eq x.path x.path) x (f x.file)) there)

-- ---- a function that is kept

some_set : {A : Type 0} (xs : List (Option A)) (n : ℕ) (o : Option A) → unwrap_or (slice_get xs n) None ≡ o → slice_set xs n o ≡ xs
some_set xs n o h = ap (slice_set xs n) (sym h ∙ unwrap_or-slice_get xs n None) ∙ set-get_or xs n None

module _ {h : HostState} {gs : List Guest} {i n : ℕ} (k : KeepsFunction h gs i n) where
  abbrev pub its_guest : GuestAt k.world h k.names gs i k.holds.guest
  its_guest = kept_nth k.kept k.holds.there

  abbrev pub its_slot : SlotAt its_guest n k.holds.slot.held
  its_slot = slot_nth its_guest k.holds.slot.there

  same_function : its_slot.f ≡ k.f
  same_function = let a = its_slot.function in let b = k.function in cc

  pub its_low : n ≤ 31
  its_low =
      let within = slice_get_within k.holds.guest.slots.items n (Some k.holds.slot.held) k.holds.slot.there in
      let count : length k.holds.guest.slots.items ≡ 32 =
      slots_count k.world.handoff (guest_nth k.world i).paths (lone_nth k.world i).slots k.holds.guest.slots.items its_guest.is.slots ∙ (seated its_guest).count in
      omega arith

  pub its_endpoint : IsSome (endpoint_nth h.state.functions k.holds.slot.held.index)
  its_endpoint = endpoint_held its_guest its_slot

  pub its_row : (e : Function) × (endpoint_nth h.state.functions k.holds.slot.held.index ≡ Some e)
  its_row = (_, ap (λ (o : Option BoardFunction). option_map_or as_endpoint o None) (held_row its_guest its_slot))

  pub its_decl : (e : Function) → endpoint_nth h.state.functions k.holds.slot.held.index ≡ Some e → e.decl ≡ k.f.decl
  its_decl e is =
      let row = ap (λ (o : Option BoardFunction). option_map_or as_endpoint o None) (held_row its_guest its_slot) in
      let same : e.decl ≡ its_slot.f.decl = cc in
      same ∙ ap (λ (f : Function). f.decl) same_function

  pub its_lawful : IsLawfulEndpoint k.f.decl
  its_lawful = subst (λ (f : Function). IsLawfulEndpoint f.decl) same_function (lawful its_guest its_slot)

  -- ---- one change after the other

  pub nothing_yet : Becomes k k.f.file h gs
  nothing_yet = record {
    kept = subst (λ (w : WorldNow). IsKept w h k.names gs) (sym same_world) k.kept;
    holds = k.holds;
  }
    where
      same_world : with_slot_nth i n (Some k.f) k.world ≡ k.world
      same_world =
          ap (λ (fs : Slots). with_lone_nth i (record (lone_nth k.world i) { slots = fs }) k.world) (some_set (lone_nth k.world i).slots n (Some k.f) k.function)
          ∙ with_same its_guest

  module _ {file : File} {new : HostState} {back : List Guest} (b : Becomes k file new back) where
    abbrev pub changed_lone : LoneGuest
    changed_lone = record (lone_nth k.world i) { slots = slice_set (lone_nth k.world i).slots n (Some (record k.f { file = file })) }

    pub lone_is : lone_nth (with_slot_nth i n (Some (record k.f { file = file })) k.world) i ≡ changed_lone
    lone_is = lone_set k.world i its_guest.there changed_lone

    abbrev pub go_on : KeepsFunction new back i n
    go_on = record {
      world = with_slot_nth i n (Some (record k.f { file = file })) k.world;
      names = k.names;
      kept = b.kept;
      f = record k.f { file = file };
      function = ap (λ (l : LoneGuest). slot_at l.slots n) lone_is ∙ slot_set (lone_nth k.world i).slots n k.f (record k.f { file = file }) k.function;
      holds = b.holds;
    }

    world_twice : (o : Option Function) → with_slot_nth i n o (with_slot_nth i n (Some (record k.f { file = file })) k.world) ≡ with_slot_nth i n o k.world
    world_twice o =
        let w : WorldNow = with_slot_nth i n (Some (record k.f { file = file })) k.world in
        set_again k.world i its_guest.there changed_lone (record (lone_nth w i) { slots = slice_set (lone_nth w i).slots n o })
        ∙ ap (λ (l : LoneGuest). with_lone_nth i (record l { slots = slice_set l.slots n o }) k.world) lone_is
        ∙ ap (λ (fs : Slots). with_lone_nth i (record (lone_nth k.world i) { slots = fs }) k.world) (set-set (lone_nth k.world i).slots n (Some (record k.f { file = file })) o)

    pub chained : {next : File} {last : HostState} {left : List Guest} → Becomes go_on next last left → Becomes k next last left
    chained {next} {last} {left} c = grind (arith, world_twice)

-- ---- bytes that a device puts

pub record ReachesByte (f : Function) (place : headers.Place) (off : ℕ) : Type 0 where
  pub reaches : device_place f (part_of place) off ≡ Some (place_of place off)
  pub own : is_device_byte (place_of place off) ≡ true

next_place : (place : headers.Place) (off : ℕ) → place_of place (off + 1) ≡ after (place_of place off)
next_place Cfg off = refl
next_place (Bar n) off = refl

-- as code holds the board
abbrev pub IsPut : HostState → ℕ → (File → File) → HostState → Type 0
IsPut h index f new = new ≡ with_functions (with_file_nth f index h.state.functions) h

-- the bytes after the first
pub put_next : (h new : HostState) (index : ℕ) (place : headers.Place) (off v : ℕ) (rest left : List ℕ) → left ≡ v ∷ rest → IsPut h index (set_value v (place_of place off)) new
    → with_functions (with_file_nth (put_run rest (place_of place (off + 1))) index new.state.functions) new ≡ with_functions (with_file_nth (put_run left (place_of place off)) index h.state.functions) h
put_next h new index place off v rest left first is =
    let q : Place = place_of place off in
    ap (λ (x : HostState). with_functions (with_file_nth (put_run rest (place_of place (off + 1))) index x.state.functions) x) is
    ∙ ap (λ (p : Place). with_functions (with_file_nth (put_run rest p) index (with_file_nth (set_value v q) index h.state.functions)) h) (next_place place off)
    ∙ ap (λ (fs : List BoardFunction). with_functions fs h) (changed_twice (set_value v q) (put_run rest (after q)) index h.state.functions)
    ∙ ap (λ (vs : List ℕ). with_functions (with_file_nth (put_run vs q) index h.state.functions) h) (sym first)

pub no_bytes : (xs : List ℕ) → length xs ≡ 0 → xs ≡ []
no_bytes [] none = refl
no_bytes (x ∷ xs) none = absurd (omega arith)

-- none is left
pub put_none : (h : HostState) (index : ℕ) (p : Place) (left : List ℕ) → length left ≡ 0 → h ≡ with_functions (with_file_nth (put_run left p) index h.state.functions) h
put_none h index p left none =
    sym (ap (λ (vs : List ℕ). with_functions (with_file_nth (put_run vs p) index h.state.functions) h) (no_bytes left none)
    ∙ ap (λ (fs : List BoardFunction). with_functions fs h) (changed_back index h.state.functions))

kept_put : {h : HostState} {gs : List Guest} {i n : ℕ} (k : KeepsFunction h gs i n) (place : headers.Place) (off v : ℕ) → ReachesByte k.f place off
    → {new : HostState} → IsPut h k.holds.slot.held.index (set_value v (place_of place off)) new
    → IsKept (with_slot_nth i n (Some (record k.f { file = set_value v (place_of place off) k.f.file })) k.world) new k.names gs
kept_put {h} {gs} {i} {n} k place off v reach {new} is =
    let q : Place = place_of place off in
    let low : nat_le 32 n ≡ false = low_slot (its_low k) in
    let reaches : device_place (its_slot k).f (part_of place) off ≡ Some q = subst (λ (f : Function). device_place f (part_of place) off ≡ Some q) (sym (same_function k)) reach.reaches in
    let kept = put_kept (its_guest k) (its_slot k) low place off reaches reach.own v is in
    let as_put = byte_put (its_guest k) (its_slot k) low place off reaches reach.own v in
    subst (λ (f : Function). IsKept (with_slot_nth i n (Some (record f { file = set_value v q f.file })) k.world) new k.names gs) (same_function k)
    (subst (λ (l : LoneGuest). IsKept (with_lone_nth i l k.world) new k.names gs) as_put kept)

pub put_all : (vs : List ℕ) {h : HostState} {gs : List Guest} {i n : ℕ} (k : KeepsFunction h gs i n) (place : headers.Place) (first : ℕ) → ((m : ℕ) → m < length vs → ReachesByte k.f place (first + m))
    → {new : HostState} → IsPut h k.holds.slot.held.index (put_run vs (place_of place first)) new → Becomes k (put_run vs (place_of place first) k.f.file) new gs
put_all [] {h} {gs} k place first reach {new} is =
    let same : new ≡ h = is ∙ sym (put_none h k.holds.slot.held.index (place_of place first) [] refl) in
    subst (λ (x : HostState). Becomes k k.f.file x gs) (sym same) (nothing_yet k)
put_all (v ∷ vs) {h} {gs} {i} {n} k place first reach {new} is =
    let q : Place = place_of place first in
    let index : ℕ = k.holds.slot.held.index in
    let mid : HostState = with_functions (with_file_nth (set_value v q) index h.state.functions) h in
    let same : first + 0 ≡ first = omega arith in
    let here : ReachesByte k.f place first = subst (λ (x : ℕ). ReachesByte k.f place x) same (reach 0 (omega arith)) in
    let one : Becomes k (set_value v q k.f.file) mid gs = record { kept = kept_put k place first v here refl; holds = k.holds } in
    let more = put_all vs (go_on k one) place (first + 1) shifted (is ∙ sym (put_next h mid index place first v vs (v ∷ vs) refl refl)) in
    chained k one (subst (λ (p : Place). Becomes (go_on k one) (put_run vs p (set_value v q k.f.file)) new gs) (next_place place first) more)
  where
    shifted : (m : ℕ) → m < length vs → ReachesByte (record k.f { file = set_value v (place_of place first) k.f.file }) place (first + 1 + m)
    shifted m low =
        let same : first + (m + 1) ≡ first + 1 + m = omega arith in
        let more = subst (λ (x : ℕ). ReachesByte k.f place x) same (reach (m + 1) (omega arith)) in
        record { reaches = more.reaches; own = more.own }

-- ---- a byte that a guest writes

module _ {h : HostState} {gs : List Guest} {i n : ℕ} (k : KeepsFunction h gs i n) (off v : ℕ) {enables moved : ℕ} (enables_are : enables ≡ enables_of off 1) (moved_is : moved ≡ to_lanes off v)
    {left : List Guest} {r : ℕ × ℕ} (written : (holds : HoldsAt gs i n) → WritesGuest gs i n holds (off / 4 * 4) enables moved left r) where
  abbrev its_write : WritesGuest gs i n k.holds (off / 4 * 4) enables moved left r
  its_write = written k.holds

  still_holds : HoldsAt left i n
  still_holds =
      let held : AssignedFunction = record k.holds.slot.held { own = its_write.slots.own } in
      record {
        guest = its_write.guest;
        there = ap (λ (xs : List Guest). slice_get xs i) its_write.after ∙ get_set gs i k.holds.guest its_write.guest k.holds.there;
        slot = record {
          held = held;
          there = ap (λ (os : List (Option AssignedFunction)). slice_get os n) its_write.slots.after ∙ get_set k.holds.guest.slots.items n (Some k.holds.slot.held) (Some held) k.holds.slot.there;
        };
      }

  pub wrote_one : {new : HostState} → IsPut h r.0 (write (lanes r.1) moved (config (off / 4 * 4))) new → Becomes k (write (all_bytes 1) v (config off) k.f.file) new left
  wrote_one {new} is =
      let aligned : off % 1 ≡ 0 = omega arith in
      let slot : SlotAt (its_guest k) n k.holds.slot.held = its_slot k in
      let gone = config_written (its_guest k) slot off 1 v (inl refl) aligned enables_are moved_is (written (holds_nth (its_guest k) slot)) is in
      let as_written : with_lone_nth i (after_access_at (lone_nth k.world i) (writes v) 1 (at_target (configuration n off))) k.world
      ≡ with_slot_nth i n (Some (record slot.f { file = write (all_bytes 1) v (config off) slot.f.file })) k.world =
      ap (λ (o : Option Landing). with_lone_nth i (record (lone_nth k.world i) { slots = effect (writes v) 1 (lone_nth k.world i).slots o }) k.world) (lands (its_guest k) slot off)
      ∙ ap (λ (fs : Slots). with_lone_nth i (record (lone_nth k.world i) { slots = fs }) k.world) (with_file_there (write (all_bytes 1) v (config off)) n (lone_nth k.world i).slots slot.f slot.function) in
      record {
        kept = subst (λ (f : Function). IsKept (with_slot_nth i n (Some (record f { file = write (all_bytes 1) v (config off) f.file })) k.world) new k.names left) (same_function k)
            (subst (λ (w : WorldNow). IsKept w new k.names left) as_written gone.kept);
        holds = still_holds;
      }
