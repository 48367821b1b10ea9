-- What is kept of a guest shows what its regions are, and what its accesses hit.
use Rattle.std.{proofs.{Common.{◌≡◌, ◌≤◌, ◌<◌, ℕ, zero, suc, ◌+◌, ◌*◌, ◌/◌, Bool, true, false, cond, eqb, List, [], ◌∷◌, length, get_or, Some, None, Option, Err, slice_get, refl, sym, ap, ap₂, ◌∙◌, subst, arith, rules}, lemmas.{Bool.{ltb-true, ltb-false, Decides.nat_tests}, Option.{slice_get_read, slice_get_past}}}, specs.{Prelude.{find, map, nat_lt, option_map, unwrap_or, Result}, Option.{option_map_or, ok_or}}}
use Rattle.lists.proofs.{Indices.{found_at, index_in}, Members.{each_in, in_map}}
use Rattle.model_registers.specs.{Registers.{config, File, read, number, all_bytes}, ByteEnables.lanes, Declarations.{Kind, mem64, Region, registers_of, IsLawfulRegion, HasLawfulRegions}, EndpointTable.BaseAddress, OwnCopies.{OwnCopies, HoldsOwn, IsLawfulOwn, forwarded_byte_enables, bare}, Decoding.{Function, space_of, base, is_open, base_address}}
use Rattle.model_board.specs.{Paths.Path, State.State, Ports.file_at}
use Rattle.model_guests.specs.{Slots.slot_at, Text.Text, WorldNow.WorldNow}
use Rattle.model_handoff.specs.GuestRegions.{LiveBar, is_prefetchable, region_now, region_at, region_of, region_answer}
use Rattle.bars.specs.declared.region.BarWithBase.{BarWithBase}
use Rattle.host_bridge.specs.HostState.{HostState}
use Rattle.monitor.{specs.{declared.guest.{AssignedFunction.AssignedFunction, Guest.Guest}, Keeping.{IsHeld, AreSlots}, ByIndex.{guest_nth, lone_nth}, Queries.IsGuestNth, InSlots.{IsInSlot, IsSlotFault}}, proofs.{Steps.{slot_there, GuestAt, lone_named, slot_nth}, ConfigSteps.seen, Checks.low_slot}}
use Rattle.bars.specs.Slots as bars

-- ---- a base of 64 bits

pub read_eight : (file : File) (a : ℕ) → number file (config a) 8 ≡ number file (config a) 4 + 0x100000000 * number file (config (a + 4)) 4
read_eight file a = grind arith

-- a register is an own copy, each of its bytes
own_register : (n : ℕ) → n < 6 → forwarded_byte_enables (config (0x10 + 4 * n)) (all_bytes 4) ≡ false ∷ false ∷ false ∷ false ∷ []
own_register zero h = refl
own_register (suc zero) h = refl
own_register (suc (suc zero)) h = refl
own_register (suc (suc (suc zero))) h = refl
own_register (suc (suc (suc (suc zero)))) h = refl
own_register (suc (suc (suc (suc (suc zero))))) h = refl
own_register (suc (suc (suc (suc (suc (suc n)))))) h = absurd (omega arith)

-- what the copies give of a word at an offset, and the enables of its other bytes
pub record IsWordRead (own : OwnCopies) (off v others : ℕ) : Type 0 where
  pub others_are : lanes others ≡ forwarded_byte_enables (config off) (all_bytes 4)
  pub together : (file : File) → HoldsOwn file own → read file (config off) (all_bytes 4) ≡ v + read file (config off) (lanes others)

register_read : (own : OwnCopies) (file : File) → HoldsOwn file own → (n off v others : ℕ) → n < 6 → off ≡ 0x10 + 4 * n → IsWordRead own off v others → number file (config off) 4 ≡ v
register_read own file holds n off v others low at is = search (rules, own_register)

pub wide_base : (own : OwnCopies) (file : File) → HoldsOwn file own → (n low high others more : ℕ) → IsWordRead own (0x10 + 4 * n) low others → IsWordRead own (0x10 + 4 * n + 4) high more
    → (k : Kind) (pref : Bool) → k ≡ mem64 pref → n + registers_of k ≤ 6 → (low + 0x100000000 * high) / 16 * 16 ≡ base file n k
wide_base own file holds n low high others more first second k pref is room =
    let two : registers_of k ≡ 2 = ap registers_of is in
    let here : n < 6 = omega (arith, room, two) in
    let after : n + 1 < 6 = omega (arith, room, two) in
    let next : 0x10 + 4 * n + 4 ≡ 0x10 + 4 * (n + 1) = omega arith in
    let eight : number file (config (0x10 + 4 * n)) 8 ≡ low + 0x100000000 * high =
    read_eight file (0x10 + 4 * n)
    ∙ ap₂ (λ (x y : ℕ). x + 0x100000000 * y) (register_read own file holds n (0x10 + 4 * n) low others here refl first)
    (register_read own file holds (n + 1) (0x10 + 4 * n + 4) high more after next second) in
    ap (λ (m : ℕ). m / 16 * 16) (sym eight) ∙ ap (base file n) (sym is)

-- ---- the region that begins at a register

-- as code reads it, and past the last
module _ (slots : List (Option BarWithBase)) (n : ℕ) where
  pub slot_read : {x o : Option BarWithBase} → true ≡ nat_lt n (length slots) → x ≡ get_or slots n x → x ≡ o → bars.slot_at slots n ≡ o
  slot_read {x} {o} low is same =
      ap (λ (y : Option (Option BarWithBase)). unwrap_or y None) (slice_get_read slots (length slots) n x refl (ltb-true n (length slots) (sym low)) is) ∙ same

  pub slot_past : false ≡ nat_lt n (length slots) → bars.slot_at slots n ≡ None
  slot_past past = ap (λ (y : Option (Option BarWithBase)). unwrap_or y None) (slice_get_past slots n (ltb-false n (length slots) (sym past)))

none_from : (n k : ℕ) (slots : List (Option BarWithBase)) → n < k → find (λ (x : BaseAddress). eqb x.index n) (bars.bases_from k slots) ≡ None
none_from n k [] h = refl
none_from n k (None ∷ slots) h = none_from n (k + 1) slots (omega arith)
none_from n k (Some r ∷ slots) h = grind (arith, nat_tests, none_from n (k + 1) slots)

pub kept_at : (n k : ℕ) (slots : List (Option BarWithBase)) → find (λ (x : BaseAddress). eqb x.index (k + n)) (bars.bases_from k slots) ≡ option_map (bars.placed (k + n)) (bars.slot_at slots n)
kept_at n k [] = refl
kept_at zero k (None ∷ slots) = none_from (k + 0) (k + 1) slots (omega arith)
kept_at zero k (Some r ∷ slots) = grind (arith, nat_tests)
kept_at (suc n) k (None ∷ slots) = grind (arith, kept_at n (k + 1) slots)
kept_at (suc n) k (Some r ∷ slots) = grind (arith, nat_tests, kept_at n (k + 1) slots)

placed_at : (s : State) (p : Path) (n : ℕ) (rs : List Region) → find (λ (x : BaseAddress). eqb x.index n) (map (base_address (file_at s.functions p)) rs) ≡ option_map (base_address (file_at s.functions p)) (find (λ (r : Region). eqb r.index n) rs)
placed_at s p n [] = refl
placed_at s p n (r ∷ rs) = grind (arith, placed_at s p n rs)

same_place : (s : State) (p : Path) (f : Function) (h : AssignedFunction) (n : ℕ) → IsHeld s p f h → option_map (bars.placed n) (bars.slot_at h.placed n) ≡ option_map (base_address (file_at s.functions p)) (region_at f n)
same_place s p f h n held =
    let zero_on : 0 + n ≡ n = omega arith in
    ap (λ (m : ℕ). option_map (bars.placed m) (bars.slot_at h.placed n)) (sym zero_on) ∙ sym (kept_at n 0 h.placed)
    ∙ ap (λ (m : ℕ). find (λ (x : BaseAddress). eqb x.index m) (bars.bases_from 0 h.placed)) zero_on
    ∙ ap (find (λ (x : BaseAddress). eqb x.index n)) held.placed ∙ placed_at s p n f.decl.regions

-- none, or one of this kind and size
pub record IsRegionAt (f : Function) (n : ℕ) (x : BarWithBase) : Type 0 where
  pub region : Region
  pub there : region_at f n ≡ Some region
  pub index : region.index ≡ n
  pub kind : region.kind ≡ x.decl.kind
  pub size : region.size ≡ x.decl.size
  pub room : n + registers_of region.kind ≤ 6

pub no_region : (s : State) (p : Path) (f : Function) (h : AssignedFunction) (n : ℕ) → IsHeld s p f h → bars.slot_at h.placed n ≡ None → region_at f n ≡ None
no_region s p f h n held none = by_region (region_at f n) (ap (option_map (bars.placed n)) (sym none) ∙ same_place s p f h n held)
  where
    by_region : (o : Option Region) → None ≡ option_map (base_address (file_at s.functions p)) o → o ≡ None
    by_region None e = refl
    by_region (Some r) e = cc

pub a_region : (s : State) (p : Path) (f : Function) (h : AssignedFunction) (n : ℕ) (x : BarWithBase) → IsHeld s p f h → IsLawfulOwn h.own → bars.slot_at h.placed n ≡ Some x → IsRegionAt f n x
a_region s p f h n x held lawful some = by_region (region_at f n) refl (ap (option_map (bars.placed n)) (sym some) ∙ same_place s p f h n held)
  where
    by_region : (o : Option Region) → region_at f n ≡ o → Some (bars.placed n x) ≡ option_map (base_address (file_at s.functions p)) o → IsRegionAt f n x
    by_region None at e = cc
    by_region (Some r) at e =
        let same : bars.placed n x ≡ base_address (file_at s.functions p) r = cc in
        let index : r.index ≡ n = ap (λ (y : BaseAddress). y.index) (sym same) in
        let regions : HasLawfulRegions (map bare f.decl.regions) = subst HasLawfulRegions (sym held.regions) lawful in
        let found = found_at (λ (y : Region). eqb y.index n) f.decl.regions r at in
        let room : r.index + registers_of r.kind ≤ 6 = (each_in IsLawfulRegion (bare r) (map bare f.decl.regions) regions.each (in_map bare r f.decl.regions (index_in f.decl.regions found.1.0 r found.1.1))).registers in
        grind arith

pub region_told : (f : Function) (n : ℕ) (x : BarWithBase) → IsRegionAt f n x → (k : Kind) → k ≡ x.decl.kind → (v : LiveBar) → v.space ≡ space_of k → (n + registers_of k ≤ 6 → v.first ≡ base f.file n k)
    → v.size ≡ x.decl.size → v.prefetchable ≡ is_prefetchable k → v.is_open ≡ is_open f.file (space_of k) → Some v ≡ option_map (region_now f.file) (region_at f n)
region_told f n x is k kind v space first size pref opened = grind arith

-- ---- a guest by its index

pub guest_nth_is : {w : WorldNow} {h : HostState} {names : List Text} {gs : List Guest} {i : ℕ} {g : Guest} → GuestAt w h names gs i g → IsGuestNth w i g
guest_nth_is at = record {
  named = lone_named at;
  latch = at.is.latch;
  slots = at.is.slots;
  lawful = λ n held its. (seen at (slot_nth at its)).lawful;
}

-- ---- answers

module _ {w : WorldNow} {i : ℕ} {g : Guest} (is : IsGuestNth w i g) {slots : List (Option AssignedFunction)} (same : slots ≡ g.slots.items) (n m : ℕ) where
  lent : AreSlots w.handoff (guest_nth w i).paths (lone_nth w i).slots slots
  lent = subst (AreSlots w.handoff (guest_nth w i).paths (lone_nth w i).slots) (sym same) is.slots

  abbrev answer_by : Bool → Option Function → Result LiveBar ℕ
  answer_by past o = cond past (Err 303) (option_map_or (λ (f : Function). region_of f m) o (Err 601))

  pub answer_refused : {number : ℕ} → IsSlotFault slots n number → Err number ≡ region_answer (lone_nth w i) n m
  answer_refused {number} fault = grind (arith, lent)

  pub answer_there : {held : AssignedFunction} → IsInSlot slots n held → {o : Option LiveBar}
      → ((s : State) (p : Path) (f : Function) → IsHeld s p f held → IsLawfulOwn held.own → o ≡ option_map (region_now f.file) (region_at f m))
      → ok_or o 303 ≡ region_answer (lone_nth w i) n m
  answer_there {held} inside {o} told =
      let slot = slot_there w.handoff (guest_nth w i).paths (lone_nth w i).slots slots n held lent inside.there in
      let lawful : IsLawfulOwn held.own = is.lawful n held (ap (λ (os : List (Option AssignedFunction)). slice_get os n) (sym same) ∙ inside.there) in
      ap (λ (p : Option LiveBar). ok_or p 303) (told w.handoff slot.p slot.f slot.held lawful)
      ∙ ap (answer_by false) (sym slot.function) ∙ ap (λ (t : Bool). answer_by t (slot_at (lone_nth w i).slots n)) (sym (low_slot inside.low))
