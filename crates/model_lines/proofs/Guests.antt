-- What is found is what the guest's accesses land on, and each closed region that holds an address is told.
use Rattle.std.{proofs.Common.{◌≡◌, ℕ, suc, ◌+◌, inl, inr, ◌⊎◌, Bool, true, false, cond, [], ◌∷◌, Option, Some, refl, sym, ap, ◌∙◌, arith}, specs.{Prelude.{map, filter}, Fmt.digits, Option.option_map_or}}
use Rattle.lists.{specs.Elements.IsIn, proofs.Members.{each_from, in_front, in_back, front_or_back, in_map, from_map, in_filter, from_filter}}
use Rattle.model_registers.specs.{Declarations.Region, Decoding.{Space, Function, is_open}}
use Rattle.model_guests.specs.Slots.{Slots, slot_at}
use Rattle.model_lines.specs.{WhyGuests.{ClosedRegion, closed_region, region_holds, closed_of, closed_from, FoundAsLocated, ClosedAreTrue, ClosedAreAll, IsClosedThere}, GuestExamples.GuestExamples}

-- ---- what is found

pub found_as_located : FoundAsLocated
found_as_located g t = grind arith

-- ---- closed regions

-- of slots from number k on
record IsClosedAt (space : Space) (n k : ℕ) (slots : Slots) (c : ClosedRegion) : Type 0 where
  place : ℕ
  slot_is : c.slot ≡ k + place
  function : Function
  there : slot_at slots place ≡ Some function
  region : Region
  declared : IsIn region function.decl.regions
  region_is : c ≡ closed_region c.slot function.file region
  byte : region_holds space n function.file region ≡ true
  closed : is_open function.file space ≡ false

closed_true : (space : Space) (n k : ℕ) (slots : Slots) (c : ClosedRegion) → IsIn c (closed_from space n k slots) → IsClosedAt space n k slots c
closed_true space n k (o ∷ slots) c m = by (front_or_back c (option_map_or (closed_of space n k) o []) (closed_from space n (k + 1) slots) m) (closed_true space n (k + 1) slots c)
  where
    here : (f : Function) (t : Bool) → is_open f.file space ≡ t → IsIn c (cond t [] (map (closed_region k f.file) (filter (region_holds space n f.file) f.decl.regions))) → IsClosedAt space n k (Some f ∷ slots) c
    here f true e i = absurd i
    here f false e i =
        let r = from_map (closed_region k f.file) c (filter (region_holds space n f.file) f.decl.regions) i in
        let passes = from_filter (region_holds space n f.file) r.0 f.decl.regions r.1 in
        let same : c ≡ closed_region k f.file r.0 = r.2 in
        let number : c.slot ≡ k = ap (λ (x : ClosedRegion). x.slot) same in record {
          place = 0;
          slot_is = omega (arith, number);
          function = f;
          there = refl;
          region = r.0;
          declared = passes.0;
          region_is = same ∙ ap (λ j. closed_region j f.file r.0) (sym number);
          byte = passes.1;
          closed = e;
        }

    first : (p : Option Function) → IsIn c (option_map_or (closed_of space n k) p []) → IsClosedAt space n k (p ∷ slots) c
    first p i = grind (arith, here)

    by : IsIn c (option_map_or (closed_of space n k) o []) ⊎ IsIn c (closed_from space n (k + 1) slots) → (IsIn c (closed_from space n (k + 1) slots) → IsClosedAt space n (k + 1) slots c) → IsClosedAt space n k (o ∷ slots) c
    by (inl i) more = first o i
    by (inr i) more =
        let d : IsClosedAt space n (k + 1) slots c = more i in record {
          place = suc d.place;
          slot_is = omega (arith, d.slot_is);
          function = d.function;
          there = d.there;
          region = d.region;
          declared = d.declared;
          region_is = d.region_is;
          byte = d.byte;
          closed = d.closed;
        }
closed_true space n k [] c m = absurd m

pub closed_are_true : ClosedAreTrue
closed_are_true space n slots = each_from (IsClosedThere space n slots) (closed_from space n 0 slots) one
  where
    one : (c : ClosedRegion) → IsIn c (closed_from space n 0 slots) → IsClosedThere space n slots c
    one c m = grind (arith, closed_true space n 0 slots c m)

closed_all : (space : Space) (n k : ℕ) (slots : Slots) (place : ℕ) (f : Function) → slot_at slots place ≡ Some f → (r : Region) → IsIn r f.decl.regions
    → region_holds space n f.file r ≡ true → is_open f.file space ≡ false → IsIn (closed_region (k + place) f.file r) (closed_from space n k slots)
closed_all space n k [] place f there r m byte closed = grind arith
closed_all space n k (o ∷ slots) place f there r m byte closed = grind (arith, in_front, in_map, in_filter, in_back, closed_all space n (k + 1) slots)

pub closed_are_all : ClosedAreAll
closed_are_all space n slots slot f there r m byte closed = grind (arith, closed_all space n 0 slots slot f there r m byte closed)

pub guest_examples : GuestExamples
unfolding digits
guest_examples = assumption
