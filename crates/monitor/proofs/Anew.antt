-- Guests of the same names, whose slots are empty, are lawful on any board.
use Rattle.std.{proofs.{Common.{◌≡◌, ◌≤◌, ◌+◌, ◌++◌, ℕ, zero, suc, Some, slice_get, take, List, [], ◌∷◌, length, refl, sym, ap, ◌∙◌, subst, arith}, lemmas.{List.length-map, Option.same_Some}}, specs.{Prelude.{flat_map, map, IsFalse, IsSome, IsTrue}, Str.bytes_eq}}
use Rattle.lists.specs.Elements.{Each, EachPair}
use Rattle.model_board.specs.Paths.{Path, path_eq}
use Rattle.model_guests.specs.{Text.Text, World.{Guest as Declared, HasLawfulGuests, declared, is_name}}
use Rattle.host_bridge.specs.HostState.{HostState}
use Rattle.monitor.specs.Beginnings.{with_no_slots, world_on}

-- one guest more
pub one_more : (ns : List Text) (i : ℕ) (n : Text) → slice_get ns i ≡ Some n → map with_no_slots (take i ns) ++ with_no_slots n ∷ [] ≡ map with_no_slots (take (i + 1) ns)
one_more [] i n h = cc
one_more (m ∷ ns) zero n h = let same : m ≡ n = same_Some m n h in ap (λ (x : Text). with_no_slots x ∷ []) (sym same)
one_more (m ∷ ns) (suc i) n h = let next : suc (i + 1) ≡ suc i + 1 = omega arith in ap (λ (xs : List Declared). with_no_slots m ∷ xs) (one_more ns i n h) ∙ ap (λ k. map with_no_slots (take k (m ∷ ns))) next

names_back : (ns : List Text) → map (λ (g : Declared). g.name) (map with_no_slots ns) ≡ ns
names_back [] = refl
names_back (n ∷ ns) = ap (λ (xs : List Text). n ∷ xs) (names_back ns)

none_given : (ns : List Text) → flat_map (λ (g : Declared). g.slots) (map with_no_slots ns) ≡ []
none_given [] = refl
none_given (n ∷ ns) = none_given ns

none_many : (ns : List Text) → Each (λ (g : Declared). length g.slots ≤ 32) (map with_no_slots ns)
none_many [] = tt
none_many (n ∷ ns) = (omega arith, none_many ns)

pub lawful_anew : (h : HostState) (ns : List Text) → length ns ≤ 32 → Each (λ n. IsTrue (is_name n)) ns → EachPair (λ m n. IsFalse (bytes_eq m n)) ns → HasLawfulGuests (world_on h (map with_no_slots ns))
lawful_anew h ns few lawful apart =
    let back = sym (names_back ns) in
    let none = sym (none_given ns) in
    record {
      few_guests = let many = length-map ns with_no_slots in omega arith;
      lawful_names = subst (Each (λ n. IsTrue (is_name n))) back lawful;
      names_apart = subst (EachPair (λ m n. IsFalse (bytes_eq m n))) back apart;
      few_slots = none_many ns;
      endpoints = subst (λ (ps : List Path). Each (λ p. IsSome (declared (world_on h (map with_no_slots ns)).board p)) ps) none tt;
      paths_apart = subst (λ (ps : List Path). EachPair (λ p q. IsFalse (path_eq p q)) ps) none tt;
    }
