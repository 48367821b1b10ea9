-- The bridges on the way of a cycle, one after the other.
use Rattle.std.{proofs.{Common.{◌≡◌, ℕ, suc, ◌+◌, ◌-◌, ◌<◌, Bool, true, false, cond, List, [], ◌∷◌, ◌++◌, ◌&&◌, not, Option, Some, None, refl, sym, ap, ap₂, ◌∙◌, arith, append_assoc, append-nil}, lemmas.List.map-append}, specs.{Prelude.{map, filter, length, option_map, ◌==◌}, Option.{option_map_or, option_to_list}}}
use Rattle.model_board.specs.{Routing.routing, Paths.{Path, path_eq}, State.BoardFunction, Cycles.{secondary_register, taker, BusAddress, reached}}
use Rattle.model_lines.specs.Ways.{takers, takers_by, takers_down, WayEnd, on_bus, no_taker, end_by, way_end, takers_on_way, end_of, Missing, missing, has_number, is_found, why_number}
use Rattle.findings.specs.{declared.cycle_way.Taken.Taken, WhyByRows.selected, WhyOnWay.{taken, missing_by, unreached_at_bdf}}

abbrev path_of : BoardFunction → Path
path_of f = f.path

module _ (fs : List BoardFunction) (n : ℕ) where
  abbrev as_taken : BoardFunction → Taken
  as_taken f = record { path = f.path; is_last = secondary_register f.file == n }

  -- the bridges that take a cycle behind the one through which it goes
  abbrev told_below : ℕ → Option BoardFunction → List Path
  told_below k o = map path_of (takers_by n (takers_down fs n k) o)

  none_taken : (k : ℕ) (bus : Path) → taken fs bus n ≡ None → (told_below k (taker fs bus n) ≡ []) × (way_end fs n (suc k) bus ≡ no_taker bus)
  none_taken k bus e = grind arith

  one_taken : (k : ℕ) (bus : Path) (t : Taken) → taken fs bus n ≡ Some t
      → (told_below k (taker fs bus n) ≡ cond t.is_last [] (map path_of (takers_down fs n k t.path)))
      × (way_end fs n (suc k) bus ≡ cond t.is_last (on_bus t.path) (way_end fs n k t.path))
  one_taken k bus t e = by (taker fs bus n) e
    where
      apart : (b : Bool) (below : List BoardFunction) → map path_of (cond b [] below) ≡ cond b [] (map path_of below)
      apart true below = refl
      apart false below = refl

      by : (o : Option BoardFunction) → option_map as_taken o ≡ Some t
          → (told_below k o ≡ cond t.is_last [] (map path_of (takers_down fs n k t.path)))
          × (end_by n (way_end fs n k) bus o ≡ cond t.is_last (on_bus t.path) (way_end fs n k t.path))
      by None h = cc
      by (Some f) h =
          let same : as_taken f ≡ t = cc in
          let path : f.path ≡ t.path = ap (λ (u : Taken). u.path) same in
          let ends : (secondary_register f.file == n) ≡ t.is_last = ap (λ (u : Taken). u.is_last) same in (
            apart (secondary_register f.file == n) (takers_down fs n k f.path) ∙ ap₂ (λ (p : Path) (b : Bool). cond b [] (map path_of (takers_down fs n k p))) path ends,
            ap₂ (λ (p : Path) (b : Bool). cond b (on_bus p) (way_end fs n k p)) path ends,
          )

-- ---- after some bridges

pub record IsOnWay (fs : List BoardFunction) (n : ℕ) (told : List Path) (bus : Path) (i : ℕ) : Type 0 where
  pub so_far : told ++ map path_of (takers_down fs n (16 - i) bus) ≡ map path_of (takers_down fs n 16 [])
  pub to_end : way_end fs n (16 - i) bus ≡ way_end fs n 16 []

pub record IsWhole (fs : List BoardFunction) (n : ℕ) (told : List Path) (end : WayEnd) : Type 0 where
  pub bridges : told ≡ map path_of (takers_down fs n 16 [])
  pub end_is : end ≡ way_end fs n 16 []

module _ (fs : List BoardFunction) (n : ℕ) (told : List Path) (bus : Path) where
  pub runs_out : IsOnWay fs n told bus 16 → IsWhole fs n told (no_taker bus)
  runs_out on = record { bridges = sym (append-nil told) ∙ on.so_far; end_is = on.to_end }

  -- with those of the next bus
  module _ (i : ℕ) (on : IsOnWay fs n told bus i) (few : i < 16) (more : List Path) (added : more ≡ told ++ map path_of (takers fs n bus)) where
    left : 16 - i ≡ suc (16 - (i + 1))
    left = omega (arith, few)

    below : more ++ told_below fs n (16 - (i + 1)) (taker fs bus n) ≡ map path_of (takers_down fs n 16 [])
    below = grind (arith, append_assoc, map-append, left)

    end_here : way_end fs n (suc (16 - (i + 1))) bus ≡ way_end fs n 16 []
    end_here = ap (λ k. way_end fs n k bus) (sym left) ∙ on.to_end

    pub stops_here : taken fs bus n ≡ None → IsWhole fs n more (no_taker bus)
    stops_here e = grind (arith, none_taken, append-nil, below, end_here)

    module _ (t : Taken) (e : taken fs bus n ≡ Some t) where
      step : (told_below fs n (16 - (i + 1)) (taker fs bus n) ≡ cond t.is_last [] (map path_of (takers_down fs n (16 - (i + 1)) t.path)))
          × (way_end fs n (suc (16 - (i + 1))) bus ≡ cond t.is_last (on_bus t.path) (way_end fs n (16 - (i + 1)) t.path))
      step = one_taken fs n (16 - (i + 1)) bus t e

      pub goes_on : t.is_last ≡ false → IsOnWay fs n more t.path (i + 1)
      goes_on h = grind (arith, step, below, end_here)

      pub is_there : t.is_last ≡ true → IsWhole fs n more (on_bus t.path)
      is_there h = grind (arith, append-nil, step, below, end_here)

-- a bridge that takes the cycle, or none
pub taking_at : (t : BoardFunction → Bool) (o : Option BoardFunction) → selected t path_of (option_to_list o) ≡ cond (option_map_or t o false) (option_to_list (option_map path_of o)) []
taking_at t None = refl
taking_at t (Some f) = append-nil (cond (t f) (f.path ∷ []) [])

-- the functions that have a number and aren't found by it
pub unfound_is : (fs : List BoardFunction) (at : BusAddress) (o : Option BoardFunction) (gs : List BoardFunction) → unreached_at_bdf fs at (option_map path_of o) (routing gs) ≡ map path_of (filter (λ f. has_number fs at f && not (is_found o f)) gs)
unfound_is fs at o [] = refl
unfound_is fs at o (g ∷ gs) = grind (arith, unfound_is fs at o gs)

-- nothing is missing where something is reached
pub missing_is : (fs : List BoardFunction) (at : BusAddress) (e : WayEnd) → e ≡ end_of fs at → missing_by (option_map path_of (reached fs at)) e at ≡ missing fs at (reached fs at)
missing_is fs at e same = grind arith

-- all that is told of a number
pub number_is : (fs : List BoardFunction) (at : BusAddress) (r : Option Path) (bs ns : List Path) (m : Option Missing) → r ≡ option_map path_of (reached fs at) → bs ≡ map path_of (takers_on_way fs at)
    → m ≡ missing_by r (end_of fs at) at → ns ≡ unreached_at_bdf fs at r (routing fs) → record { reached = r; bridges = bs; missing = m; not_found = ns } ≡ why_number fs at
number_is fs at r bs ns m found taken missed lost = grind (arith, missing_is, unfound_is)

-- nothing is above bus 0
pub path_eq-none : (p : Path) → path_eq p [] ≡ (length p == 0)
path_eq-none [] = refl
path_eq-none (p ∷ ps) = grind arith
