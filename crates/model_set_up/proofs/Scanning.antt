-- While a scan runs, configuration cycles reach the functions of the buses that it has met.
use Rattle.std.{proofs.Common.{◌≡◌, ◌+◌, ◌≤◌, ◌<◌, inl, inr, Bool, true, false, cond, List, [], ◌∷◌, ◌++◌, refl, sym, ap, ◌∙◌, subst, arith, lit<, rules}, specs.Prelude.{map, IsTrue}}
use Rattle.lists.{specs.Elements.{Each, IsIn}, proofs.Members.{each_in, each_from, any_in}}
use Rattle.model_registers.specs.{Declarations.Bridge, BridgeTable.bridge_file}
use Rattle.model_board.{specs.{Paths.{Path, path_eq, path_before, is_ancestor_of, parent, last_part}, Board.{Board, Row, is_bridge, is_bridge_at, IsBoard}, BusNumbers.{secondary, subordinate, bus_behind, bus_of}, State.BoardFunction, Numbering.NumbersLead}, proofs.{PathOrder.{one, before_trans, behind_trans, leads_before, path_same}, PathEnds.{path_self, snoc, leads_self, not_before_itself}, BusNumbers.{bus_range_equals_bridges_below, bridges, at, count_two, count_three, counted}, PlacesLaw.path_total, StateRows.rows_of}}
use Rattle.model_set_up.{specs.Scanning.{BusNumbers, board_numbers, open_numbers, no_numbers, numbers_in, scan_numbers, with_numbers, numbered_file, ReachedWhileScanning, NumbersOfScanState}, proofs.Routes.{Names, names_of, covers_between, between_covers, bridge_of, reached_by_names}}

-- ---- path order

one_true : (t : Bool) → 1 ≤ one t → t ≡ true
one_true t h = grind arith

-- what is before a path is before all that comes after it
pub goes_before : (x q r : Path) → path_before x q ≡ true → path_before q r ≡ true → path_before x r ≡ true
goes_before x q r h k =
    let bound : 1 + one (path_eq x q) ≤ one (path_before x r) = rw h at (before_trans x q r k) in
    one_true (path_before x r) (omega arith)

-- a path that is not before another, is at it or after it
not_before : (x q r : Path) → path_before x q ≡ true → path_before r q ≡ false → path_before x r ≡ true
not_before x q r h k = search (rules, path_same, goes_before, path_total)

-- what leads to a part, and is before something before that part, leads to it
leads_between : (r q here : Path) → is_ancestor_of r here ≡ true → path_before q here ≡ true → path_before r q ≡ true → is_ancestor_of r q ≡ true
leads_between r q here h k l = by_leads (is_ancestor_of r q) refl
  where
    by_leads : (t : Bool) → is_ancestor_of r q ≡ t → t ≡ true
    by_leads true e = refl
    by_leads false e =
        let bound : one (path_before here r) + one (path_eq here r) + 1 ≤ one (path_before here q) = rw h at (behind_trans here r q l e) in
        absurd (not_before_itself q (goes_before q here q k (one_true (path_before here q) (omega arith))))

-- ---- the numbers while a scan runs

-- fewer bridges are before a bridge that was met than before the part
pub met_before : (b : Board) (p here : Path) → is_bridge_at b p ≡ true → path_before p here ≡ true → secondary b p < secondary b here
met_before b p here h k = omega (arith, count_two (λ x. path_before x p) (at p) (λ x. path_before x here) (λ x. before_trans x p here k) b, counted b p h)

module _ (b : Board) (lawful : IsBoard b) (here : Path) (few : secondary b here ≤ 256) (bus : Path) (there : is_bridge_at b bus ≡ true) (met : path_before bus here ≡ true) where
  numbers : (p : Path) → is_bridge_at b p ≡ true → NumbersLead b p bus
  numbers p h = bus_range_equals_bridges_below b lawful p bus h there

  -- a bridge above the part has all numbers that were given since its own
  open_covers : (p : Path) → is_bridge_at b p ≡ true → is_ancestor_of p here ≡ true → secondary b p ≤ secondary b bus → secondary b bus ≤ subordinate b p
  open_covers p h k low = grind (arith, numbers p h, leads_between p bus here k met, path_total p bus, path_same p bus)

  names_by : (f : BoardFunction) → is_bridge f.decl ≡ true → is_bridge_at b f.path ≡ true → (t u : Bool) → is_ancestor_of f.path here ≡ t → path_before f.path here ≡ u
      → numbers_in f.file ≡ cond t (open_numbers b f.path) (cond u (board_numbers b f.path) no_numbers)
      → Names b (secondary b bus) f
  names_by f k h true u l e n = search (rules, covers_between, met_before, between_covers, open_covers)
  names_by f k h false true l e n = names_of b (secondary b bus) f k (ap (λ (m : BusNumbers). m.secondary) n, ap (λ (m : BusNumbers). m.subordinate) n)
  names_by f k h false false l e n = record {
    covers_when = λ low high. absurd (omega (arith, (numbers f.path h).earlier (not_before bus here f.path met e)));
    covered = λ c.
        let high : secondary b bus ≤ 0 = subst (λ m. secondary b bus ≤ m) (ap (λ (m : BusNumbers). m.subordinate) n) (between_covers (secondary b bus) f c).1 in
        absurd (omega arith);
  }

pub scan_reaches_buses_found_so_far : ReachedWhileScanning
scan_reaches_buses_found_so_far b lawful here few fs has [] there met t = refl
scan_reaches_buses_found_so_far b lawful here few fs has (a ∷ rs) (inl none) met t = cc
scan_reaches_buses_found_so_far b lawful here few fs has (a ∷ rs) (inr there) met t =
    reached_by_names b lawful fs has.rows (a ∷ rs) (inr there)
    (each_from (λ f. IsTrue (is_bridge f.decl) → Names b (secondary b (a ∷ rs)) f) fs
    (λ f m k. names_by b lawful here few (a ∷ rs) there met f k (bridge_of b lawful fs has.rows f m k) (is_ancestor_of f.path here) (path_before f.path here) refl refl
    (each_in (λ (g : BoardFunction). IsTrue (is_bridge g.decl) → numbers_in g.file ≡ scan_numbers b here g.path) f fs has.numbers m k))) t

-- ---- the states of a scan

abbrev FitBytes : BusNumbers → Type 0
FitBytes n = (n.primary < 256) × (n.secondary < 256) × (n.subordinate < 256)

-- the registers of a bridge read the numbers that were put there
pub numbers_read : (d : Bridge) (multifunction : Bool) (n : BusNumbers) → (n.primary < 256) × (n.secondary < 256) × (n.subordinate < 256) → numbers_in (bridge_file d multifunction (with_numbers n)) ≡ n
numbers_read d multifunction n h = search rules

-- the number of a bus is no greater than that of a bridge on it
pub bus_not_more : (b : Board) (p : Path) → bus_of b p ≤ secondary b p
bus_not_more b [] = omega arith
bus_not_more b (a ∷ p) = by_parent (parent (a ∷ p)) refl
  where
    by_parent : (q : Path) → parent (a ∷ p) ≡ q → bus_behind b q ≤ secondary b (a ∷ p)
    by_parent [] e = omega arith
    by_parent (c ∷ q) e =
        let above : is_ancestor_of (c ∷ q) (a ∷ p) ≡ true = subst (λ (x : Path). is_ancestor_of (c ∷ q) x ≡ true) (sym (snoc (a ∷ p) (omega arith) ∙ ap (λ (x : Path). x ++ last_part (a ∷ p) ∷ []) e)) (leads_self (c ∷ q) (last_part (a ∷ p))) in
        omega (arith, count_two (λ x. path_before x (c ∷ q)) (at (c ∷ q)) (λ x. path_before x (a ∷ p)) (λ x. before_trans x (c ∷ q) (a ∷ p) (leads_before (c ∷ q) (a ∷ p) above)) b)

module _ (b : Board) (here : Path) (few : secondary b here ≤ 256) where
  numbers_fit : (p : Path) → is_bridge_at b p ≡ true → (t u : Bool) → is_ancestor_of p here ≡ t → path_before p here ≡ u → FitBytes (cond t (open_numbers b p) (cond u (board_numbers b p) no_numbers))
  numbers_fit p h true u l e = grind (arith, met_before, leads_before, bus_not_more)
  numbers_fit p h false true l e =
      let less : secondary b p < secondary b here = met_before b p here h e in
      let done : bridges (λ x. path_before x p) b + bridges (at p) b + bridges (λ x. is_ancestor_of p x) b ≤ bridges (λ x. path_before x here) b = count_three (λ x. path_before x p) (at p) (λ x. is_ancestor_of p x) (λ x. path_before x here) (λ x. behind_trans x p here e l) b in
      (omega (arith, bus_not_more b p), omega arith, omega (arith, counted b p h))
  numbers_fit p h false false l e = (lit< tt, lit< tt, lit< tt)

  numbers_from : (rs : List Row) → ((r : Row) → IsIn r rs → IsIn r b) → Each (λ (f : BoardFunction). IsTrue (is_bridge f.decl) → numbers_in f.file ≡ scan_numbers b here f.path) (map (λ (r : Row). record { path = r.path; decl = r.decl; file = numbered_file b (scan_numbers b here) r.path r.decl }) rs)
  numbers_from [] h = tt
  numbers_from (r ∷ rs) h = grind (arith, numbers_from rs, numbers_read, numbers_fit r.path, any_in, h r (inl refl), path_self r.path)

pub numbers_of_scan_state : NumbersOfScanState
numbers_of_scan_state b here few = record { rows = rows_of (numbered_file b (scan_numbers b here)) b; numbers = numbers_from b here few b (λ r m. m) }
