-- A scan from one part to the next.
use Rattle.model_board.{proofs.{PlacesLaw.before_apart, PathOrder.{one, path_same, leads_before, part_self}, PathEnds.{path_self, last_snoc, leads_self, parent_snoc, leads_longer}}, specs.{Paths.{Part, Path, path_eq, path_before, devfn_count, IsPath}, Board.{Decl, endpoint, bridge, Board, Row, is_bridge, is_bridge_at, stands_at, is_multifunction, has_multifunction_bit, IsBoard}, BusNumbers.{secondary, subordinate, bus_behind, bus_of, Enumerates}, State.{BoardFunction, State, state_of}, Cycles.{BusAddress, reached}, AtReset.{reset_file, reset_state}}}
use Rattle.std.{proofs.{Common.{◌≡◌, ℕ, ◌+◌, ◌%◌, ◌≤◌, ◌<◌, Bool, true, false, not, cond, ◌&&◌, List, [], ◌∷◌, ◌++◌, length, append_assoc, map, Some, refl, sym, ap, ap₂, ◌∙◌, subst, arith, eqb, get_or}, Math.{ListN.set, Seq.get_or-append_seam}, lemmas.List.{map-append, length-map}}, specs.Prelude.{find, count_by}}
use Rattle.model_registers.specs.Declarations.{no_io, no_pref, plain_bridge}
use Rattle.model_set_up.{specs.{FunctionTable.{TableRow, met_decl, scanned_table, table_row}, Scanning.{BusNumbers, no_numbers, board_numbers, open_numbers, scan_numbers, scan_state, numbered_file, numbered_state}, ScanOrder.{nth_part, on, next_devfn_to_probe, met, GivesNumbersInPathOrder}}, proofs.{Partings.bridge_at, Scanning.{goes_before, met_before, scan_reaches_buses_found_so_far, numbers_of_scan_state}, ScanParts.{before_first, before_last, leads_place, row_path}, ScanOrder.{scan_meets, scan_gives_numbers, no_bridge_here, no_bridge_none}}}
use Rattle.lists.proofs.Members.{any_in, from_filter, filter_same}
use Rattle.bus_scan.{specs.{declared.probed_header.ProbedHeader.ProbedHeader, Rows.ended as ended_range, Scans.{met_row, given, IsAt, OnBus, StandsAt, IsFound}}, proofs.{States.{Numbers, numbered, map_same, same_state, bridge_there}, MetRows.{count_more, row_same, rows_same, rows_more, met_grows, row_filled}}}

-- ---- cycles

pub before_on : (bus : Path) (t : Part) → path_before bus (bus ++ t ∷ []) ≡ true
before_on bus t = leads_before bus (bus ++ t ∷ []) (leads_self bus t)

-- a cycle for a part of the bus reaches what stands there
pub reaches : (b : Board) (bus : Path) (number : ℕ) → OnBus b bus number → (here : Path) (s : State) (rows : List TableRow) (last : ℕ) → IsAt b here s rows last → path_before bus here ≡ true
    → (n : ℕ) → reached s.functions (record { bus = number; part = nth_part n }) ≡ find (λ f. path_eq f.path (on bus n)) s.functions
reaches b bus number on_bus here s rows last at before n =
    let small : secondary b here ≤ 256 = omega (arith, at.last_given, at.last_fits) in
    ap₂ (λ (s : State) (k : ℕ). reached s.functions (record { bus = k; part = nth_part n })) at.state on_bus.named
    ∙ scan_reaches_buses_found_so_far b on_bus.board here small (scan_state b here).functions (numbers_of_scan_state b here small) bus on_bus.there before (nth_part n)
    ∙ sym (ap (λ (s : State). find (λ f. path_eq f.path (on bus n)) s.functions) at.state)

-- ---- from part to part

-- the next part, as the program finds it
pub next_is : (b : Board) (bus : Path) (n m : ℕ) (t multifunction : Bool) → stands_at b (on bus n) ≡ t → (t && is_multifunction b (on bus n)) ≡ multifunction → m ≡ cond (eqb (n % 8) 0 && not multifunction) (n + 8) (n + 1) → m ≡ next_devfn_to_probe b bus n
next_is b bus n m t multifunction e f h = h ∙ ap (λ x. cond (eqb (n % 8) 0 && not x) (n + 8) (n + 1)) (sym f ∙ ap (λ x. x && is_multifunction b (on bus n)) (sym e))

-- only the header type of function 0 matters
pub next_by_bit : (b : Board) (bus : Path) (n : ℕ) → (eqb (n % 8) 0 && not (has_multifunction_bit b (on bus n))) ≡ (eqb (n % 8) 0 && not (is_multifunction b (on bus n)))
next_by_bit b bus n = by_first (eqb (n % 8) 0) refl
  where
    by_first : (t : Bool) → eqb (n % 8) 0 ≡ t → (t && not (has_multifunction_bit b (on bus n))) ≡ (t && not (is_multifunction b (on bus n)))
    by_first false e = refl
    by_first true e = grind (arith, last_snoc bus (nth_part n))

-- where no function is met in between, and no number changes
pub goes_on : (b : Board) → IsBoard b → (p q : Path) → met b q ≡ met b p → ((x : Path) → is_bridge_at b x ≡ true → scan_numbers b q x ≡ scan_numbers b p x) → (s : State) (rows : List TableRow) (last : ℕ) → IsAt b p s rows last → IsAt b q s rows last
goes_on b lawful p q same numbers s rows last at = grind (arith, same_state, rows_same, bridge_there, scan_gives_numbers b lawful)

pub past_nothing : (b : Board) → IsBoard b → (bus : Path) (n m : ℕ) (s : State) (rows : List TableRow) (last : ℕ) → stands_at b (on bus n) ≡ false → m ≡ cond (eqb (n % 8) 0 && true) (n + 8) (n + 1) → IsAt b (on bus n) s rows last → IsAt b (on bus m) s rows last
past_nothing b lawful bus n m s rows last none is at =
    subst (λ k. IsAt b (on bus k) s rows last) (sym (next_is b bus n m false false none refl is))
    (goes_on b lawful (on bus n) (on bus (next_devfn_to_probe b bus n)) ((scan_meets b lawful).none bus n none) ((scan_gives_numbers b lawful).no_bridge bus n (no_bridge_none b lawful (on bus n) none)) s rows last at)

pub stands_true : (b : Board) (p : Path) (r : Row) → StandsAt b p r → stands_at b p ≡ true
stands_true b p r is = any_in (λ (s : Row). path_eq s.path p) r b is.member (ap (λ (x : Path). path_eq x p) is.path ∙ path_self p)

pub bridge_true : (b : Board) (p : Path) (r : Row) → StandsAt b p r → is_bridge r.decl ≡ true → is_bridge_at b p ≡ true
bridge_true b p r is bridge_is = subst (λ (x : Path). is_bridge_at b x ≡ true) is.path (bridge_there b r is.member bridge_is)

-- past an endpoint
pub past_endpoint : (b : Board) → IsBoard b → (bus : Path) (n m : ℕ) (r : Row) → StandsAt b (on bus n) r → is_bridge r.decl ≡ false → (s : State) (rows : List TableRow) (last : ℕ)
    → m ≡ cond (eqb (n % 8) 0 && not (is_multifunction b (on bus n))) (n + 8) (n + 1) → IsAt b (on bus n) s rows last → (row : TableRow) → row ≡ met_row b (scan_numbers b (on bus n)) r → IsAt b (on bus m) s (rows ++ row ∷ []) last
past_endpoint b lawful bus n m r is none s rows last next at row shown =
    subst (λ k. IsAt b (on bus k) s (rows ++ row ∷ []) last) (sym (next_is b bus n m true (is_multifunction b (on bus n)) (stands_true b (on bus n) r is) refl next))
    (record {
      state = at.state ∙ same_state b (scan_numbers b (on bus n)) (scan_numbers b (on bus (next_devfn_to_probe b bus n))) (λ x k. sym (numbers x k));
      rows_met = ap (λ (x : TableRow). rows ++ x ∷ []) (shown ∙ row_same b (scan_numbers b (on bus n)) (scan_numbers b (on bus (next_devfn_to_probe b bus n))) r (λ k. let bad : true ≡ false = sym k ∙ none in cc))
          ∙ rows_more b (on bus n) (on bus (next_devfn_to_probe b bus n)) (scan_numbers b (on bus n)) (scan_numbers b (on bus (next_devfn_to_probe b bus n))) r more (λ x k before bridge_is. sym (numbers x.path (bridge_there b x k bridge_is))) rows at.rows_met;
      last_given = omega (arith, laws.next_number (on bus (next_devfn_to_probe b bus n)), ap (λ (rs : Board). count_by (λ x. is_bridge x.decl) rs) more, count_more (λ x. is_bridge x.decl) (met b (on bus n)) r, ap one none, laws.next_number (on bus n), at.last_given);
      last_fits = at.last_fits;
    })
  where
    laws : GivesNumbersInPathOrder b
    laws = scan_gives_numbers b lawful

    more : met b (on bus (next_devfn_to_probe b bus n)) ≡ met b (on bus n) ++ r ∷ []
    more = (scan_meets b lawful).endpoint bus n r is.member is.path none

    numbers : (x : Path) → is_bridge_at b x ≡ true → scan_numbers b (on bus (next_devfn_to_probe b bus n)) x ≡ scan_numbers b (on bus n) x
    numbers = laws.no_bridge bus n (subst (λ (p : Path). is_bridge_at b p ≡ false) is.path (no_bridge_here b lawful r is.member none))

-- ---- bridges

-- numbers given to one bridge by its path
given_by : (f : Path → BusNumbers) (numbers : Numbers) (p x : Path) → cond (path_eq x p) (f p) (numbers x) ≡ cond (path_eq x p) (f x) (numbers x)
given_by f numbers p x = grind (arith, path_same x p)

more_behind : (b : Board) → IsBoard b → (p : Path) (r : Row) → StandsAt b p r → met b (on p 0) ≡ met b p ++ r ∷ []
more_behind b lawful p r is = subst (λ (x : Path). met b (on x 0) ≡ met b x ++ r ∷ []) is.path ((scan_meets b lawful).behind r is.member)

-- into the side of a bridge
pub opened : (b : Board) → IsBoard b → (p : Path) (r : Row) → StandsAt b p r → is_bridge r.decl ≡ true → (s : State) (rows : List TableRow) (last : ℕ) → last + 1 < 256 → IsAt b p s rows last
    → (new : State) → new ≡ state_of b (numbered_file b (given p (open_numbers b p) (scan_numbers b p))) → (row : TableRow) → row ≡ met_row b (scan_numbers b (on p 0)) r → IsAt b (on p 0) new (rows ++ row ∷ []) (last + 1)
opened b lawful p r is bridge_is s rows last room at new written row shown = record {
  state = written ∙ same_state b (given p (open_numbers b p) (scan_numbers b p)) (scan_numbers b (on p 0))
      (λ x k. given_by (open_numbers b) (scan_numbers b p) p x ∙ sym (laws.behind p x));
  rows_met = ap (λ (x : TableRow). rows ++ x ∷ []) shown
      ∙ rows_more b p (on p 0) (scan_numbers b p) (scan_numbers b (on p 0)) r (more_behind b lawful p r is)
      (λ x k before i. sym (laws.behind p x.path ∙ ap (λ t. cond t (open_numbers b x.path) (scan_numbers b p x.path)) (before_apart x.path p before))) rows at.rows_met;
  last_given = omega (arith, laws.next_number (on p 0), ap (λ (rs : Board). count_by (λ x. is_bridge x.decl) rs) (more_behind b lawful p r is), count_more (λ x. is_bridge x.decl) (met b p) r, ap one bridge_is, laws.next_number p, at.last_given);
  last_fits = room;
}
  where
    laws : GivesNumbersInPathOrder b
    laws = scan_gives_numbers b lawful

-- nothing stands behind the longest paths
pub deepest : (b : Board) → IsBoard b → (p : Path) → 16 ≤ length p → (s : State) (rows : List TableRow) (last : ℕ) → IsAt b (on p 0) s rows last → IsAt b (on p devfn_count) s rows last
deepest b lawful p long s rows last at =
    goes_on b lawful (on p 0) (on p devfn_count) (filter_same (λ y. path_before y.path (on p devfn_count)) (λ y. path_before y.path (on p 0)) b (λ y m. same_before y.path (row_path b lawful y m)))
    (λ x there. let r = bridge_at b lawful x there in
    ap₂ (λ t u. cond t (open_numbers b x) (cond u (board_numbers b x) no_numbers)) (leads_place x p (nth_part devfn_count) ∙ sym (leads_place x p (nth_part 0))) (same_before x (subst IsPath r.3 (row_path b lawful r.0 r.1)))) s rows last at
  where
    same_before : (x : Path) → IsPath x → path_before x (on p devfn_count) ≡ path_before x (on p 0)
    same_before x path = grind (arith, before_last x p path.parts, before_first x p, leads_longer p x, path.few)

first_before_last : (p : Path) → path_before (on p 0) (on p devfn_count) ≡ true
first_before_last [] = refl
first_before_last (a ∷ p) = grind (arith, part_self, first_before_last p)

-- the side of a bridge comes right after it
grown_from : (b : Board) → IsBoard b → (p : Path) (r : Row) → StandsAt b p r → (rest : Board) × (met b (on p devfn_count) ≡ met b p ++ r ∷ rest)
grown_from b lawful p r is =
    let grown = met_grows b lawful (on p 0) (on p devfn_count) (first_before_last p) in
    (grown.0, grown.1 ∙ ap (λ (xs : Board). xs ++ grown.0) (more_behind b lawful p r is) ∙ append_assoc (met b p) (r ∷ []) grown.0)

-- out of the side of a bridge
closed_at : (b : Board) → IsBoard b → (p to : Path) (r : Row) → StandsAt b p r → is_bridge r.decl ≡ true → met b to ≡ met b (on p devfn_count)
    → ((q : Path) → is_bridge_at b q ≡ true → scan_numbers b to q ≡ cond (path_eq q p) (board_numbers b q) (scan_numbers b (on p devfn_count) q)) → (s : State) (rows : List TableRow) (last : ℕ)
    → IsAt b (on p devfn_count) s rows last → (new : State) → new ≡ state_of b (numbered_file b (given p (board_numbers b p) (scan_numbers b (on p devfn_count))))
    → (i : ℕ) → i ≡ length (met b p) → (row : TableRow) → row ≡ met_row b (board_numbers b) r → IsAt b to new (set rows i row) last
closed_at b lawful p to r is bridge_is same back s rows last at new written i index row shown = record {
  state = written ∙ same_state b (given p (board_numbers b p) (scan_numbers b (on p devfn_count))) (scan_numbers b to)
      (λ x k. given_by (board_numbers b) (scan_numbers b (on p devfn_count)) p x ∙ sym (back x k));
  rows_met = ap₂ (λ (xs : List TableRow) (k : ℕ). set xs k row) at.rows_met index
      ∙ ap (λ (x : TableRow). set (map (met_row b (scan_numbers b (on p devfn_count))) (met b (on p devfn_count))) (length (met b p)) x) (shown ∙ row_same b (board_numbers b) (scan_numbers b to) r own)
      ∙ row_filled b lawful p (on p devfn_count) r is grown.0 grown.1 (scan_numbers b (on p devfn_count)) (scan_numbers b to) (λ q e k. sym (back q k ∙ ap (λ t. cond t (board_numbers b q) (scan_numbers b (on p devfn_count) q)) e))
      ∙ ap (map (met_row b (scan_numbers b to))) (sym same);
  last_given = laws.next_number to ∙ ap (λ (rs : Board). 1 + count_by (λ r. is_bridge r.decl) rs) same ∙ sym (laws.next_number (on p devfn_count)) ∙ at.last_given;
  last_fits = at.last_fits;
}
  where
    laws : GivesNumbersInPathOrder b
    laws = scan_gives_numbers b lawful

    own : is_bridge r.decl ≡ true → board_numbers b r.path ≡ scan_numbers b to r.path
    own k = sym (back r.path (bridge_there b r is.member k) ∙ ap (λ t. cond t (board_numbers b r.path) (scan_numbers b (on p devfn_count) r.path)) (ap (λ (x : Path). path_eq x p) is.path ∙ path_self p))

    grown : (rest : Board) × (met b (on p devfn_count) ≡ met b p ++ r ∷ rest)
    grown = grown_from b lawful p r is

pub closed : (b : Board) → IsBoard b → (bus : Path) (n : ℕ) (r : Row) → StandsAt b (on bus n) r → is_bridge r.decl ≡ true → (s : State) (rows : List TableRow) (last : ℕ)
    → IsAt b (on (on bus n) devfn_count) s rows last → (new : State) → new ≡ state_of b (numbered_file b (given (on bus n) (board_numbers b (on bus n)) (scan_numbers b (on (on bus n) devfn_count))))
    → (i : ℕ) → i ≡ length (met b (on bus n)) → (row : TableRow) → row ≡ met_row b (board_numbers b) r → IsAt b (on bus (next_devfn_to_probe b bus n)) new (set rows i row) last
closed b lawful bus n r is bridge_is s rows last at new written i index row shown =
    let there : is_bridge_at b (on bus n) ≡ true = bridge_true b (on bus n) r is bridge_is in
    closed_at b lawful (on bus n) (on bus (next_devfn_to_probe b bus n)) r is bridge_is ((scan_meets b lawful).back bus n there) ((scan_gives_numbers b lawful).back bus n there) s rows last at new written i index row shown

-- the 256th bridge has no number
pub too_many : (b : Board) → IsBoard b → (p : Path) (r : Row) → StandsAt b p r → is_bridge r.decl ≡ true → (s : State) (rows : List TableRow) (last : ℕ) → last ≡ 255 → IsAt b p s rows last → Enumerates b → ⊥
too_many b lawful p r is bridge_is s rows last full at few =
    let laws = scan_gives_numbers b lawful in
    grind (arith, scan_meets b lawful, from_filter, met_before, bridge_true b p r is bridge_is)

-- ---- from the beginning to the end

pub started : (b : Board) → IsBoard b → (s : State) → s ≡ reset_state b → IsAt b (on [] 0) s [] 0
started b lawful s is = record {
  state = is ∙ ap (λ (fs : List BoardFunction). let s : State = record { functions = fs; latch = 0 } in s) (map_same (λ (r : Row). let f : BoardFunction = record { path = r.path; decl = r.decl; file = reset_file b r.path r.decl } in f) (numbered b (λ q. no_numbers)) b (λ r m. at_reset r r.decl))
      ∙ same_state b (λ q. no_numbers) (scan_numbers b (on [] 0)) (λ q k. sym (laws.first q k));
  rows_met = ap (map (met_row b (scan_numbers b (on [] 0)))) (sym none);
  last_given = laws.next_number (on [] 0) ∙ ap (λ (rs : Board). 1 + count_by (λ r. is_bridge r.decl) rs) none;
  last_fits = omega arith;
}
  where
    laws : GivesNumbersInPathOrder b
    laws = scan_gives_numbers b lawful

    none : met b (on [] 0) ≡ []
    none = (scan_meets b lawful).first

    at_reset : (r : Row) (d : Decl) → (let f : BoardFunction = record { path = r.path; decl = d; file = reset_file b r.path d } in f) ≡ numbered b (λ q. no_numbers) (record r { decl = d })
    at_reset r (endpoint d) = refl
    at_reset r (bridge d) = refl

pub record IsScanned (b : Board) (s : State) (rows : List TableRow) : Type 0 where
  pub state : s ≡ numbered_state b
  pub table : rows ≡ scanned_table b
  pub few : Enumerates b

pub ended : (b : Board) → IsBoard b → (s : State) (rows : List TableRow) (last : ℕ) → IsAt b (on [] devfn_count) s rows last → IsScanned b s rows
ended b lawful s rows last at = record {
  state = at.state ∙ same_state b (scan_numbers b (on [] devfn_count)) (board_numbers b) laws.last;
  table = at.rows_met
      ∙ rows_same b (on [] devfn_count) (scan_numbers b (on [] devfn_count)) (board_numbers b) (λ r m before is. laws.last r.path (bridge_there b r m is))
      ∙ ap (map (met_row b (board_numbers b))) whole
      ∙ map_same (met_row b (board_numbers b)) (table_row b met_decl) b (λ r m. scanned r r.decl);
  few = omega (arith, laws.next_number (on [] devfn_count), ap (λ (rs : Board). count_by (λ x. is_bridge x.decl) rs) whole, at.last_given, at.last_fits);
}
  where
    laws : GivesNumbersInPathOrder b
    laws = scan_gives_numbers b lawful

    whole : met b (on [] devfn_count) ≡ b
    whole = (scan_meets b lawful).last

    scanned : (r : Row) (d : Decl) → met_row b (board_numbers b) (record r { decl = d }) ≡ table_row b met_decl (record r { decl = d })
    scanned r (endpoint d) = refl
    scanned r (bridge d) = refl

-- ---- what the program writes of a bridge

-- the numbers of a bridge of the bus
numbers_on : (b : Board) (bus : Path) (number n k last : ℕ) → OnBus b bus number → k ≡ secondary b (on bus n) → (let m : BusNumbers = record { primary = number; secondary = k; subordinate = last } in m) ≡ record { primary = bus_of b (on bus n); secondary = secondary b (on bus n); subordinate = last }
numbers_on b bus number n k last on_bus is = ap₂ (λ (i j : ℕ). let m : BusNumbers = record { primary = i; secondary = j; subordinate = last } in m) (on_bus.named ∙ ap (bus_behind b) (sym (parent_snoc bus (nth_part n)))) is

-- the row of a bridge that was met
abbrev bridge_row : Path → ℕ → ℕ → ℕ → ProbedHeader → TableRow
bridge_row path number k last seen = record {
  path = path;
  bus = number;
  behind = Some (record { first = k; last = last });
  decl = bridge (plain_bridge seen.vendor seen.device 0 no_io no_pref);
}

bridge_row_is : (b : Board) (bus : Path) (number n : ℕ) (r : Row) (seen : ProbedHeader) → IsFound b bus number n r seen → is_bridge r.decl ≡ true → (path : Path) → path ≡ on bus n → (k last : ℕ) (numbers : Numbers)
    → (numbers r.path).secondary ≡ k → (numbers r.path).subordinate ≡ last → bridge_row path number k last seen ≡ met_row b numbers r
bridge_row_is b bus number n r seen found bridge_is path path_is k last numbers first_is last_is = grind (arith, parent_snoc)

-- what a write of numbers does
abbrev pub WritesNumbers : State → State → BusAddress → BusNumbers → Type 0
WritesNumbers s new at m = (b : Board) (numbers : Path → BusNumbers) (p : Path) → IsBoard b → is_bridge_at b p ≡ true → s ≡ state_of b (numbered_file b numbers)
    → reached s.functions at ≡ find (λ f. path_eq f.path p) s.functions → new ≡ state_of b (numbered_file b (given p m numbers))

pub bridge_opened : (b : Board) (bus : Path) (number n : ℕ) (r : Row) (seen : ProbedHeader) → IsFound b bus number n r seen → is_bridge r.decl ≡ true → (path : Path) → path ≡ on bus n → (s : State) (rows : List TableRow) (last : ℕ)
    → IsAt b (on bus n) s rows last → (last ≡ 255 → ⊥) → (at : BusAddress) → at ≡ record { bus = number; part = nth_part n } → (new : State) → WritesNumbers s new at (record { primary = number; secondary = last + 1; subordinate = 255 })
    → (items : List TableRow) → items ≡ rows ++ bridge_row path number (last + 1) 255 seen ∷ [] → (last + 1 ≡ secondary b (on bus n)) × IsAt b (on (on bus n) 0) new items (last + 1)
bridge_opened b bus number n r seen found bridge_is path path_is s rows last here room at at_is new written items pushed =
    let p = on bus n in
    let lawful = found.on_bus.board in
    let given_is : last + 1 ≡ secondary b (on bus n) = sym here.last_given in
    let state : new ≡ state_of b (numbered_file b (given (on bus n) (open_numbers b (on bus n)) (scan_numbers b (on bus n)))) =
    written b (scan_numbers b p) p lawful (bridge_true b p r found.stands bridge_is) here.state
    (ap (λ (a : BusAddress). reached s.functions a) at_is ∙ reaches b bus number found.on_bus p s rows last here (before_on bus (nth_part n)) n)
    ∙ ap (λ (m : BusNumbers). state_of b (numbered_file b (given (on bus n) m (scan_numbers b (on bus n))))) (numbers_on b bus number n (last + 1) 255 found.on_bus given_is) in
    let own : scan_numbers b (on (on bus n) 0) r.path ≡ open_numbers b r.path =
    (scan_gives_numbers b lawful).behind p r.path ∙ ap (λ t. cond t (open_numbers b r.path) (scan_numbers b (on bus n) r.path)) (ap (λ (x : Path). path_eq x (on bus n)) found.stands.path ∙ path_self p) in
    let shown : bridge_row path number (last + 1) 255 seen ≡ met_row b (scan_numbers b (on (on bus n) 0)) r =
    bridge_row_is b bus number n r seen found bridge_is path path_is (last + 1) 255 (scan_numbers b (on p 0))
    (ap (λ (m : BusNumbers). m.secondary) own ∙ ap (secondary b) found.stands.path ∙ here.last_given) (ap (λ (m : BusNumbers). m.subordinate) own) in (
      given_is,
      subst (λ (xs : List TableRow). IsAt b (on (on bus n) 0) new xs (last + 1)) (sym pushed)
          (opened b lawful p r found.stands bridge_is s rows last (omega (arith, here.last_fits, room)) here new state (bridge_row path number (last + 1) 255 seen) shown),
    )

-- the last number is put into the row and the registers of a bridge
pub rows_length : (b : Board) (here : Path) (s : State) (rows : List TableRow) (last : ℕ) → IsAt b here s rows last → length rows ≡ length (met b here)
rows_length b here s rows last at = ap length at.rows_met ∙ length-map (met b here) (met_row b (scan_numbers b here))

item_there : (b : Board) (p : Path) (r : Row) → IsBoard b → StandsAt b p r → (s : State) (rows : List TableRow) (last : ℕ) → IsAt b (on p devfn_count) s rows last → (i : ℕ) → i ≡ length (met b p) → (d : TableRow) → get_or rows i d ≡ met_row b (scan_numbers b (on p devfn_count)) r
item_there b p r lawful is s rows last at i index d = grind (arith, grown_from b lawful p r is, map-append, length-map, get_or-append_seam)

ended_row : (b : Board) (bus : Path) (n : ℕ) (r : Row) → IsBoard b → StandsAt b (on bus n) r → is_bridge r.decl ≡ true → (last : ℕ) → last ≡ subordinate b (on bus n)
    → record (met_row b (scan_numbers b (on (on bus n) devfn_count)) r) { behind = ended_range last (met_row b (scan_numbers b (on (on bus n) devfn_count)) r).behind } ≡ met_row b (board_numbers b) r
ended_row b bus n r lawful is bridge_is last last_is = grind (arith, leads_self)

pub bridge_closed : (b : Board) (bus : Path) (number n : ℕ) (r : Row) → OnBus b bus number → StandsAt b (on bus n) r → is_bridge r.decl ≡ true → (k : ℕ) → k ≡ secondary b (on bus n) → (s : State) (rows : List TableRow) (last : ℕ)
    → IsAt b (on (on bus n) devfn_count) s rows last → (at : BusAddress) → at ≡ record { bus = number; part = nth_part n } → (new : State) → WritesNumbers s new at (record { primary = number; secondary = k; subordinate = last })
    → (i : ℕ) → i ≡ length (met b (on bus n)) → (item row : TableRow) → item ≡ get_or rows i item → row ≡ record item { behind = ended_range last item.behind }
    → IsAt b (on bus (next_devfn_to_probe b bus n)) new (set rows i row) last
bridge_closed b bus number n r on_bus is bridge_is k k_is s rows last here at at_is new written i index item row item_is row_is =
    let lawful = on_bus.board in
    let there : is_bridge_at b (on bus n) ≡ true = bridge_true b (on bus n) r is bridge_is in
    let numbers = scan_numbers b (on (on bus n) devfn_count) in
    let last_is : last ≡ subordinate b (on bus n) = omega (arith, here.last_given, (scan_gives_numbers b lawful).last_number (on bus n) there) in
    let behind : path_before bus (on (on bus n) devfn_count) ≡ true = goes_before bus (on bus n) (on (on bus n) devfn_count) (before_on bus (nth_part n)) (before_on (on bus n) (nth_part devfn_count)) in
    let state : new ≡ state_of b (numbered_file b (given (on bus n) (board_numbers b (on bus n)) (scan_numbers b (on (on bus n) devfn_count)))) =
    written b numbers (on bus n) lawful there here.state
    (ap (λ (a : BusAddress). reached s.functions a) at_is ∙ reaches b bus number on_bus (on (on bus n) devfn_count) s rows last here behind n)
    ∙ ap (λ (m : BusNumbers). state_of b (numbered_file b (given (on bus n) m (scan_numbers b (on (on bus n) devfn_count)))))
    (numbers_on b bus number n k last on_bus k_is ∙ ap (λ (j : ℕ). let m : BusNumbers = record { primary = bus_of b (on bus n); secondary = secondary b (on bus n); subordinate = j } in m) last_is) in
    let shown : row ≡ met_row b (board_numbers b) r =
    row_is ∙ ap (λ (x : TableRow). let y : TableRow = record x { behind = ended_range last x.behind } in y) (item_is ∙ item_there b (on bus n) r lawful is s rows last here i index item)
    ∙ ended_row b bus n r lawful is bridge_is last last_is in
    closed b lawful bus n r is bridge_is s rows last here new state i index row shown

-- the side of a bridge as a bus
behind_on : (b : Board) (bus : Path) (t : Part) → bus_behind b (bus ++ t ∷ []) ≡ secondary b (bus ++ t ∷ [])
behind_on b [] t = refl
behind_on b (p ∷ bus) t = refl

pub side : (b : Board) (bus : Path) (number n : ℕ) (r : Row) → OnBus b bus number → StandsAt b (on bus n) r → is_bridge r.decl ≡ true → (k : ℕ) → k ≡ secondary b (on bus n) → OnBus b (on bus n) k
side b bus number n r on_bus is bridge_is k k_is = grind (arith, bridge_true, behind_on)
