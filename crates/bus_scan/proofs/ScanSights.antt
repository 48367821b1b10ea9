-- What a scan sees at a part, and where it goes on.
use Rattle.std.{proofs.Common.{◌≡◌, ℕ, ◌+◌, ◌%◌, Bool, true, false, not, cond, ◌&&◌, List, [], ◌∷◌, ◌++◌, Option, Some, None, refl, sym, ap, ◌∙◌, eqb, arith}, specs.Prelude.find}
use Rattle.model_board.{specs.{Paths.{Path, path_eq}, Board.{Decl, endpoint, bridge, Board, Row, is_bridge, stands_at, is_multifunction, has_multifunction_bit}, BusNumbers.{bus_behind, bus_of}, State.{BoardFunction, State}, Cycles.{BusAddress, reached}, Lawful.IsLawfulDecl}, proofs.PathEnds.parent_snoc}
use Rattle.model_set_up.specs.{FunctionTable.TableRow, Scanning.{BusNumbers, scan_numbers, scan_state, numbered_file}, ScanOrder.{nth_part, on, next_devfn_to_probe}}
use Rattle.lists.proofs.Members.{each_in}
use Rattle.bus_scan.{specs.{declared.{probed_header.{ProbedHeader.ProbedHeader, Layout.TheVariants.{Endpoint as EndpointLayout, Bridge as BridgeLayout}}, table.Enumerated.TheVariants.Endpoint as FoundEndpoint}, Rows.decl_of, Sights.seen_of, Scans.{met_row, IsAt, OnBus, IsFound, IsBridgeThere}}, proofs.{States.{numbered, none_stands, one_stands, stands}, ScanSteps.{before_on, reaches, next_is, next_by_bit, stands_true, past_endpoint}}}

-- what is seen at a part
pub data Sight (b : Board) (bus : Path) (number n : ℕ) (o : Option ProbedHeader) : Type 0 where
  Nothing : stands_at b (on bus n) ≡ false → o ≡ None → Sight b bus number n o
  Function : (r : Row) (seen : ProbedHeader) → o ≡ Some seen → IsFound b bus number n r seen → Sight b bus number n o

pub sighted : {b : Board} {bus : Path} {number : ℕ} → OnBus b bus number → (n : ℕ) {s : State} {rows : List TableRow} {last : ℕ} → IsAt b (on bus n) s rows last → {a : BusAddress} → a ≡ record { bus = number; part = nth_part n }
    → {o : Option ProbedHeader} → (reached s.functions a ≡ None → o ≡ None)
    → ((c : Board) (numbers : Path → BusNumbers) (f : BoardFunction) → reached s.functions a ≡ Some f → f.file ≡ numbered_file c numbers f.path f.decl → IsLawfulDecl f.decl → o ≡ Some (seen_of (has_multifunction_bit c f.path) f.decl))
    → Sight b bus number n o
sighted {b} {bus} {number} on_bus n {s} {rows} {last} at {a} is {o} none some = by_stands (stands_at b (on bus n)) refl
  where
    found_here : reached s.functions a ≡ find (λ f. path_eq f.path (on bus n)) (scan_state b (on bus n)).functions
    found_here =
        ap (λ (a : BusAddress). reached s.functions a) is ∙ reaches b bus number on_bus (on bus n) s rows last at (before_on bus (nth_part n)) n
        ∙ ap (λ (s : State). find (λ f. path_eq f.path (on bus n)) s.functions) at.state

    by_stands : (t : Bool) → stands_at b (on bus n) ≡ t → Sight b bus number n o
    by_stands false e = Nothing e (none (found_here ∙ none_stands b (scan_numbers b (on bus n)) (on bus n) e))
    by_stands true e =
        let r = stands b (on bus n) e in
        let numbers = scan_numbers b (on bus n) in
        let shown = some b numbers (numbered b numbers r.0) (found_here ∙ one_stands b on_bus.board numbers (on bus n) r.0 r.1) refl (each_in (λ (r : Row). IsLawfulDecl r.decl) r.0 b on_bus.declarations r.1.member) in
        Function r.0 (seen_of (has_multifunction_bit b r.0.path) r.0.decl) shown (record {
          on_bus = on_bus;
          stands = r.1;
          shows = ap (λ (p : Path). seen_of (has_multifunction_bit b p) r.0.decl) r.1.path;
        })

-- ---- what the program sees

-- a look changes nothing but the latch, which is 0
pub after_look : {b : Board} {here : Path} {s : State} {rows : List TableRow} {last : ℕ} → IsAt b here s rows last → {new : State} → new ≡ record s { latch = 0 } → IsAt b here new rows last
after_look at is = grind arith

pub none_seen : {b : Board} {bus : Path} {number n : ℕ} {o : Option ProbedHeader} → Sight b bus number n o → o ≡ None → stands_at b (on bus n) ≡ false
none_seen none h = grind arith

pub record Finds (b : Board) (bus : Path) (number n : ℕ) (seen : ProbedHeader) : Type 0 where
  pub row : Row
  pub found : IsFound b bus number n row seen
  pub next : (m : ℕ) → m ≡ cond (eqb (n % 8) 0 && not seen.is_multifunction) (n + 8) (n + 1) → m ≡ next_devfn_to_probe b bus n

pub finds : {b : Board} {bus : Path} {number n : ℕ} {o : Option ProbedHeader} → Sight b bus number n o → {seen : ProbedHeader} → o ≡ Some seen → Finds b bus number n seen
finds (Nothing none e) h = cc
finds (Function r known e found) h = grind (arith, next_is, stands_true, next_by_bit)

bridge_seen : {b : Board} {bus : Path} {number n : ℕ} {r : Row} {seen : ProbedHeader} → IsFound b bus number n r seen → seen.layout ≡ BridgeLayout → is_bridge r.decl ≡ true
bridge_seen found h = grind arith

-- the row of an endpoint that was met
abbrev pub endpoint_row : Path → ℕ → ℕ → ProbedHeader → TableRow
endpoint_row path number pin seen = record {
  path = path;
  bus = number;
  behind = None;
  decl = decl_of seen.vendor seen.device (FoundEndpoint pin (None ∷ None ∷ None ∷ None ∷ None ∷ None ∷ []));
}

pub past_function : {b : Board} {bus : Path} {number n pin : ℕ} {r : Row} {seen : ProbedHeader} → IsFound b bus number n r seen → seen.layout ≡ EndpointLayout pin → {path : Path} → path ≡ on bus n → {s : State} {rows : List TableRow} {last : ℕ}
    → IsAt b (on bus n) s rows last → IsAt b (on bus (next_devfn_to_probe b bus n)) s (rows ++ endpoint_row path number pin seen ∷ []) last
past_function {b} {bus} {number} {n} {pin} {r} {seen} found h {path} path_is {s} {rows} {last} at = by_decl r.decl refl
  where
    by_decl : (d : Decl) → r.decl ≡ d → IsAt b (on bus (next_devfn_to_probe b bus n)) s (rows ++ endpoint_row path number pin seen ∷ []) last
    by_decl (bridge d) e = let bad : BridgeLayout ≡ EndpointLayout pin = ap (λ (x : ProbedHeader). x.layout) (sym (found.shows ∙ ap (seen_of (has_multifunction_bit b (on bus n))) e)) ∙ h in cc
    by_decl (endpoint d) e =
        let shows : seen ≡ seen_of (has_multifunction_bit b (on bus n)) (endpoint d) = found.shows ∙ ap (seen_of (has_multifunction_bit b (on bus n))) e in
        let layout : EndpointLayout d.pin ≡ EndpointLayout pin = ap (λ (x : ProbedHeader). x.layout) (sym shows) ∙ h in
        let same_pin : pin ≡ d.pin = cc in
        let row : endpoint_row path number pin seen ≡ met_row b (scan_numbers b (on bus n)) (record r { decl = endpoint d }) = λ i. record {
          path = (path_is ∙ sym found.stands.path) i;
          bus = (found.on_bus.named ∙ ap (bus_behind b) (sym (parent_snoc bus (nth_part n))) ∙ ap (bus_of b) (sym found.stands.path)) i;
          behind = None;
          decl = decl_of (shows i).vendor (shows i).device (FoundEndpoint (same_pin i) (None ∷ None ∷ None ∷ None ∷ None ∷ None ∷ []));
        } in
        past_endpoint b found.on_bus.board bus n (next_devfn_to_probe b bus n) r found.stands (ap is_bridge e) s rows last
        (ap (λ t. cond (eqb (n % 8) 0 && not (t && is_multifunction b (on bus n))) (n + 8) (n + 1)) (stands_true b (on bus n) r found.stands))
        at (endpoint_row path number pin seen) (row ∙ ap (λ (d : Decl). met_row b (scan_numbers b (on bus n)) (record r { decl = d })) (sym e))

-- a bridge that was found, as the steps take it
pub bridge_found : {b : Board} {bus : Path} {number n : ℕ} {r : Row} {at : BusAddress} → IsBridgeThere b bus number n r at → {path : Path} → path ≡ on bus n → {seen : ProbedHeader} → seen ≡ seen_of (has_multifunction_bit b path) r.decl → IsFound b bus number n r seen
bridge_found {b} {r = r} is path_is shows = record { on_bus = is.on_bus; stands = is.stands; shows = shows ∙ ap (λ (p : Path). seen_of (has_multifunction_bit b p) r.decl) path_is }

pub bridge_there_of : {b : Board} {bus : Path} {number n : ℕ} {r : Row} {seen : ProbedHeader} → IsFound b bus number n r seen → seen.layout ≡ BridgeLayout → {at : BusAddress} → at ≡ record { bus = number; part = nth_part n } → IsBridgeThere b bus number n r at
bridge_there_of found layout at_is = record { on_bus = found.on_bus; stands = found.stands; is_bridge_there = bridge_seen found layout; address = at_is }

pub shows_at : {b : Board} {bus : Path} {number n : ℕ} {r : Row} {seen : ProbedHeader} → IsFound b bus number n r seen → {path : Path} → path ≡ on bus n → seen ≡ seen_of (has_multifunction_bit b path) r.decl
shows_at {b} {r = r} found path_is = found.shows ∙ sym (ap (λ (p : Path). seen_of (has_multifunction_bit b p) r.decl) path_is)
