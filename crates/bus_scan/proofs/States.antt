-- Boards whose bridges hold some bus numbers, all else at reset.
use Rattle.std.{proofs.Common.{◌≡◌, inl, inr, Bool, true, false, cond, ◌&&◌, List, [], ◌∷◌, map, Option, Some, None, refl, sym, ap, ap₂, ◌∙◌, arith}, specs.{Prelude.find, List.list_any, Option.option_map_or}}
use Rattle.model_registers.specs.{Registers.{config, File, write}, ByteEnables.lanes}
use Rattle.lists.{specs.Elements.IsIn, proofs.{Members.{any_in, from_any}, FirstFound.found}}
use Rattle.model_board.{specs.{Paths.{Path, path_eq}, Board.{Decl, endpoint, bridge, Board, Row, is_bridge, is_bridge_at, stands_at, has_multifunction_bit, IsBoard}, State.{BoardFunction, State, with_file, state_of}, Cycles.{BusAddress, reached}, Ports.after_config_write}, proofs.{PathOrder.path_same, PathEnds.path_self}}
use Rattle.model_set_up.{specs.Scanning.{BusNumbers, numbered_file}, proofs.Partings.{one_row, bridge_at}}
use Rattle.bus_scan.{specs.Scans.{given, StandsAt}, proofs.BridgeNumbers.{numbers_word, FitBytes, bridge_written}}

abbrev pub Numbers : Type 0
Numbers = Path → BusNumbers

-- a function with the numbers
abbrev pub numbered : Board → Numbers → Row → BoardFunction
numbered b numbers r = record { path = r.path; decl = r.decl; file = numbered_file b numbers r.path r.decl }

-- ---- only the bridges' numbers count

pub bridge_there : (b : Board) (r : Row) → IsIn r b → is_bridge r.decl ≡ true → is_bridge_at b r.path ≡ true
bridge_there b r m is = any_in (λ (s : Row). is_bridge s.decl && path_eq s.path r.path) r b m (rw is (path_self r.path))

pub map_same : {A B : Type 0} (f g : A → B) (xs : List A) → ((x : A) → IsIn x xs → f x ≡ g x) → map f xs ≡ map g xs
map_same f g [] h = refl
map_same f g (x ∷ xs) h = ap₂ ◌∷◌ (h x (inl refl)) (map_same f g xs (λ y m. h y (inr m)))

pub same_state : (b : Board) (n m : Numbers) → ((q : Path) → is_bridge_at b q ≡ true → n q ≡ m q) → state_of b (numbered_file b n) ≡ state_of b (numbered_file b m)
same_state b n m h = grind (arith, map_same, bridge_there)

-- ---- the function at a path

find_map : {A B : Type 0} (t : B → Bool) (f : A → B) (xs : List A) → (y : A) → find (λ x. t (f x)) xs ≡ Some y → find t (map f xs) ≡ Some (f y)
find_map t f [] y h = cc
find_map {A} {B} t f (x ∷ xs) y h = grind (arith, find_map t f xs y)

find_none : {A B : Type 0} (t : B → Bool) (f : A → B) (xs : List A) → list_any (λ x. t (f x)) xs ≡ false → find t (map f xs) ≡ None
find_none t f [] h = refl
find_none {A} {B} t f (x ∷ xs) h = grind (arith, find_none t f xs)

pub none_stands : (b : Board) (numbers : Numbers) (p : Path) → stands_at b p ≡ false → find (λ f. path_eq f.path p) (state_of b (numbered_file b numbers)).functions ≡ None
none_stands b numbers p h = find_none (λ f. path_eq f.path p) (numbered b numbers) b h

pub one_stands : (b : Board) → IsBoard b → (numbers : Numbers) (p : Path) (r : Row) → StandsAt b p r → find (λ f. path_eq f.path p) (state_of b (numbered_file b numbers)).functions ≡ Some (numbered b numbers r)
one_stands b lawful numbers p r is = of_first (found (λ (s : Row). path_eq s.path p) b (any_in (λ (s : Row). path_eq s.path p) r b is.member (ap (λ (x : Path). path_eq x p) is.path ∙ path_self p)))
  where
    of_first : (s : Row) × (find (λ (s : Row). path_eq s.path p) b ≡ Some s) × IsIn s b × (path_eq s.path p ≡ true) → find (λ f. path_eq f.path p) (state_of b (numbered_file b numbers)).functions ≡ Some (numbered b numbers r)
    of_first (s, e, m, k) =
        find_map (λ f. path_eq f.path p) (numbered b numbers) b s e
        ∙ ap (λ (t : Row). Some (numbered b numbers t)) (one_row b lawful s r m is.member (path_same s.path p k ∙ sym is.path))

pub stands : (b : Board) (p : Path) → stands_at b p ≡ true → (r : Row) × StandsAt b p r
stands b p h = let f = from_any (λ (s : Row). path_eq s.path p) b h in (f.0, record { member = f.1; path = path_same f.0.path p f.2 })

-- ---- numbers are written

module _ (b : Board) (lawful : IsBoard b) (numbers : Numbers) (p : Path) (there : is_bridge_at b p ≡ true) (n : BusNumbers) (fits : FitBytes n) where
  abbrev put : BoardFunction → BoardFunction
  put f = record f { file = write (lanes 15) (numbers_word n) (config 0x18) f.file }

  here_changes : (r : Row) → IsIn r b → path_eq r.path p ≡ true → put (numbered b numbers r) ≡ numbered b (given p n numbers) r
  here_changes r m e = by_decl r.decl refl
    where
      by_decl : (d : Decl) → r.decl ≡ d → put (numbered b numbers (record r { decl = d })) ≡ numbered b (given p n numbers) (record r { decl = d })
      by_decl (endpoint d) k = grind (arith, bridge_at, one_row, path_same)
      by_decl (bridge d) k = rw e (ap (λ (file : File). let f : BoardFunction = record { path = r.path; decl = bridge d; file = file } in f) (bridge_written d (has_multifunction_bit b r.path) (numbers r.path) n fits))

  each_written : (r : Row) → IsIn r b → cond (path_eq r.path p) (put (numbered b numbers r)) (numbered b numbers r) ≡ numbered b (given p n numbers) r
  each_written r m = grind (arith, here_changes r m)

  rows_written : (rs : Board) → ((r : Row) → IsIn r rs → IsIn r b) → with_file (write (lanes 15) (numbers_word n) (config 0x18)) p (map (numbered b numbers) rs) ≡ map (numbered b (given p n numbers)) rs
  rows_written [] h = refl
  rows_written (r ∷ rs) h = ap₂ ◌∷◌ (each_written r (h r (inl refl))) (rows_written rs (λ s k. h s (inr k)))

  -- the state after the write to what a cycle reaches
  pub numbers_written : (s : State) → s ≡ state_of b (numbered_file b numbers) → (at : BusAddress) → reached s.functions at ≡ find (λ f. path_eq f.path p) s.functions
      → (new : State) → new ≡ record { functions = after_config_write s.functions at 0x18 (lanes 15) (numbers_word n); latch = 0 } → new ≡ state_of b (numbered_file b (given p n numbers))
  numbers_written s is at reaches new written =
      let fs = (state_of b (numbered_file b numbers)).functions in
      let r = bridge_at b lawful p there in
      let here : StandsAt b p r.0 = record { member = r.1; path = r.3 } in
      let reaches_row : reached s.functions at ≡ Some (numbered b numbers r.0) = reaches ∙ ap (λ (s : State). find (λ f. path_eq f.path p) s.functions) is ∙ one_stands b lawful numbers p r.0 here in
      written
      ∙ ap (λ (fs : List BoardFunction). let s : State = record { functions = fs; latch = 0 } in s)
      (ap (λ (o : Option BoardFunction). option_map_or (λ (f : BoardFunction). with_file (write (lanes 15) (numbers_word n) (config 0x18)) f.path s.functions) o s.functions) reaches_row
      ∙ ap₂ (λ (q : Path) (fs : List BoardFunction). with_file (write (lanes 15) (numbers_word n) (config 0x18)) q fs) r.3 (ap (λ (s : State). s.functions) is)
      ∙ rows_written b (λ r k. k))
