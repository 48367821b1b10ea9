-- A register of one function of a numbered board, by configuration cycles: all ones, and what was there before.
--     IsAll p file fs      whatever stands at the path holds these cells
use Rattle.std.{proofs.{Common.{◌≡◌, ℕ, ◌+◌, ◌/◌, ◌≤◌, Bool, true, false, cond, List, [], ◌∷◌, map, Some, refl, ap, ap₂, ◌∙◌, subst, arith, suc, length}, lemmas.Bool.ne_eqb}, specs.{Prelude.IsTrue, Option.option_map_or}}
use Rattle.model_registers.{proofs.{DeviceBytes.change_beside, Parts.IsOutside}, specs.Registers.{config, File, cell_at, write}}
use Rattle.lists.{specs.Elements.{Each, IsIn}, proofs.Members.{each_in, each_from, in_map, any_in}}
use Rattle.model_board.{specs.{Paths.{Path, path_eq}, Board.{Board, Row, is_bridge, stands_at}, BusNumbers.{secondary, subordinate}, State.{BoardFunction, State, with_file, row_at}, Cycles.{BusAddress, reached, secondary_register, subordinate_register}, AtReset.board_at}, proofs.PathEnds.path_self}
use Rattle.model_set_up.{specs.{Reach.address_of, Scanning.IsNumbered}, proofs.Routes.{bdf_reaches_its_function_only, only_named}}
use Rattle.bus_scan.{specs.Probes.{with_ones, mask_shown, TakesBack}, proofs.{ProbedFiles.{ones, Probed}, NumberedStates.{has_numbers, no_latch, each_reached, in_itself, only_there}}}

-- ---- a write leaves what stands elsewhere

further : (n a q : ℕ) → IsOutside q a (suc n) → IsOutside q (a + 1) n
further n a q l = grind arith

apart : (n a q : ℕ) → IsOutside q a (suc n) → a ≡ q → ⊥
apart n a q l same = grind arith

pub write_elsewhere : (ons : List Bool) (x a q : ℕ) (file : File) → IsOutside q a (length ons) → cell_at (write ons x (config a) file) (config q) ≡ cell_at file (config q)
write_elsewhere [] x a q file h = refl
write_elsewhere (true ∷ ons) x a q file h = grind (arith, write_elsewhere ons (x / 256) (a + 1) q, further, change_beside, ne_eqb, apart)
write_elsewhere (false ∷ ons) x a q file h = write_elsewhere ons (x / 256) (a + 1) q file (further (length ons) a q h)

numbers_below : (ons : List Bool) (x a : ℕ) (file : File) → 0x1b ≤ a
    → (secondary_register (write ons x (config a) file) ≡ secondary_register file) × (subordinate_register (write ons x (config a) file) ≡ subordinate_register file)
numbers_below ons x a file h = grind (arith, write_elsewhere)

-- ---- one function with other cells

abbrev pub IsAll : Path → File → List BoardFunction → Type 0
IsAll p file fs = Each (λ g. path_eq g.path p ≡ true → g.file ≡ file) fs

abbrev changed_one : (File → File) → Bool → BoardFunction → BoardFunction
changed_one g t f = cond t (record f { file = g f.file }) f

same_row : (g : File → File) (t : Bool) (f : BoardFunction) → row_at (changed_one g t f) ≡ row_at f
same_row g t f = grind arith

all_changed : (g : File → File) (p : Path) (file : File) (fs : List BoardFunction) → IsAll p file fs → IsAll p (g file) (with_file g p fs)
all_changed g p file [] h = tt
all_changed g p file (f ∷ fs) h = grind (arith, all_changed g p file fs h.1)

rows_changed : (g : File → File) (p : Path) (fs : List BoardFunction) → map row_at (with_file g p fs) ≡ map row_at fs
rows_changed g p [] = refl
rows_changed g p (f ∷ fs) = ap₂ (λ (r : Row) rs. r ∷ rs) (same_row g (path_eq f.path p) f) (rows_changed g p fs)

changed_back : (g k : File → File) (p : Path) (file : File) (fs : List BoardFunction) → IsAll p file fs → k (g file) ≡ file → with_file k p (with_file g p fs) ≡ fs
changed_back g k p file [] h back = refl
changed_back g k p file (f ∷ fs) h back = grind (arith, changed_back g k p file fs h.1 back)

abbrev HoldsNumbers : Board → BoardFunction → Type 0
HoldsNumbers b f = IsTrue (is_bridge f.decl) → (secondary_register f.file ≡ secondary b f.path) × (subordinate_register f.file ≡ subordinate b f.path)

abbrev KeepsNumbers : (File → File) → BoardFunction → Type 0
KeepsNumbers g f = IsTrue (is_bridge f.decl) → (secondary_register (g f.file) ≡ secondary_register f.file) × (subordinate_register (g f.file) ≡ subordinate_register f.file)

numbers_changed : (b : Board) (g : File → File) (p : Path) (fs : List BoardFunction) → Each (λ f. path_eq f.path p ≡ true → KeepsNumbers g f) fs → Each (HoldsNumbers b) fs → Each (HoldsNumbers b) (with_file g p fs)
numbers_changed b g p [] keeps h = tt
numbers_changed b g p (f ∷ fs) keeps h = (here (path_eq f.path p) refl, numbers_changed b g p fs keeps.1 h.1)
  where
    here : (t : Bool) → path_eq f.path p ≡ t → HoldsNumbers b (changed_one g t f)
    here true e k = let kept = keeps.0 e k in let had = h.0 k in (kept.0 ∙ had.0, kept.1 ∙ had.1)
    here false e k = h.0 k

-- ---- a register of the function that a number reaches

module _ (s : State) (h : IsNumbered s) (to : BusAddress) (f : BoardFunction) (found : reached s.functions to ≡ Some f) where
  inside : IsIn f s.functions
  inside = each_reached (λ g. IsIn g s.functions) s.functions to f (in_itself s.functions) found

  only : Each (λ g. path_eq g.path f.path ≡ true → g ≡ f) s.functions
  only = only_there s.functions h.board f inside

  all : IsAll f.path f.file s.functions
  all = each_from (λ g. path_eq g.path f.path ≡ true → g.file ≡ f.file) s.functions (λ g m k. ap (λ (g : BoardFunction). g.file) (each_in (λ g. path_eq g.path f.path ≡ true → g ≡ f) g s.functions only m k))

  named : to ≡ address_of (board_at s.functions) f.path
  named = only_named (board_at s.functions) h.board s.functions (has_numbers s h) to f found

  stands : stands_at (board_at s.functions) f.path ≡ true
  stands = any_in (λ (r : Row). path_eq r.path f.path) (row_at f) (board_at s.functions) (in_map row_at f s.functions inside) (path_self f.path)

  module _ (ons : List Bool) (off : ℕ) (high : IsTrue (is_bridge f.decl) → 0x1b ≤ off) where
    abbrev ones_written : File → File
    ones_written file = write ons ones (config off) file

    abbrev after : List BoardFunction
    after = with_file ones_written f.path s.functions

    keeps : Each (λ g. path_eq g.path f.path ≡ true → KeepsNumbers ones_written g) s.functions
    keeps = each_from (λ g. path_eq g.path f.path ≡ true → KeepsNumbers ones_written g) s.functions
        (λ g m e k. numbers_below ons ones off g.file (high (subst (λ (g : BoardFunction). IsTrue (is_bridge g.decl)) (each_in (λ g. path_eq g.path f.path ≡ true → g ≡ f) g s.functions only m e) k)))

    there : (g : BoardFunction) × (reached after (address_of (board_at s.functions) f.path) ≡ Some g) × (g.path ≡ f.path)
    there = grind (arith, bdf_reaches_its_function_only, stands, rows_changed, numbers_changed, keeps, has_numbers)

    reached_after : reached after to ≡ Some there.0
    reached_after = ap (reached after) named ∙ there.1

    ones_there : with_ones s.functions to off ons ≡ after
    ones_there = ap (λ r. option_map_or (λ (f : BoardFunction). with_file (write ons ones (config off)) f.path s.functions) r s.functions) found

    pub shows : (mask : ℕ) → Probed ons (config off) f.file mask → mask_shown s.functions to off ons ≡ mask
    shows mask p = grind (arith, ones_there, reached_after, each_reached, all_changed, all, path_self)

    pub takes_back : (mask : ℕ) → Probed ons (config off) f.file mask → TakesBack s to off ons
    takes_back mask p = grind (arith, no_latch, ones_there, reached_after, changed_back, all)
