-- Settings in path order set the functions of a board up, one after the other.
use Rattle.std.{proofs.{Common.{◌≡◌, false, List, [], ◌∷◌, ◌++◌, refl, arith}, lemmas.List.map-append}, specs.Prelude.{map, IsTrue}}
use Rattle.lists.{specs.Elements.Each, proofs.EachLemmas.each_append}
use Rattle.host_bridge.proofs.Lent.{with_file-none}
use Rattle.model_registers.specs.Registers.{File}
use Rattle.model_board.{specs.{Paths.{Path, path_eq}, Board.{Board, Decl, is_bridge, stands_at, IsBoard}, BusNumbers.{secondary, subordinate}, State.{BoardFunction, with_file, row_at}, Cycles.{secondary_register, subordinate_register}}, proofs.PathEnds.path_self}
use Rattle.model_set_up.{specs.Reach.{HasNumbers, address_of}, proofs.Routes.bdf_reaches_its_function_only}
use Rattle.window_packing.{specs.WordWrites.{WordWrite, after_word, after_words}, proofs.FileWrites.{written_file, file_after}}

-- ---- a word at the number of a function changes that function alone

word_at : (b : Board) → IsBoard b → (fs : List BoardFunction) → HasNumbers b fs → (p : Path) → IsTrue (stands_at b p) → (w : WordWrite) → after_word (address_of b p) w fs ≡ with_file (written_file w) p fs
unfolding after_word
word_at b board fs has p there w = grind (arith, bdf_reaches_its_function_only)

-- no function stands at the path
abbrev pub NoneAt : Path → List BoardFunction → Type 0
NoneAt p fs = Each (λ g. path_eq g.path p ≡ false) fs

-- a bridge's registers hold its bus numbers
abbrev pub HoldsNumbers : Board → BoardFunction → Type 0
HoldsNumbers b f = IsTrue (is_bridge f.decl) → (secondary_register f.file ≡ secondary b f.path) × (subordinate_register f.file ≡ subordinate b f.path)

-- a word leaves the bus numbers of a bridge
abbrev pub KeepsNumbers : Decl → WordWrite → Type 0
KeepsNumbers d w = IsTrue (is_bridge d) → (file : File) → (secondary_register (written_file w file) ≡ secondary_register file) × (subordinate_register (written_file w file) ≡ subordinate_register file)

module _ (b : Board) (board : IsBoard b) (front back : List BoardFunction) (p : Path) (d : Decl) (there : IsTrue (stands_at b p))
    (rows : map row_at (front ++ record { path = p; decl = d; file = [] } ∷ back) ≡ b)
    (apart_front : NoneAt p front) (apart_back : NoneAt p back)
    (front_holds : Each (HoldsNumbers b) front) (back_holds : Each (HoldsNumbers b) back) where
  abbrev with_own : File → List BoardFunction
  with_own file = front ++ record { path = p; decl = d; file = file } ∷ back

  numbers : (file : File) → HoldsNumbers b (record { path = p; decl = d; file = file }) → HasNumbers b (with_own file)
  numbers file h = grind (arith, map-append, each_append)

  changed_own : (g : File → File) (file : File) → with_file g p (with_own file) ≡ with_own (g file)
  changed_own g file = grind (arith, path_self, map-append, with_file-none)

  pub words_at : (ws : List WordWrite) → Each (KeepsNumbers d) ws → (file : File) → HoldsNumbers b (record { path = p; decl = d; file = file }) → after_words (address_of b p) ws (with_own file) ≡ with_own (file_after ws file)
  words_at [] keep file h = refl
  words_at (w ∷ ws) keep file h = grind (arith, word_at, numbers, changed_own, written_file, words_at ws keep.1)
