-- Tables of cells by offset, and the files that they show.
use Rattle.std.proofs.{lemmas.{Grind.common_steps, Bool.{eqb-true, eqb-false, eq-eqb, ne_eqb}, List.{length-set, get_or-set_same, get_or-set_other, get_or_past, get_or_default, take_at}}, Common.{◌≡◌, ◌≢◌, ℕ, suc, ◌<◌, ◌≤◌, Bool, true, false, cond, eqb, List, [], ◌∷◌, length, take, drop, replicate, get_or, ◌++◌, refl, sym, ap, ap₂, ◌∙◌, subst, arith, rules}, Math.ListN.set}
use Rattle.lists.specs.Elements.{Each}
use Rattle.model_registers.{specs.{Cell.{Cell, no_cell}, Registers.{Place, config, File, cell_at, changed}, FileLaws.IsConfigFile}, proofs.RegisterFiles.change_at_place}
use Rattle.config_bytes.specs.{OffsetLaws.FileOfConfig, CellFile.{CellFile, HasDistinctOffsets, KeepsPlaces, places_of, file_of, file_from, table_at, placed, IsTable}}

-- ---- one cell changes

-- a table that differs from another by f at one offset
abbrev pub ChangesAt : (Cell → Cell) → ℕ → List Cell → List Cell → Type 0
ChangesAt f off table new = (q : ℕ) → table_at new q ≡ cond (eqb off q) (f (table_at table q)) (table_at table q)

turned : (a b : ℕ) → eqb a b ≡ eqb b a
turned a b = grind (arith, eq-eqb, eqb-true, ne_eqb, eqb-false)

pub set_changes : (f : Cell → Cell) (off : ℕ) (table : List Cell) (c : Cell) → off < length table → c ≡ f (table_at table off) → ChangesAt f off table (set table off c)
set_changes f off table c within is q = grind (arith, eqb-true, get_or-set_same, get_or-set_other, eqb-false)

pub nothing_changes : (f : Cell → Cell) (off : ℕ) (table : List Cell) → f no_cell ≡ no_cell → length table ≤ off → ChangesAt f off table table
nothing_changes f off table none past q = grind (arith, eqb-true, get_or_past)

pub file_from-changed : (f : Cell → Cell) (off : ℕ) (table new : List Cell) → ChangesAt f off table new → (cs : List (ℕ × Cell)) → file_from new cs ≡ changed f (config off) (file_from table cs)
file_from-changed f off table new h [] = refl
file_from-changed f off table new h (c ∷ cs) = grind (arith, turned, file_from-changed f off table new h cs)

pub IsTable-changed : (f : Cell → Cell) (off : ℕ) (table new : List Cell) (cs : List (ℕ × Cell)) → f no_cell ≡ no_cell → length new ≡ length table → ChangesAt f off table new → IsTable table cs → IsTable new cs
IsTable-changed f off table new cs none same h t = record {
  distinct = t.distinct;
  room = subst (λ n. Each (λ (c : ℕ × Cell). c.0 < n) cs) (sym same) t.room;
  shows = λ q.
      h q ∙ ap (λ (x : Cell). cond (eqb off q) (f x) x) (t.shows q)
      ∙ sym (change_at_place f none (file_from table cs) (config off) (config q))
      ∙ sym (ap (λ (file : File). cell_at file (config q)) (file_from-changed f off table new h cs));
}

pub IsConfigFile-from : (table : List Cell) (cs : List (ℕ × Cell)) → IsConfigFile (file_from table cs)
IsConfigFile-from table [] = tt
IsConfigFile-from table (c ∷ cs) = (tt, IsConfigFile-from table cs)

pub IsConfigFile-of : FileOfConfig
IsConfigFile-of [] = tt
IsConfigFile-of (c ∷ cs) = (tt, IsConfigFile-of cs)

pub IsConfigFile-view : (table : List Cell) (cs : List (ℕ × Cell)) (value : CellFile) → let shown : CellFile = record { now = file_from table cs; initial = file_of cs } in shown ≡ value → IsConfigFile value.now
IsConfigFile-view table cs value is = let P : CellFile → Type 0 = λ v. IsConfigFile v.now in subst P is (IsConfigFile-from table cs)

pub KeepsPlaces-from : (table : List Cell) (cs : List (ℕ × Cell)) → places_of (file_from table cs) ≡ places_of (file_of cs)
KeepsPlaces-from table [] = refl
KeepsPlaces-from table (c ∷ cs) = ap (λ (ps : List Place). config c.0 ∷ ps) (KeepsPlaces-from table cs)

pub KeepsPlaces-view : (table : List Cell) (cs : List (ℕ × Cell)) (value : CellFile) → let shown : CellFile = record { now = file_from table cs; initial = file_of cs } in shown ≡ value → KeepsPlaces value
KeepsPlaces-view table cs value is = subst KeepsPlaces is (KeepsPlaces-from table cs)

-- ---- a whole list is put into a table

-- the cell of a list at an offset, or another one
abbrev cell_or : List (ℕ × Cell) → ℕ → Cell → Cell
cell_or [] q d = d
cell_or (c ∷ cs) q d = cond (eqb c.0 q) c.1 (cell_or cs q d)

cell_or-absent : (cs : List (ℕ × Cell)) (q : ℕ) (d : Cell) → Each (λ c. q ≢ c.0) cs → cell_or cs q d ≡ d
cell_or-absent [] q d h = refl
cell_or-absent (c ∷ cs) q d h = let other : eqb c.0 q ≡ false = ne_eqb c.0 q (λ e. h.0 (sym e)) in rw other (cell_or-absent cs q d h.1)

pub length-placed : (cs : List (ℕ × Cell)) (table : List Cell) → length (placed cs table) ≡ length table
length-placed [] table = refl
length-placed (c ∷ cs) table = length-placed cs (set table c.0 c.1) ∙ length-set table c.0 c.1

room_after : (cs : List (ℕ × Cell)) (table : List Cell) (p : ℕ) (x : Cell) → Each (λ c. c.0 < length table) cs → Each (λ c. c.0 < length (set table p x)) cs
room_after cs table p x room = subst (λ n. Each (λ (c : ℕ × Cell). c.0 < n) cs) (sym (length-set table p x)) room

placed_at : (cs : List (ℕ × Cell)) (table : List Cell) (q : ℕ) → HasDistinctOffsets cs → Each (λ c. c.0 < length table) cs → table_at (placed cs table) q ≡ cell_or cs q (table_at table q)
placed_at [] table q d room = refl
placed_at (c ∷ cs) table q d room = placed_at cs next q d.1 (room_after cs table c.0 c.1 room.1) ∙ here (eqb c.0 q) refl where
  next : List Cell
  next = set table c.0 c.1

  here : (t : Bool) → eqb c.0 q ≡ t → cell_or cs q (table_at next q) ≡ cond t c.1 (cell_or cs q (table_at table q))
  here true h =
      let same : c.0 ≡ q = eqb-true c.0 q h in
      let P : ℕ → Type 0 = λ n. cell_or cs n (table_at next n) ≡ c.1 in
      subst P same (cell_or-absent cs c.0 (table_at next c.0) d.0 ∙ get_or-set_same table c.0 c.1 no_cell room.0)
  here false h = ap (cell_or cs q) (get_or-set_other table c.0 q c.1 no_cell (λ e. eqb-false c.0 q h (sym e)))

pub file_from-placed : (cs : List (ℕ × Cell)) (table : List Cell) → HasDistinctOffsets cs → Each (λ c. c.0 < length table) cs → file_from (placed cs table) cs ≡ file_of cs
file_from-placed [] table d room = refl
file_from-placed (c ∷ cs) table d room =
    let next : List Cell = set table c.0 c.1 in
    let below : Each (λ (e : ℕ × Cell). e.0 < length next) cs = room_after cs table c.0 c.1 room.1 in
    let here : table_at (placed cs next) c.0 ≡ c.1 = grind (arith, placed_at, cell_or-absent, get_or-set_same) in
    ap₂ (λ (x : Cell) (es : File). record { place = config c.0; cell = x } ∷ es) here (file_from-placed cs next d.1 below)

-- a table that shows no cell outside the list
abbrev pub HasGaps : List Cell → List (ℕ × Cell) → Type 0
HasGaps table cs = (q : ℕ) → cell_or cs q (table_at table q) ≡ cell_at (file_of cs) (config q)

cell_or-none : (cs : List (ℕ × Cell)) (q : ℕ) → cell_or cs q no_cell ≡ cell_at (file_of cs) (config q)
cell_or-none [] q = refl
cell_or-none (c ∷ cs) q = ap (cond (eqb c.0 q) c.1) (cell_or-none cs q)

pub HasGaps-empty : (n : ℕ) (cs : List (ℕ × Cell)) → HasGaps (replicate n no_cell) cs
HasGaps-empty n cs q = grind (arith, common_steps, cell_or-none)

cell_or-shown : (table : List Cell) (cs : List (ℕ × Cell)) (q : ℕ) → cell_or cs q (cell_at (file_from table cs) (config q)) ≡ cell_at (file_of cs) (config q)
cell_or-shown table [] q = refl
cell_or-shown table (c ∷ cs) q = grind (arith, cell_or-shown table cs q)

pub HasGaps-table : (table : List Cell) (cs : List (ℕ × Cell)) → IsTable table cs → HasGaps table cs
HasGaps-table table cs t q = ap (cell_or cs q) (t.shows q) ∙ cell_or-shown table cs q

pub IsTable-placed : (cs : List (ℕ × Cell)) (table : List Cell) → HasDistinctOffsets cs → Each (λ c. c.0 < length table) cs → HasGaps table cs → IsTable (placed cs table) cs
IsTable-placed cs table d room gaps = search (rules, length-placed, placed_at, file_from-placed)

-- ---- loops

pub each_from : (P : ℕ × Cell → Type 0) (cs : List (ℕ × Cell)) → ((i : ℕ) (d : ℕ × Cell) → i < length cs → P (get_or cs i d)) → Each P cs
each_from P [] h = tt
each_from P (c ∷ cs) h = (h 0 c (omega arith), each_from P cs (λ i d within. h (suc i) d (omega arith)))

-- ---- what the calls of `Cells` leave

-- the cell x, which is f of the one read at an index, is put back there
pub put_changes : (f : Cell → Cell) (table : List Cell) (n at off : ℕ) (x old : Cell) → n ≡ length table → at ≡ off → at < n → old ≡ get_or table at old → x ≡ f old
    → ChangesAt f off table (set table at x)
put_changes f table n at off x old size is within read becomes = grind (arith, set_changes, get_or_default)

pub view_changes : (f : Cell → Cell) (table new : List Cell) (cs : List (ℕ × Cell)) (off : ℕ) (old : CellFile) → ChangesAt f off table new
    → let before : CellFile = record { now = file_from table cs; initial = file_of cs } in before ≡ old
    → let left : CellFile = record { now = file_from new cs; initial = file_of cs } in left ≡ record old { now = changed f (config off) old.now }
view_changes f table new cs off old h is = grind (arith, file_from-changed)

-- a change past the table is none
pub view_past : (f : Cell → Cell) (table : List Cell) (cs : List (ℕ × Cell)) (n at off : ℕ) (old : CellFile) → f no_cell ≡ no_cell → n ≡ length table → at ≡ off → n ≤ at
    → let before : CellFile = record { now = file_from table cs; initial = file_of cs } in before ≡ old → old ≡ record old { now = changed f (config off) old.now }
view_past f table cs n at off old none size is past shown = grind (arith, view_changes, nothing_changes)

-- a change that is not enabled is none either
pub view_past_if : (t : Bool) (f : Cell → Cell) (off : ℕ) (old : CellFile) → old ≡ record old { now = changed f (config off) old.now } → old ≡ record old { now = cond t (changed f (config off) old.now) old.now }
view_past_if t f off old h = grind arith

-- what a vector holds after a whole list is put into it as a slice
pub refilled : (n : ℕ) (table new : List Cell) (cs : List (ℕ × Cell)) → new ≡ placed cs table → n ≡ length table → take n (new ++ drop (length new) table) ≡ placed cs table
refilled n table new cs is size = take_at new (drop (length new) table) n (ap length is ∙ length-placed cs table ∙ sym size) ∙ is

pub IsTable-refilled : (n : ℕ) (table new : List Cell) (cs : List (ℕ × Cell)) → new ≡ placed cs table → n ≡ length table
    → HasDistinctOffsets cs → Each (λ c. c.0 < length table) cs → HasGaps table cs → IsTable (take n (new ++ drop (length new) table)) cs
IsTable-refilled n table new cs is size d room gaps = grind (arith, refilled, IsTable-placed)

pub view_refilled : (n : ℕ) (table new : List Cell) (cs : List (ℕ × Cell)) → new ≡ placed cs table → n ≡ length table
    → HasDistinctOffsets cs → Each (λ c. c.0 < length table) cs
    → let left : CellFile = record { now = file_from (take n (new ++ drop (length new) table)) cs; initial = file_of cs } in left ≡ record { now = file_of cs; initial = file_of cs }
view_refilled n table new cs is size d room = grind (arith, refilled, file_from-placed)
