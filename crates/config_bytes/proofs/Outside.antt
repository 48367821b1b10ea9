-- A table into which the cells of a list are put, but for those at the offsets of a range.
use Rattle.std.proofs.{Common.{◌≡◌, ℕ, ◌<◌, ◌++◌, Bool, true, false, cond, eqb, List, [], ◌∷◌, length, take, drop, refl, sym, ap, ap₂, ◌∙◌, subst, arith}, Math.ListN.set, lemmas.{Bool.{eqb-true, eqb-false}, List.{length-set, get_or-set_same, get_or-set_other, take_at}}}
use Rattle.lists.specs.Elements.{Each}
use Rattle.model_registers.specs.{Cell.{Cell, no_cell}, Registers.{config, File, cell_at}}
use Rattle.config_bytes.{specs.CellFile.{is_between, reset_outside, file_of, file_from, table_at, placed, placed_outside, IsTable}, proofs.Tables.{HasGaps-table, IsTable-placed, file_from-placed}}

module _ (first last : ℕ) where
  abbrev stays : ℕ → Bool
  stays q = is_between first last (config q)

  -- a table that shows one table at the offsets of the range, and another one elsewhere
  abbrev pub IsJoined : List Cell → List Cell → List Cell → Type 0
  IsJoined new old other = (q : ℕ) → table_at new q ≡ cond (stays q) (table_at old q) (table_at other q)

  step_length : (t : Bool) (table : List Cell) (p : ℕ) (x : Cell) → length (cond t table (set table p x)) ≡ length table
  step_length t table p x = grind (arith, length-set)

  pub length-placed_outside : (cs : List (ℕ × Cell)) (table : List Cell) → length (placed_outside first last cs table) ≡ length table
  length-placed_outside [] table = refl
  length-placed_outside (c ∷ cs) table = length-placed_outside cs (cond (stays c.0) table (set table c.0 c.1)) ∙ step_length (stays c.0) table c.0 c.1

  step_other : (t : Bool) (table : List Cell) (p q : ℕ) (x : Cell) → eqb p q ≡ false → table_at (cond t table (set table p x)) q ≡ table_at table q
  step_other t table p q x h = grind (arith, get_or-set_other, eqb-false)

  step_same : (t : Bool) (table : List Cell) (p : ℕ) (x old : Cell) → p < length table → (t ≡ true → table_at table p ≡ old) → table_at (cond t table (set table p x)) p ≡ cond t old x
  step_same t table p x old within is = grind (arith, get_or-set_same)

  room_after : (cs : List (ℕ × Cell)) (n m : ℕ) → n ≡ m → Each (λ c. c.0 < m) cs → Each (λ c. c.0 < n) cs
  room_after cs n m e room = let P : ℕ → Type 0 = λ k. Each (λ (c : ℕ × Cell). c.0 < k) cs in subst P (sym e) room

  module _ (old : List Cell) where
    -- one more cell is put into both tables, or into the second alone
    step : (table all : List Cell) (c : ℕ × Cell) → c.0 < length table → c.0 < length all → IsJoined table old all
        → IsJoined (cond (stays c.0) table (set table c.0 c.1)) old (set all c.0 c.1)
    step table all c within inside joined q = grind (arith, eqb-true, step_same, get_or-set_same, step_other, get_or-set_other, eqb-false)

    joined_at : (cs : List (ℕ × Cell)) (table all : List Cell) → Each (λ c. c.0 < length table) cs → length all ≡ length table → IsJoined table old all
        → IsJoined (placed_outside first last cs table) old (placed cs all)
    joined_at [] table all room same joined = joined
    joined_at (c ∷ cs) table all room same joined =
        let next : List Cell = cond (stays c.0) table (set table c.0 c.1) in
        let size : length next ≡ length table = step_length (stays c.0) table c.0 c.1 in
        let inside : c.0 < length all = let P : ℕ → Type 0 = λ n. c.0 < n in subst P (sym same) room.0 in
        joined_at cs next (set all c.0 c.1) (room_after cs (length next) (length table) size room.1) (length-set all c.0 c.1 ∙ same ∙ sym size) (step table all c room.0 inside joined)

  same_either : (t : Bool) (c : Cell) → c ≡ cond t c c
  same_either t c = grind arith

  -- the files of such tables
  joined_file : (new old other : List Cell) → IsJoined new old other → (cs : List (ℕ × Cell)) (q : ℕ)
      → cell_at (file_from new cs) (config q) ≡ cond (stays q) (cell_at (file_from old cs) (config q)) (cell_at (file_from other cs) (config q))
  joined_file new old other joined [] q = same_either (stays q) no_cell
  joined_file new old other joined (c ∷ cs) q = grind (arith, joined_file new old other joined cs q, eqb-true)

  module _ (table : List Cell) (cs : List (ℕ × Cell)) (is : IsTable table cs) where
    abbrev new : List Cell
    new = placed_outside first last cs table

    all : IsTable (placed cs table) cs
    all = IsTable-placed cs table is.distinct is.room (HasGaps-table table cs is)

    joined : IsJoined new table (placed cs table)
    joined = joined_at table cs table table is.room refl (λ q. same_either (stays q) (table_at table q))

    pub IsTable-outside : IsTable new cs
    IsTable-outside = record {
      distinct = is.distinct;
      room = room_after cs (length new) (length table) (length-placed_outside cs table) is.room;
      shows = λ q.
          joined q ∙ ap₂ (λ (x y : Cell). cond (stays q) x y) (is.shows q) (all.shows q)
          ∙ sym (joined_file new table (placed cs table) joined cs q);
    }

    initial_at : (q : ℕ) → table_at (placed cs table) q ≡ cell_at (file_of cs) (config q)
    initial_at q = all.shows q ∙ ap (λ (file : File). cell_at file (config q)) (file_from-placed cs table is.distinct is.room)

    pub file_from-outside : (ds : List (ℕ × Cell)) → file_from new ds ≡ reset_outside first last (file_of cs) (file_from table ds)
    file_from-outside [] = refl
    file_from-outside (d ∷ ds) = grind (arith, joined, initial_at, file_from-outside ds)

-- what a vector holds after its slice was so filled
pub refilled_outside : (first last n : ℕ) (table left : List Cell) (cs : List (ℕ × Cell)) → left ≡ placed_outside first last cs table → n ≡ length table
    → take n (left ++ drop (length left) table) ≡ placed_outside first last cs table
refilled_outside first last n table left cs is size = take_at left (drop (length left) table) n (ap length is ∙ length-placed_outside first last cs table ∙ sym size) ∙ is
