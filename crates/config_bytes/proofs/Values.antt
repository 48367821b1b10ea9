-- A value that is put into a cell of a table, where one stands.
use Rattle.std.{proofs.{Common.{◌≡◌, ℕ, ◌<◌, ◌%◌, Bool, true, false, not, cond, eqb, List, [], ◌∷◌, length, get_or, refl, sym, ap, ◌∙◌, subst, arith}, Math.ListN.set, lemmas.{List.length-set, Bool.eqb-true}}, specs.List.list_all}
use Rattle.lists.specs.Elements.{Each}
use Rattle.model_registers.{specs.{Cell.Cell, Registers.{config, File, cell_at, changed}, FileLaws.has_place, DeviceBytes.{with_value, set_value}}, proofs.{RegisterFiles.place_turned, Files.change_none, DeviceBytes.{change_beside, change_there}}}
use Rattle.config_bytes.{specs.CellFile.{CellFile, file_of, file_from, IsTable}, proofs.Tables.{ChangesAt, put_changes, file_from-changed, view_changes}}

-- no cell stands at the offset
abbrev pub free : ℕ → List (ℕ × Cell) → Bool
free off cs = list_all (λ c. not (eqb off c.0)) cs

-- as a test of the file
stands-is : (off : ℕ) (table : List Cell) (cs : List (ℕ × Cell)) → has_place (file_from table cs) (config off) ≡ not (free off cs)
stands-is off table [] = refl
stands-is off table (c ∷ cs) = grind (arith, place_turned, stands-is off table cs)

within : (off n : ℕ) (cs : List (ℕ × Cell)) → Each (λ c. c.0 < n) cs → free off cs ≡ false → off < n
within off n [] room h = cc
within off n (c ∷ cs) room h = grind (arith, within off n cs, eqb-true)

-- a cell that stands changes at its place alone
change_at : (f : Cell → Cell) (file : File) (a b : ℕ) → has_place file (config a) ≡ true → cell_at (changed f (config a) file) (config b) ≡ cond (eqb a b) (f (cell_at file (config b))) (cell_at file (config b))
change_at f file a b stands = grind (arith, eqb-true, change_there, change_beside)

module _ (table : List Cell) (cs : List (ℕ × Cell)) (is : IsTable table cs) (off v : ℕ) (byte : v < 256) where
  abbrev before : CellFile
  before = record { now = file_from table cs; initial = file_of cs }

  low : v % 256 ≡ v
  low = omega (arith, byte)

  -- nothing stands there
  pub none_set : free off cs ≡ true → (old : CellFile) → before ≡ old → old ≡ record old { now = set_value v (config off) old.now }
  none_set none old shown = grind (arith, change_none, stands-is)

  module _ (taken : free off cs ≡ false) where
    pub inside : off < length table
    inside = within off (length table) cs is.room taken

    module _ (at : ℕ) (same : at ≡ off) (x old : Cell) (read : old ≡ get_or table at old) (becomes : x ≡ with_value v old) where
      changes : ChangesAt (with_value v) off table (set table at x)
      changes = put_changes (with_value v) table (length table) at off x old refl same (let P : ℕ → Type 0 = λ n. n < length table in subst P (sym same) inside) read becomes

      pub table_set : IsTable (set table at x) cs
      table_set = record {
        distinct = is.distinct;
        room = subst (λ n. Each (λ (c : ℕ × Cell). c.0 < n) cs) (sym (length-set table at x)) is.room;
        shows = λ q.
            changes q ∙ ap (λ (c : Cell). cond (eqb off q) (with_value v c) c) (is.shows q)
            ∙ sym (change_at (with_value v) (file_from table cs) off q (stands-is off table cs ∙ ap not taken))
            ∙ sym (ap (λ (file : File). cell_at file (config q)) (file_from-changed (with_value v) off table (set table at x) changes cs));
      }

      pub view_set : (was : CellFile) → before ≡ was → let left : CellFile = record { now = file_from (set table at x) cs; initial = file_of cs } in left ≡ record was { now = set_value v (config off) was.now }
      view_set was shown = grind (arith, view_changes, set, changes, low)
