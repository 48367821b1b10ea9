-- The bridges above a path, by those of a file and by those of its board.
--     all_above q bs p      each of the bridges that the path leads through passes a test
use Rattle.std.{proofs.{Common.{◌≡◌, Bool, true, ◌&&◌, ◌||◌, not, List, [], ◌∷◌, ◌++◌, map, refl, ◌∙◌, arith}, Math.Bool.{and_assoc, and_comm}}, specs.List.list_all}
use Rattle.model_board.specs.{Paths.{Path, is_ancestor_of}, Board.{Decl, endpoint, bridge, Row, Board}, Places.{row_inserted, board_of}}
use Rattle.model_set_up.specs.Pools.{bridges_above}
use Rattle.board_file.specs.{Entries.{Bridge, File}, Endpoints.Endpoint, Functions.{endpoint_row, bridge_row, rows}, PathTexts.path_at}
use Rattle.model_registers.specs.Declarations as declared

abbrev pub all_above : (Bridge → Bool) → List Bridge → Path → Bool
all_above q bs p = list_all (λ b. not (is_ancestor_of (path_at b.at) p) || q b) bs

-- ---- a test of all bridges above a path

module _ (q : declared.Bridge → Bool) (p : Path) where
  abbrev passes : Board → Bool
  passes b = list_all q (bridges_above b p)

  -- a row passes, where it is no bridge above the path
  abbrev row_passes : Path → Decl → Bool
  row_passes at (endpoint d) = true
  row_passes at (bridge d) = not (is_ancestor_of at p) || q d

  more : (at : Path) (d : Decl) (b : Board) → passes (record { path = at; decl = d } ∷ b) ≡ (row_passes at d && passes b)
  more at d b = grind arith

  -- in whatever order the rows stand
  inserted_passes : (r : Row) (b : Board) → passes (row_inserted r b) ≡ passes (r ∷ b)
  inserted_passes r [] = refl
  inserted_passes r (s ∷ b) = grind (arith, more, and_assoc, and_comm, inserted_passes r b)

  in_any_order : (rs : List Row) → passes (board_of rs) ≡ passes rs
  in_any_order [] = refl
  in_any_order (r ∷ rs) = grind (arith, inserted_passes, more, in_any_order rs)

  of_bridges : (t : Bridge → Bool) → ((b : Bridge) → row_passes (bridge_row b).path (bridge_row b).decl ≡ (not (is_ancestor_of (path_at b.at) p) || t b)) → (bs : List Bridge) → passes (map bridge_row bs) ≡ all_above t bs p
  of_bridges t h [] = refl
  of_bridges t h (b ∷ bs) = grind (arith, more, of_bridges t h bs)

  of_rows : (es : List Endpoint) (b : Board) → passes (map endpoint_row es ++ b) ≡ passes b
  of_rows [] b = refl
  of_rows (e ∷ es) b = grind (arith, more, of_rows es b)

  -- by the bridges of a file
  pub by_file : (t : Bridge → Bool) → ((b : Bridge) → row_passes (bridge_row b).path (bridge_row b).decl ≡ (not (is_ancestor_of (path_at b.at) p) || t b)) → (f : File) → passes (board_of (rows f)) ≡ all_above t f.bridges p
  by_file t h f = in_any_order (rows f) ∙ of_rows f.endpoints (map bridge_row f.bridges) ∙ of_bridges t h f.bridges
