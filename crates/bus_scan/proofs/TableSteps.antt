-- The table while its rows are sized one after the other.
--     half_sized      the first rows are sized, and the others are as the scan left them
--     RowsBelow      the host is as it was, and the rows below an index are sized
use Rattle.std.{proofs.{Common.{◌≡◌, ℕ, zero, suc, ◌+◌, ◌<◌, ◌≤◌, inl, List, [], ◌∷◌, ◌++◌, map, length, get_or, take, drop, refl, sym, ap, ◌∙◌, arith}, Math.Seq.take-append_seam}, specs.Prelude.slice_set}
use Rattle.lists.specs.Elements.{IsIn}
use Rattle.model_board.specs.{Board.{Board, Row}, AtReset.board_at}
use Rattle.model_set_up.specs.FunctionTable.{TableRow, table_row, met_decl, found_decl, scanned_table, sized_table}
use Rattle.host_bridge.specs.HostState.{HostState}
use Rattle.bus_scan.specs.SizedRows.{IsScannedRow, SizesRow}

pub half_sized : Board → ℕ → List Row → List TableRow
half_sized b zero rs = map (table_row b met_decl) rs
half_sized b (suc n) [] = []
half_sized b (suc n) (r ∷ rs) = table_row b found_decl r ∷ half_sized b n rs

pub record RowsBelow (first now : HostState) (rows : List TableRow) (n : ℕ) : Type 0 where
  pub host : now ≡ first
  pub rows_are : rows ≡ half_sized (board_at first.state.functions) n (board_at first.state.functions)

pub none_sized : (first : HostState) (rows : List TableRow) → rows ≡ scanned_table (board_at first.state.functions) → RowsBelow first first rows 0
unfolding half_sized
none_sized first rows h = record { host = refl; rows_are = h }

all_sized : (b : Board) (n : ℕ) (rs : List Row) → length rs ≤ n → half_sized b n rs ≡ map (table_row b found_decl) rs
unfolding half_sized
all_sized b zero [] h = refl
all_sized b zero (r ∷ rs) h = absurd (omega arith)
all_sized b (suc n) [] h = refl
all_sized b (suc n) (r ∷ rs) h = ap (λ (rows : List TableRow). table_row b found_decl r ∷ rows) (all_sized b n rs (omega arith))

-- the row at the index, before and after
record Turn (b : Board) (n : ℕ) (rs : List Row) : Type 0 where
  row : Row
  inside : IsIn row rs
  before : (d : TableRow) → get_or (half_sized b n rs) n d ≡ table_row b met_decl row
  then : (x : TableRow) → x ≡ table_row b found_decl row → slice_set (half_sized b n rs) n x ≡ half_sized b (suc n) rs

turn : (b : Board) (n : ℕ) (rs : List Row) → n < length rs → Turn b n rs
unfolding half_sized
turn b n [] h = absurd (omega arith)
turn b zero (r ∷ rs) h = record { row = r; inside = inl refl; before = λ d. refl; then = λ x e. ap (λ (x : TableRow). x ∷ map (table_row b met_decl) rs) e }
turn b (suc n) (r ∷ rs) h = grind (arith, turn b n rs)

module _ (first now : HostState) (rows : List TableRow) (n : ℕ) (below : RowsBelow first now rows n) where
  pub next_scanned : n < length (board_at first.state.functions) → (d : TableRow) → IsScannedRow (board_at now.state.functions) (get_or rows n d)
  next_scanned h d =
      let b = board_at first.state.functions in
      grind (arith, turn b n b h)

  pub next_sized : n < length (board_at first.state.functions) → (after : HostState) → after ≡ now → (d x : TableRow) → SizesRow (board_at now.state.functions) (get_or rows n d) x → RowsBelow first after (slice_set rows n x) (n + 1)
  next_sized h after e d x sizes =
      let b = board_at first.state.functions in
      grind (arith, turn b n b h)

  pub whole_sized : length (board_at first.state.functions) ≤ n → rows ≡ sized_table (board_at first.state.functions)
  whole_sized h = below.rows_are ∙ all_sized (board_at first.state.functions) n (board_at first.state.functions) h

-- a whole list that was lent and came back
pub came_back : (n : ℕ) (xs ys : List TableRow) → length xs ≡ length ys → n ≡ length ys → take n (xs ++ drop (length xs) ys) ≡ xs
came_back n xs ys same e = ap (λ m. take m (xs ++ drop (length xs) ys)) (e ∙ sym same) ∙ take-append_seam xs (drop (length xs) ys)
