use Rattle.std.proofs.lemmas.Grind.{common_steps}
-- Where bridges are too many, or regions of I/O stand behind bridges without an I/O window, an entry of the file is named.
use Rattle.std.{proofs.{Common.{◌≡◌, ◌≢◌, ◌⊎◌, inl, inr, ℕ, ◌+◌, Bool, true, false, ◌&&◌, ◌||◌, not, cond, List, [], ◌∷◌, ◌++◌, map, Option, Some, None, refl, sym, ap, ◌∙◌, arith}, lemmas.{Bool.{both_ways, leb-false, lt-ltb, false_from_ne_true}, List.Sums.sum_by-cons}}, specs.{Prelude.{filter, flat_map}, Option.option_map_or, List.{list_all, list_any, enumerate_from}}}
use Rattle.lists.{specs.Elements.Each, proofs.{EachLemmas.each_append, Members.{each_in, any_in, from_any, all_from, from_flat_map, from_filter, from_map}}}
use Rattle.model_registers.specs.Declarations.{IoDecode}
use Rattle.model_board.{specs.{Paths.Path, Board.{Row, Board, is_bridge}, BusNumbers.{bridge_count, numbers_suffice}, Places.{row_inserted, board_of}}, proofs.PlacesLaw.each_to_board}
use Rattle.model_set_up.specs.Pools.{opens_io, has_io, bridges_above, has_io_paths}
use Rattle.board_file.{specs.{Bars.Bar, Entries.{Bridge, File}, Endpoints.Endpoint, Functions.{endpoint_row, bridge_row, rows}, PathTexts.path_at}, proofs.{Declaring.declared_regions, FirstBroken.{alone, broken_at}, Searches.{position_none, not_empty, both_empty}}}
use Rattle.board_fit.{specs.{ReasonLaws.BusAndIoFaultsNameEntries, Misfits.{is_io, has_no_io_window, first_bridge_blocking_io, no_io_window, no_io_window_bar_remarks, no_io_window_remarks, remarks_on_blocked_io, remark_on_bridge_256}}, proofs.BridgesAbove.{all_above, by_file}}
use Rattle.model_registers.specs.Declarations as declared

-- ---- bridges

abbrev one : Row → ℕ
one r = cond (is_bridge r.decl) 1 0

count_inserted : (r : Row) (b : Board) → bridge_count (row_inserted r b) ≡ one r + bridge_count b
count_inserted r [] = sum_by-cons one r []
count_inserted r (s ∷ b) = grind (arith, common_steps, sum_by-cons, count_inserted r b)

count_board : (rs : List Row) → bridge_count (board_of rs) ≡ bridge_count rs
count_board [] = refl
count_board (r ∷ rs) = count_inserted r (board_of rs) ∙ ap (λ (n : ℕ). one r + n) (count_board rs) ∙ sym (sum_by-cons one r rs)

count_rows : (es : List Endpoint) (b : Board) → bridge_count (map endpoint_row es ++ b) ≡ bridge_count b
count_rows [] b = refl
count_rows (e ∷ es) b = grind (arith, sum_by-cons, count_rows es b)

bridge_named : (f : File) → numbers_suffice (board_of (rows f)) ≡ false → remark_on_bridge_256 f ≢ []
bridge_named f h = grind (arith, common_steps, count_board, count_rows, not_empty, lt-ltb, leb-false, sum_by-cons)

-- ---- regions of I/O

-- a bridge is above the path and closed, or it is passed
passed : (t : Bool) (d : IoDecode) → (has_no_io_window d && t) ≡ false → (not t || has_io d) ≡ true
passed t d h = grind arith

all_open : (bs : List Bridge) (p : Path) → first_bridge_blocking_io bs p ≡ None → all_above (λ b. has_io b.io) bs p ≡ true
all_open bs p h = grind (arith, all_from, passed, position_none)

-- an endpoint has no regions of I/O, where none is named behind a bridge
no_io_bars : (i k n : ℕ) (bars : List Bar) → map (no_io_window i k) (filter (λ p. is_io p.1.kind) (enumerate_from n bars)) ≡ [] → list_any (λ (b : Bar). is_io b.kind) bars ≡ false
no_io_bars i k n [] h = refl
no_io_bars i k n (b ∷ bars) h = grind (arith, no_io_bars i k (n + 1) bars)

opens_none : (e : Endpoint) → list_any (λ (b : Bar). is_io b.kind) e.bars ≡ false → opens_io (endpoint_row e).decl ≡ false
opens_none e h = grind (arith, common_steps, declared_regions e, false_from_ne_true, from_any, from_flat_map, from_map, from_filter, both_ways, any_in)

-- what is named behind the first bridge that is closed
blocked_behind : (bs : List Bridge) (i : ℕ) (e : Endpoint) → no_io_window_remarks bs (i, e) ≡ [] → option_map_or (λ k. no_io_window_bar_remarks i k e.bars) (first_bridge_blocking_io bs (path_at e.at)) [] ≡ []
unfolding no_io_window_remarks
blocked_behind bs i e h = h

module _ (f : File) where
  abbrev keeps : Row → Type 0
  keeps r = (not (opens_io r.decl) || list_all (λ d. has_io d.io) (bridges_above (board_of (rows f)) r.path)) ≡ true

  endpoint_keeps : (i : ℕ) (e : Endpoint) → no_io_window_remarks f.bridges (i, e) ≡ [] → keeps (endpoint_row e)
  endpoint_keeps i e h = by_bridge (first_bridge_blocking_io f.bridges (path_at e.at)) refl
    where
      either : (a b : Bool) → (a ≡ false) ⊎ (b ≡ true) → (not a || b) ≡ true
      either a b k = grind arith

      by_bridge : (o : Option ℕ) → first_bridge_blocking_io f.bridges (path_at e.at) ≡ o → keeps (endpoint_row e)
      by_bridge None is =
          either (opens_io (endpoint_row e).decl) (list_all (λ d. has_io d.io) (bridges_above (board_of (rows f)) (path_at e.at)))
          (inr (by_file (λ (d : declared.Bridge). has_io d.io) (path_at e.at) (λ b. has_io b.io) (λ b. refl) f ∙ all_open f.bridges (path_at e.at) is))
      by_bridge (Some k) is =
          either (opens_io (endpoint_row e).decl) (list_all (λ d. has_io d.io) (bridges_above (board_of (rows f)) (path_at e.at)))
          (inl (opens_none e (no_io_bars i k 0 e.bars (sym (ap (λ (o : Option ℕ). option_map_or (λ k. no_io_window_bar_remarks i k e.bars) o []) is) ∙ blocked_behind f.bridges i e h))))

  endpoints_keep : (n : ℕ) (es : List Endpoint) → flat_map (no_io_window_remarks f.bridges) (enumerate_from n es) ≡ [] → Each keeps (map endpoint_row es)
  endpoints_keep n [] h = tt
  endpoints_keep n (e ∷ es) h = grind (arith, both_empty, endpoint_keeps, endpoints_keep (n + 1) es)

  bridges_keep : (bs : List Bridge) → Each keeps (map bridge_row bs)
  bridges_keep [] = tt
  bridges_keep (b ∷ bs) = (refl, bridges_keep bs)

  region_named : has_io_paths (board_of (rows f)) ≡ false → remarks_on_blocked_io f ≢ []
  region_named h none = grind (arith, each_to_board, each_append, endpoints_keep, bridges_keep, both_ways, all_from, each_in)

-- ---- the rules of set-up

pub bus_and_io_faults_name_entries : BusAndIoFaultsNameEntries
bus_and_io_faults_name_entries = grind (arith, bridge_named, alone, broken_at, region_named)
