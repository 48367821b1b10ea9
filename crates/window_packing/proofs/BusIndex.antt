-- Buses by index.
use Rattle.std.{proofs.{Common.{◌≡◌, ℕ, zero, suc, ◌≤◌, map, length, Some, refl, ap, arith, sym, ◌∙◌}, lemmas.List.length-map}, specs.List.slice_get}
use Rattle.lists.proofs.Indices.{at_below, map_at}
use Rattle.model_board.specs.{Paths.Path, Board.{Row, Board}}
use Rattle.model_set_up.specs.FunctionTable.{TableRow}
use Rattle.window_packing.specs.{Buses.bus_path, Placed.bus_paths}

abbrev pub row_in : TableRow → Row
row_in t = record { path = t.path; decl = t.decl }

-- the bus behind the function of a row
pub bus_behind : (b : Board) (k : ℕ) (r : Row) → slice_get b k ≡ Some r → bus_path b (suc k) ≡ r.path
bus_behind b k r e = rw e

-- a list by bus is read at a bus
pub by_bus : {A : Type 0} (f : Path → A) (b : Board) (bus : ℕ) → bus ≤ length b → slice_get (map f (bus_paths b)) bus ≡ Some (f (bus_path b bus))
by_bus f b zero h = refl
by_bus f b (suc k) h =
    let r = at_below b k (omega arith) in
    map_at f (map (λ (s : Row). s.path) b) k r.0.path (map_at (λ (s : Row). s.path) b k r.0 r.1) ∙ ap (λ p. Some (f p)) (sym (bus_behind b k r.0 r.1))

pub count_buses : {A : Type 0} (f : Path → A) (b : Board) → length (map f (bus_paths b)) ≡ suc (length b)
count_buses f b = length-map (bus_paths b) f ∙ ap suc (length-map b (λ (r : Row). r.path))
