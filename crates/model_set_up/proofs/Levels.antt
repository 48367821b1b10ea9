-- Sixteen levels are enough for every lawful board.
use Rattle.std.{proofs.Common.{◌≡◌, ℕ, zero, suc, ◌+◌, ◌≤◌, ◌<◌, true, List, [], ◌∷◌, length, refl, sym, ap, arith, rules}, specs.Prelude.flat_map}
use Rattle.lists.{specs.Elements.Each, proofs.{Members.{each_in, from_filter, flat_map_same}, Tests.right_true}}
use Rattle.model_board.specs.{Board.{Board, Row, Decl, rows_on}, Paths.{Path, path_eq, part_eq, parent, IsPath}}
use Rattle.model_registers.specs.Apertures.{Apertures}
use Rattle.model_set_up.specs.{Pools.Pool, Placement.{PlacementItem, items_of, items_within}, Levels.ItemsByBus}

-- equal paths are as long
path_eq-length : (p q : Path) → path_eq p q ≡ true → length p ≡ length q
path_eq-length [] y h = grind arith
path_eq-length (x ∷ p) [] h = cc
path_eq-length (x ∷ p) (y ∷ q) h = ap suc (path_eq-length p q (right_true (part_eq x y) (path_eq p q) h))

parent-shorter : (p : Path) → 0 < length p → length p ≡ suc (length (parent p))
parent-shorter [] h = absurd (omega arith)
parent-shorter (p ∷ []) h = refl
parent-shorter (p ∷ q ∷ ps) h = ap suc (parent-shorter (q ∷ ps) (omega arith))

items_of_same : (b : Board) (a : Apertures) (pool : Pool) (f g : Path → List PlacementItem) (p : Path) (d : Decl) → f p ≡ g p
    → items_of b a pool f (record { path = p; decl = d }) ≡ items_of b a pool g (record { path = p; decl = d })
items_of_same b a pool f g p d e = grind arith

no_rows : (b : Board) (bus : Path) → Each (λ r. IsPath r.path) b → 16 ≤ length bus → rows_on b bus ≡ []
no_rows [] bus h deep = refl
no_rows (r ∷ b) bus h deep = search (rules, path_eq-length, parent-shorter, no_rows b bus h.1 deep)

-- one more level changes nothing where the levels reach the longest path
one_more : (b : Board) (a : Apertures) (pool : Pool) → Each (λ r. IsPath r.path) b → (n : ℕ) (bus : Path) → 16 ≤ n + length bus
    → items_within b a pool n bus ≡ items_within b a pool (suc n) bus
one_more b a pool paths zero bus deep = sym (ap (flat_map (items_of b a pool (items_within b a pool zero))) (no_rows b bus paths (omega arith)))
one_more b a pool paths (suc n) bus deep =
    flat_map_same (items_of b a pool (items_within b a pool n)) (items_of b a pool (items_within b a pool (suc n))) (rows_on b bus)
    (λ r m. let k = from_filter (λ (s : Row). path_eq (parent s.path) bus) r b m in
    items_of_same b a pool (items_within b a pool n) (items_within b a pool (suc n)) r.path r.decl
    (one_more b a pool paths n r.path (omega (arith, path_eq-length (parent r.path) bus k.1, parent-shorter r.path (each_in (λ (s : Row). IsPath s.path) r b paths k.0).some))))

pub bus_items_are_bars_and_windows : ItemsByBus
bus_items_are_bars_and_windows b lawful a pool bus = one_more b a pool lawful.paths 16 bus (omega arith)
