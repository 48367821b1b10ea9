-- Arrays of other lengths, and arrays item by item.
use Rattle.std.proofs.{Common.{◌≡◌, ℕ, ◌+◌, ◌<◌, false, ◌&&◌, List, [], ◌∷◌, length, get_or, drop, refl, arith}, lemmas.Bool.and_right}
use Rattle.toml.{specs.{View.{view, items_view}, declared.value.Value.Value}, proofs.Views.items_view-drop}
use Rattle.diagnostics.specs.Shapes.{have_same_shape, items_have_same_shape}

pub other_lengths : (vs ws : List Value) → (length vs ≡ length ws → ⊥) → items_have_same_shape (items_view vs) (items_view ws) ≡ false
other_lengths [] [] h = absurd (h refl)
other_lengths [] (w ∷ ws) h = refl
other_lengths (v ∷ vs) [] h = refl
other_lengths (v ∷ vs) (w ∷ ws) h = grind (arith, and_right, other_lengths vs ws)

pub from_item : (i : ℕ) (vs ws : List Value) (v w : Value) → i < length vs → i < length ws → items_have_same_shape (items_view (drop i vs)) (items_view (drop i ws)) ≡ (have_same_shape (view (get_or vs i v)) (view (get_or ws i w)) && items_have_same_shape (items_view (drop (i + 1) vs)) (items_view (drop (i + 1) ws)))
from_item i vs ws v w h k = rw (items_view-drop vs i v h, items_view-drop ws i w k)
