use Rattle.std.proofs.Common.{◌≡◌, length, drop}
use Rattle.toml.specs.View.{items_view, members_view}
use Rattle.diagnostics.specs.Shapes.{items_have_same_shape, members_have_same_shape}
use Rattle.diagnostics.proofs.shapes.+compare.Given as goal

abbrev pub invariant-items_have_same_shape-items : goal.invariant-items_have_same_shape-items
invariant-items_have_same_shape-items l =
    (length l.array.items ≡ length l.other.items) ×
    (items_have_same_shape (items_view (drop l.i l.array.items)) (items_view (drop l.i l.other.items)) ≡ items_have_same_shape (items_view l.array.items) (items_view l.other.items))

abbrev pub invariant-members_have_same_shape-members : goal.invariant-members_have_same_shape-members
invariant-members_have_same_shape-members l =
    (goal.iterator-members_have_same_shape-members).can_next l.key-iterator ×
    (goal.iterator-members_have_same_shape-members).is_finite l.key-iterator ×
    (members_have_same_shape (members_view l.key-iterator) (members_view l.others) ≡ members_have_same_shape (members_view l.table.entries) (members_view l.other.entries))
