use Rattle.std.proofs.Common.{◌≡◌}
use Rattle.diagnostics.proofs.descent.+descent.Given as goal

abbrev pub invariant-push_steps_to_scalar_in_items-items : goal.invariant-push_steps_to_scalar_in_items-items
invariant-push_steps_to_scalar_in_items-items l = l.way.items ≡ l.initial.way.items

abbrev pub invariant-push_steps_to_scalar_in_table-members : goal.invariant-push_steps_to_scalar_in_table-members
invariant-push_steps_to_scalar_in_table-members l = record {
  can_next : (goal.iterator-push_steps_to_scalar_in_table-members).can_next l.key-iterator;
  is_finite : (goal.iterator-push_steps_to_scalar_in_table-members).is_finite l.key-iterator;
  way_stays : l.way.items ≡ l.initial.way.items;
}
