-- Documents that differ in their scalars alone.
--     have_same_shape      the same keys, and arrays of the same length, at every depth
use Rattle.std.specs.{Prelude.{Bool, true, false, not, ◌&&◌, is_some}, Option.option_map_or, Str.bytes_eq}
use Rattle.toml.specs.Data.{Data, array, table, Items, no_items, item, Members, no_members, member, as_array, as_table}

abbrev pub is_scalar : Data → Bool
is_scalar d = not (is_some (as_array d)) && not (is_some (as_table d))

abbrev mutual
  pub have_same_shape : Data → Data → Bool
  have_same_shape (array ds) e = option_map_or (items_have_same_shape ds) (as_array e) false
  have_same_shape (table ms) e = option_map_or (members_have_same_shape ms) (as_table e) false
  have_same_shape d e = is_scalar e

  pub items_have_same_shape : Items → Items → Bool
  items_have_same_shape no_items no_items = true
  items_have_same_shape (item d ds) (item e es) = have_same_shape d e && items_have_same_shape ds es
  items_have_same_shape _ _ = false

  pub members_have_same_shape : Members → Members → Bool
  members_have_same_shape no_members no_members = true
  members_have_same_shape (member k d ms) (member l e ns) =
      bytes_eq k l && have_same_shape d e && members_have_same_shape ms ns
  members_have_same_shape _ _ = false
