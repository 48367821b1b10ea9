-- Lookups of functions by sets of their paths.
--     AreSetsOf ss all bridges      the paths of all functions, and of the bridges among them
use Rattle.std.specs.{Prelude.{◌≡◌, List}, BTreeSet.{BTreeSet, contains}}
use Rattle.model_board.specs.{Paths.Path, Places.{Standing, has_path, has_bridge}}
use Rattle.paths.specs.PathOrders.{path_cmp}

pub record AreSetsOf (ss : List Standing) (all bridges : BTreeSet Path) : Type 0 where
  pub has_path_is : (q : Path) → contains path_cmp all q ≡ has_path ss q
  pub has_bridge_is : (q : Path) → contains path_cmp bridges q ≡ has_bridge ss q
