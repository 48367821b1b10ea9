-- The bridge that leads to a bus: PCI-to-PCI Bridge Architecture 1.2, chapter 3.1.2.
--     LeadsTo nodes n i      cycles for bus n reach exactly the functions on the bus behind the bridge at index i
--     LeadsNowhere nodes n      cycles for bus n reach nothing
--     AreUnknown known      no bridge is cached for any bus number
--     AreRoutes nodes known      each cached bridge leads to its bus number
--     IsBus nodes known      a tree with such a cache
use Rattle.std.specs.Prelude.{List, [], ◌∷◌, ◌++◌, ◌≡◌, ℕ, ◌&&◌, ◌<◌, Option, Some, None, length, get_or, slice_get}
use Rattle.model_board.specs.{Paths.{Part, Path, path_eq}, Cycles.{ends_in, is_route, reached_type1}}
use Rattle.bridge_forward.specs.{declared.bus.Node.Node, Layout.functions_of, Skips.IsTree}

pub record LeadsTo (nodes : List Node) (n i : ℕ) : Type 0 where
  pub bridge : Node
  pub there : slice_get nodes i ≡ Some bridge
  pub routes : (p : Path) (t : Part)
      → (ends_in p t && is_route (functions_of nodes) n [] p) ≡ path_eq p (bridge.path ++ t ∷ [])

abbrev pub LeadsNowhere : List Node → ℕ → Type 0
LeadsNowhere nodes n = (t : Part) → reached_type1 (functions_of nodes) n t ≡ None

abbrev pub AreUnknown : List (Option ℕ) → Type 0
AreUnknown known = (n : ℕ) → n < length known → get_or known n None ≡ None

abbrev pub AreRoutes : List Node → List (Option ℕ) → Type 0
AreRoutes nodes known = (n i : ℕ) → slice_get known n ≡ Some (Some i) → LeadsTo nodes n i

pub record IsBus (nodes : List Node) (known : List (Option ℕ)) : Type 0 where
  pub tree : IsTree nodes
  pub routes : AreRoutes nodes known
