-- After set-up the regions of a function stand where they were placed.
use Rattle.std.{proofs.Common.{◌≡◌, List, [], ◌∷◌, refl, ap, ap₂}, specs.Prelude.map}
use Rattle.lists.{specs.Elements.{Each, IsIn}, proofs.Members.{each_in, each_from}}
use Rattle.model_registers.specs.{Decoding.{base, base_address}, Apertures.Apertures}
use Rattle.model_board.specs.{Board.{Board, Decl, endpoint, bridge}, Paths.Path, Routing.row_of}
use Rattle.model_set_up.{specs.{Layout.{IsLawful, layout}, PlacementLaws.HasRows, SetUp.{first_of, set_up_file}, PlacedRegions.{placed, placed_at}, UniqueClaimant.CanBePlaced}, proofs.UniqueClaimant.{left, bases}}
use Rattle.model_findings.specs.OpenRegions.{region_now, regions_of}

maps_same : {A B C : Type 0} (f : B → C) (g : A → B) (h : A → C) (xs : List A) → Each (λ x. f (g x) ≡ h x) xs → map f (map g xs) ≡ map h xs
maps_same f g h [] e = refl
maps_same f g h (x ∷ xs) e = ap₂ ◌∷◌ e.0 (maps_same f g h xs e.1)

module _ (b : Board) (a : Apertures) (can : CanBePlaced b a) (lawful : IsLawful b a (layout b a)) (has : HasRows b a) where
  pub regions_placed : (p : Path) (d : Decl) → IsIn (record { path = p; decl = d }) b → regions_of (row_of (left b a (record { path = p; decl = d }))) ≡ placed_at b a (record { path = p; decl = d })
  regions_placed p (bridge d) m = refl
  regions_placed p (endpoint d) m =
      maps_same (region_now p) (base_address (set_up_file b a p (endpoint d))) (placed b a p) d.regions
      (each_from (λ g. region_now p (base_address (set_up_file b a p (endpoint d)) g) ≡ placed b a p g) d.regions
      (λ g k. ap (λ n. record { path = p; index = g.index; space = (placed b a p g).space; first = n; size = g.size }) (each_in (λ h. base (set_up_file b a p (endpoint d)) h.index h.kind ≡ first_of b a p h) g d.regions (bases b a can lawful has (record { path = p; decl = endpoint d }) d m refl) k)))
