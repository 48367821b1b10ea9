-- The bases that placement gives fit their registers.
use Rattle.std.proofs.Common.{◌≡◌, ◌%◌, ◌<◌, refl, subst}
use Rattle.lists.{specs.Elements.{Each, IsIn}, proofs.Members.{each_in, each_from}}
use Rattle.model_registers.{specs.{Declarations.{Region, IsLawfulRegion, HasLawfulRegions, Endpoint}, EndpointTable.IsLawfulBase, Apertures.Apertures}, proofs.Bases.whole_bound}
use Rattle.model_board.specs.Board.{Board, Row, endpoint}
use Rattle.model_set_up.{specs.{Pools.bridges_above, Layout.{LayoutRow, IsAligned, IsLawful, layout}, PlacementLaws.{HasRows, region_row}, SetUp.first_of, SetUpWrites.placed_base, UniqueClaimant.CanBePlaced}, proofs.{LawfulPlacement.layout_is_lawful, DeclaredRows.one_row_per_region_or_window, PlacedRegions.{region_there, lawful_regions}, PlacedReads.{InAperture, fits_register}, SetUpRegisters.FitsRegister}}

module _ (b : Board) (a : Apertures) (can : CanBePlaced b a) where
  lawful : IsLawful b a (layout b a)
  lawful = layout_is_lawful b a can.places can.declarations can.room

  has : HasRows b a
  has = one_row_per_region_or_window b a can.places can.declarations

  base_fits : (r : Row) (e : Endpoint) → IsIn r b → r.decl ≡ endpoint e → (g : Region) → IsIn g e.regions → IsLawfulBase (placed_base b a r.path g)
  base_fits r e m decl_is g k =
      let regions : HasLawfulRegions e.regions = lawful_regions b can.declarations r e m decl_is in
      let region : IsLawfulRegion g = each_in IsLawfulRegion g e.regions regions.each k in
      let there : IsIn (region_row b a r.path g) (layout b a) = region_there b a has r e g m decl_is k in
      let aligned : first_of b a r.path g % g.size ≡ 0 = each_in (λ (l : LayoutRow). IsAligned l l.what) (region_row b a r.path g) (layout b a) lawful.aligned there in
      let fits : FitsRegister g.kind (first_of b a r.path g) =
      fits_register a (bridges_above b r.path) g (region_row b a r.path g) can.apertures region refl aligned
      (each_in (λ (l : LayoutRow). InAperture a l.pool l) (region_row b a r.path g) (layout b a) lawful.in_apertures there) in
      record { size_is_lawful = region.size_is_lawful; aligned = aligned; fits = subst (λ n. first_of b a r.path g < n) (whole_bound g.kind) fits.small }

  pub bases_fit : (r : Row) (e : Endpoint) → IsIn r b → r.decl ≡ endpoint e → Each (λ g. IsLawfulBase (placed_base b a r.path g)) e.regions
  bases_fit r e m decl_is = each_from (λ g. IsLawfulBase (placed_base b a r.path g)) e.regions (base_fits r e m decl_is)
