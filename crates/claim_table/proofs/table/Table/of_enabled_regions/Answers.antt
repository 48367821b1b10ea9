use Rattle.std.proofs.Common.{◌≡◌, List, map, ap, subst, ◌∙◌, arith}
use Rattle.model_registers.specs.Decoding.{Space, io, memory}
use Rattle.model_board.specs.Routing.{RoutingRow}
use Rattle.claim_table.{specs.{declared.region_entry.RegionEntry.RegionEntry, Entries.open_entries}, proofs.{Listing.IsSortedOf, Gathering.{open_are, fits_open}}}
use Rattle.claim_table.proofs.table.Table.of_enabled_regions.Goals as goal

of_rows : (space : Space) (read rows : List RoutingRow) (es : List RegionEntry) → read ≡ rows → IsSortedOf (open_entries space 0 read) es → IsSortedOf (open_entries space 0 rows) es
of_rows space read rows es same h = subst (λ (xs : List RoutingRow). IsSortedOf (open_entries space 0 xs) es) same h

pub invariant_of-result : goal.invariant_of-result
invariant_of-result c =
    let rows = c.in_ok-rows.rows.items in
    let paths = c.in_ok-copy_paths.field-0.items in
    let paths_are = c.in_ok-copy_paths.ensures ∙ ap (map (λ (r : RoutingRow). r.path)) c.deref.ensures.value in (
      open_are c.args.host.now c.requires.board c.requires.order paths rows c.in_ok-rows.ensures.rows paths_are io c.in_ok-enabled_regions_sorted.field-0.items
          (of_rows io _ _ _ c.deref-2.ensures.value (record { all = c.in_ok-enabled_regions_sorted.ensures.all; rising = c.in_ok-enabled_regions_sorted.ensures.rising })),
      open_are c.args.host.now c.requires.board c.requires.order paths rows c.in_ok-rows.ensures.rows paths_are memory c.in_ok-enabled_regions_sorted-2.field-0.items
          (of_rows memory _ _ _ c.deref-3.ensures.value (record { all = c.in_ok-enabled_regions_sorted-2.ensures.all; rising = c.in_ok-enabled_regions_sorted-2.ensures.rising })),
    )

pub returns : goal.returns
returns c = grind (arith, fits_open, of_rows)
