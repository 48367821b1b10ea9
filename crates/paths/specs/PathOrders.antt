-- Path order as an `Ordering`, the form that sorting and binary search need.
--     part_cmp      by device, then by function
--     path_cmp      part by part, with each path before its extensions
use Rattle.std.specs.{declared.cmp.Ordering.Ordering, Ordering.{on, nat_cmp, then_cmp}, Cmp.Lexicographic.slice_cmp}
use Rattle.model_board.specs.Paths.{Part, Path}

abbrev pub part_cmp : Part → Part → Ordering
part_cmp = then_cmp (on (λ p. p.device) nat_cmp) (on (λ p. p.function) nat_cmp)

abbrev pub path_cmp : Path → Path → Ordering
path_cmp = slice_cmp part_cmp
