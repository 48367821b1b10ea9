use Rattle.std.proofs.Common.{◌≡◌, map, drop}
use Rattle.board_file.specs.Schema.{field_of, form_at}
use Rattle.board_file.proofs.document.schema.form_at.Given as goal

abbrev pub invariant-search : goal.invariant-search
invariant-search l = form_at l.key (map field_of (drop l.field-index l.field-items)) ≡ form_at l.key (map field_of l.field-items)
