use Rattle.std.proofs.{Common.{is_some, arith}, lemmas.{Grind.common_steps, Bool.Decides.nat_tests}}
use Rattle.toml.{specs.Data.{as_integer, as_str, as_table}, proofs.Views.view-Array}
use Rattle.board_file.proofs.Walk.{all_view, length_view}
use Rattle.board_file.proofs.document.schema.has_form.Goals as goal

pub returns-then-len-eq2 : goal.returns-then-len-eq2
returns-then-len-eq2 c = rw (c.in-Pair.is, c.in-Array.is, view-Array c.in-Array.items, all_view (λ d. is_some (as_integer d)) c.in-Array.items.items, length_view c.in-Array.items.items) (grind (arith, nat_tests, common_steps))

pub returns-else-len-eq2 : goal.returns-else-len-eq2
returns-else-len-eq2 c = rw (c.in-Pair.is, c.in-Array.is, view-Array c.in-Array.items, length_view c.in-Array.items.items) (grind (arith, nat_tests, common_steps))

pub returns-in-Array-value : goal.returns-in-Array-value
returns-in-Array-value c = rw (c.in-Texts.is, c.in-Array-value.is, view-Array c.in-Array-value.items, all_view (λ d. is_some (as_str d)) c.in-Array-value.items.items) c.all_texts.ensures

pub returns-in-Array-value-2 : goal.returns-in-Array-value-2
returns-in-Array-value-2 c = rw (c.in-Tables.is, c.in-Array-value-2.is, view-Array c.in-Array-value-2.items, all_view (λ d. is_some (as_table d)) c.in-Array-value-2.items.items) c.all_tables.ensures
