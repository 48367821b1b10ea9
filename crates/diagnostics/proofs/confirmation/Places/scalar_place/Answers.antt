use Rattle.std.proofs.Common.{Bor, option_map, map, ap, sym, subst, ◌∙◌}
use Rattle.toml.specs.{View.{view, table_view}, declared.value.Value.Value}
use Rattle.diagnostics.{specs.{LineNumbers.first_line, Marks.is_mark_of_place_at, Places.Stands}, proofs.Confirmed.is_mark_in}
use Rattle.diagnostics.proofs.confirmation.Places.scalar_place.Goals as goal

pub returns-then-not-is_mark_of_place_at : goal.returns-then-not-is_mark_of_place_at
returns-then-not-is_mark_of_place_at c =
    let it = c.args.self.now in let start = c.in_ok-start.start in
    let held = it.confirmed c.in-Some.marked c.in-Some.is in
    record {
      places = it.places.items;
      is_marked = held.0;
      stands = subst (λ ps. Stands ps start c.in_ok-known.known.1) c.deref.ensures.value c.in_ok-known.ensures.stands;
      is_line = c.in_ok-known.ensures.line it.text.now (c.deref-2.ensures.value ∙ held.2 ∙ ap (map (first_line it.text.now)) (sym c.deref.ensures.value));
      is_mark_now = is_mark_in it.text.now c.args.way.now start it.places.items (table_view c.in-Some.marked.table) held.1
          (ap (is_mark_of_place_at start) (sym c.value_at.ensures ∙ ap (option_map (λ (v : Bor Value). view v.now)) c.in_ok-value.was) ∙ sym c.if-is_mark_of_place_at.ensures);
      was_other = ap (is_mark_of_place_at start) (sym c.value_at-then-is_mark_of_place_at.ensures) ∙ sym c.if-not-is_mark_of_place_at.ensures;
    }
