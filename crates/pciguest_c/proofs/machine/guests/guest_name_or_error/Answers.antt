-- The name at an index among the names is that of the guest at this index.
use Rattle.std.proofs.{Common.{List, slice_get, sym, ap, ◌∙◌}, lemmas.Bool.ltb-true}
use Rattle.arrayvec.specs.ArrayString.{ArrayString}
use Rattle.lists.proofs.Indices.{read_at, map_at, at_map}
use Rattle.model_guests.specs.{Text.Text, Guests.GuestNow}
use Rattle.monitor.proofs.Steps.{nth_there}
use Rattle.pciguest_c.proofs.machine.guests.guest_name_or_error.Goals as goal

pub returns-in-Some-clause-name : goal.returns-in-Some-clause-name
returns-in-Some-clause-name c =
    let w = c.args.machine.now.world in
    let i = c.args.guest in
    let name = c.in-Some.name.now in
    let stands = ap (λ (ns : List ArrayString). slice_get ns i) (sym c.deref.ensures.0)
    ∙ read_at c.deref.result.now i name (ltb-true _ _ (sym c.in-Some.ensures.lookup.0)) c.in-Some.ensures.lookup.1 in
    let named = ap (λ (ts : List Text). slice_get ts i) (sym c.names.ensures)
    ∙ map_at (λ (n : ArrayString). n.bytes) c.names.result.now.items i name stands in
    let one = at_map (λ (g : GuestNow). g.name) w.guests i name.bytes named in
    one.2 ∙ ap (λ (g : GuestNow). g.name) (nth_there w i one.0 one.1)
