use Rattle.std.proofs.Common.{List, ℕ, length, ap, subst, sym}
use Rattle.monitor.{specs.{ShownImages.HasPlaces, Views.slot_shown}, proofs.SavedImages.{empty_bytes, places_seen, slot_size_is}}
use Rattle.monitor.proofs.saved.save.saved_slot_size.Goals as goal

pub saved_function_size-requires : goal.saved_function_size-requires
saved_function_size-requires c = places_seen c.in-Some.endpoint.now c.in-Some.field-0-1.now (subst HasPlaces (sym c.in-Some.ensures) c.requires)

pub returns-in-Some-clause-size : goal.returns-in-Some-clause-size
returns-in-Some-clause-size c = slot_size_is (slot_shown c.args.host.now.state.functions c.args.slot.now) c.in-Some.endpoint.now c.in-Some.field-0-1.now c.saved_function_size.result c.in-Some.ensures c.saved_function_size.ensures.size

pub returns-in-None-clause-size : goal.returns-in-None-clause-size
returns-in-None-clause-size c = ap (λ (xs : List ℕ). length xs) (empty_bytes (slot_shown c.args.host.now.state.functions c.args.slot.now) c.in-None.ensures)
