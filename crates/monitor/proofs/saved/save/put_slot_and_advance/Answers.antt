use Rattle.std.proofs.Common.{◌≤◌, ◌+◌, ◌∙◌, [], ◌∷◌, List, ℕ, length, ap, subst, sym, arith}
use Rattle.images.{specs.{Puts.put, Shown.{function_bytes, seen}}, proofs.Puts.next}
use Rattle.monitor.{specs.{ShownImages.HasPlaces, Views.slot_shown}, proofs.SavedImages.{empty_bytes, filled_bytes, places_seen}}
use Rattle.monitor.proofs.saved.save.put_slot_and_advance.Goals as goal

pub put_bytes_and_advance-next-requires : goal.put_bytes_and_advance-next-requires
put_bytes_and_advance-next-requires c =
    let o = slot_shown c.args.host.now.state.functions c.args.slot.now in
    let many = ap (λ (xs : List ℕ). length xs) (filled_bytes o (seen c.in-Some.endpoint.now c.in-Some.own.now) c.in-Some.ensures) in
    omega (arith, c.requires.room)

pub put_function_and_advance-requires-clause-places : goal.put_function_and_advance-requires-clause-places
put_function_and_advance-requires-clause-places c = places_seen c.in-Some.endpoint.now c.in-Some.own.now (subst HasPlaces (sym c.in-Some.ensures) c.requires.places)

pub put_function_and_advance-requires-clause-room : goal.put_function_and_advance-requires-clause-room
put_function_and_advance-requires-clause-room c =
    let f = seen c.in-Some.endpoint.now c.in-Some.own.now in
    let whole = filled_bytes (slot_shown c.args.host.now.state.functions c.args.slot.now) f c.in-Some.ensures in
    let room = subst (λ (xs : List ℕ). c.args.at + length xs ≤ length c.args.out.now) (sym whole) c.requires.room in
    (next c.args.at c.put_bytes_and_advance-next.result (1 ∷ []) (function_bytes f) c.args.out.now c.put_bytes_and_advance-next.new.out c.put_bytes_and_advance-next.ensures.bytes c.put_bytes_and_advance-next.ensures.end room).room

pub returns-in-Some-clause-bytes : goal.returns-in-Some-clause-bytes
returns-in-Some-clause-bytes c =
    let f = seen c.in-Some.endpoint.now c.in-Some.own.now in
    let whole = filled_bytes (slot_shown c.args.host.now.state.functions c.args.slot.now) f c.in-Some.ensures in
    let room = subst (λ (xs : List ℕ). c.args.at + length xs ≤ length c.args.out.now) (sym whole) c.requires.room in
    let s = next c.args.at c.put_bytes_and_advance-next.result (1 ∷ []) (function_bytes f) c.args.out.now c.put_bytes_and_advance-next.new.out c.put_bytes_and_advance-next.ensures.bytes c.put_bytes_and_advance-next.ensures.end room in
    c.put_function_and_advance.ensures.bytes ∙ s.bytes ∙ ap (λ (xs : List ℕ). put c.args.at xs c.args.out.now) whole

pub returns-in-Some-clause-end : goal.returns-in-Some-clause-end
returns-in-Some-clause-end c =
    let f = seen c.in-Some.endpoint.now c.in-Some.own.now in
    let whole = ap (λ (xs : List ℕ). length xs) (filled_bytes (slot_shown c.args.host.now.state.functions c.args.slot.now) f c.in-Some.ensures) in
    omega (arith, c.put_function_and_advance.ensures.end, c.put_bytes_and_advance-next.ensures.end)

pub put_bytes_and_advance-requires : goal.put_bytes_and_advance-requires
put_bytes_and_advance-requires c =
    let many = ap (λ (xs : List ℕ). length xs) (empty_bytes (slot_shown c.args.host.now.state.functions c.args.slot.now) c.in-None.ensures) in
    omega (arith, c.requires.room)

pub returns-in-None-clause-bytes : goal.returns-in-None-clause-bytes
returns-in-None-clause-bytes c =
    c.put_bytes_and_advance.ensures.bytes ∙ ap (λ (xs : List ℕ). put c.args.at xs c.args.out.now) (empty_bytes (slot_shown c.args.host.now.state.functions c.args.slot.now) c.in-None.ensures)

pub returns-in-None-clause-end : goal.returns-in-None-clause-end
returns-in-None-clause-end c =
    let many = ap (λ (xs : List ℕ). length xs) (empty_bytes (slot_shown c.args.host.now.state.functions c.args.slot.now) c.in-None.ensures) in
    omega (arith, c.put_bytes_and_advance.ensures.end)
