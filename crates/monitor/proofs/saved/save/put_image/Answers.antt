use Rattle.std.proofs.Common.{◌+◌, ◌∙◌, List, Option, ℕ, length, ap, sym, subst, arith}
use Rattle.images.specs.Puts.{put}
use Rattle.model_images.specs.Layouts.{le_bytes}
use Rattle.monitor.{specs.{declared.guest.AssignedFunction.AssignedFunction, ShownImages.{HavePlaces, slots_image}}, proofs.SavedImages.{image_put, size_is}}
use Rattle.monitor.proofs.saved.save.put_image.Goals as goal

pub put_bytes_and_advance-next-requires : goal.put_bytes_and_advance-next-requires
put_bytes_and_advance-next-requires c =
    let whole = size_is c.args.host.now.state.functions c.args.guest.now in
    let same = ap (λ (xs : List ℕ). length xs) c.image_header_bytes.ensures in
    omega (arith, c.requires.room)

pub put_bytes_and_advance-next-requires-2 : goal.put_bytes_and_advance-next-requires-2
put_bytes_and_advance-next-requires-2 c =
    let whole = size_is c.args.host.now.state.functions c.args.guest.now in
    let same = ap (λ (xs : List ℕ). length xs) c.image_header_bytes.ensures in
    let as_many = ap (λ (xs : List ℕ). length xs) c.u32_to_le_bytes.ensures in
    grind arith

pub put_slots_and_advance-requires-clause-places : goal.put_slots_and_advance-requires-clause-places
put_slots_and_advance-requires-clause-places c = subst (HavePlaces c.args.host.now.state.functions) (sym c.deref.ensures.value) c.requires.places

pub put_slots_and_advance-requires-clause-room : goal.put_slots_and_advance-requires-clause-room
put_slots_and_advance-requires-clause-room c =
    let whole = size_is c.args.host.now.state.functions c.args.guest.now in
    let same = ap (λ (xs : List ℕ). length xs) c.image_header_bytes.ensures in
    let as_many = ap (λ (xs : List ℕ). length xs) c.u32_to_le_bytes.ensures in
    let slots = ap (λ (os : List (Option AssignedFunction)). length (slots_image c.args.host.now.state.functions os)) c.deref.ensures.value in
    grind arith

pub returns : goal.returns
returns c =
    let fs = c.args.host.now.state.functions in
    let latch = c.u32_to_le_bytes.ensures ∙ ap (le_bytes 4) c.value.ensures in
    image_put fs c.args.guest.now c.put_bytes_and_advance-next.result c.put_bytes_and_advance-next-2.result c.args.out.now c.put_bytes_and_advance-next.new.out c.put_bytes_and_advance-next-2.new.out c.put_slots_and_advance.new.out c.requires.room
    (c.put_bytes_and_advance-next.ensures.bytes ∙ ap (λ (xs : List ℕ). put 0 xs c.args.out.now) c.image_header_bytes.ensures)
    (c.put_bytes_and_advance-next.ensures.end ∙ ap (λ (xs : List ℕ). 0 + length xs) c.image_header_bytes.ensures)
    (c.put_bytes_and_advance-next-2.ensures.bytes ∙ ap (λ (xs : List ℕ). put c.put_bytes_and_advance-next.result xs c.put_bytes_and_advance-next.new.out) latch)
    (c.put_bytes_and_advance-next-2.ensures.end ∙ ap (λ (xs : List ℕ). c.put_bytes_and_advance-next.result + length xs) latch)
    (c.put_slots_and_advance.ensures.bytes ∙ ap (λ (os : List (Option AssignedFunction)). put c.put_bytes_and_advance-next-2.result (slots_image fs os) c.put_bytes_and_advance-next-2.new.out) c.deref.ensures.value)
