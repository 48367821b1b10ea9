-- What a guest is told is told of what it holds alone.
use Rattle.std.proofs.Common.{List, sym, ap, ap₂, ◌∙◌}
use Rattle.model_guests.specs.Lone.{LoneGuest}
use Rattle.model_images.{specs.Requests.{OwnInput, after_all_own}, proofs.Requests.isolated_by_requests}
use Rattle.board_told.specs.{Alone.{EqualGuests, EqualAlong}, WhyJson.explain_guest_access}

pub equal_guests : EqualGuests
equal_guests v w i j same form t = ap (λ (g : LoneGuest). explain_guest_access form g t) same

pub equal_along : EqualAlong
equal_along v w one other first second agree form t =
    ap (λ (g : LoneGuest). explain_guest_access form g t)
    ((isolated_by_requests v one agree.in_first first).holds
    ∙ ap₂ (λ (g : LoneGuest) (is : List OwnInput). after_all_own g is) agree.holds agree.inputs
    ∙ sym (isolated_by_requests w other agree.in_second second).holds)
