-- The target of an address, given by the index of its endpoint in the list of functions.
--     located_claim fs o      the claim, with the index replaced by the path
use Rattle.std.specs.{Prelude.{List, Option, None, option_map, slice_get}, Option.option_map_or}
use Rattle.model_board.specs.{State.BoardFunction, Claims.{Claim, claim_at}}
use Rattle.bridge_forward.specs.declared.bus.BarOffset.{BarOffset}

abbrev pub located_claim : List BoardFunction → Option BarOffset → Option Claim
located_claim fs o =
    option_map_or (λ (l : BarOffset).
    option_map (λ (f : BoardFunction). claim_at f.path (record { index = l.region; offset = l.offset }))
    (slice_get fs l.index)) o None
