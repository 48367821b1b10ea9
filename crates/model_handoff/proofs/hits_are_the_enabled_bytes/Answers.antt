use Rattle.model_handoff.proofs.{Inside.{hit_is_inside, inside_is_hit}, RegionBytes.bytes_by_address}
use Rattle.model_handoff.proofs.hits_are_the_enabled_bytes.Goals as goal

pub returns : goal.returns
returns c = record { inside = hit_is_inside; hit = inside_is_hit; bytes = bytes_by_address }
