use Rattle.std.proofs.Common.{◌≡◌, ◌≤◌, ◌<◌, ◌+◌, ◌^◌, length}
use Rattle.headers.specs.{declared.place.Place.TheVariants.Cfg, Places.place_of}
use Rattle.images.specs.{Puts.put, Shown.bytes_from}
use Rattle.images.proofs.function_values.put_shown_and_advance.Given as goal

-- what is left finishes what is asked
abbrev pub invariant-loop-left : goal.invariant-loop-left
invariant-loop-left l = record {
  config : l.place ≡ Cfg → l.off + l.left ≤ 256;
  low : l.off + l.left < 2 ^ 63;
  room : l.next + l.left ≤ length l.out;
  end : l.next + l.left ≡ l.at + l.count;
  bytes : put l.next (bytes_from l.endpoint l.own (place_of l.place l.off) l.left) l.out ≡ put l.at (bytes_from l.endpoint l.own (place_of l.place l.first) l.count) l.fn.out;
}

abbrev pub decreases-loop-left : goal.decreases-loop-left
decreases-loop-left l = l.left
