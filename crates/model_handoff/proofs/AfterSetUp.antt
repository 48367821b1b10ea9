-- What holds of guests over any handoff holds of them on a board that is set up.
use Rattle.std.proofs.Common.{arith}
use Rattle.model_set_up.specs.SetUp.{set_up_state}
use Rattle.model_guests.proofs.Isolation.{isolated_over, two_worlds_agree}
use Rattle.model_handoff.specs.AfterSetUp.{SetUpIsolates, SetUpTwoWorlds}

pub set_up_isolates : SetUpIsolates
set_up_isolates w lawful name script there = isolated_over w lawful (set_up_state w.board w.apertures) name script there

pub set_up_two_worlds : SetUpTwoWorlds
set_up_two_worlds name v w s t lawful_v lawful_w agree = grind (arith, two_worlds_agree)
