use Rattle.std.{proofs.Common.{◌≤◌, ◌<◌, ◌^◌, Option, arith}, specs.Option.IfSome}
use Rattle.model_registers.specs.Apertures.{Aperture, IsPrefOption}
use Rattle.window_packing.proofs.pool_placement.aperture_of.Goals as goal

pub returns-in-Mem-clause-range : goal.returns-in-Mem-clause-range
returns-in-Mem-clause-range c = grind arith

of_pref : (mem : Aperture) (o : Option Aperture) → IsPrefOption mem o → IfSome o (λ a. (a.first ≤ a.last) × (a.last < 2 ^ 63))
of_pref mem o h = grind arith

pub returns-in-Pref-clause-range : goal.returns-in-Pref-clause-range
returns-in-Pref-clause-range c = grind (arith, of_pref)
