use Rattle.std.proofs.Common.{◌≡◌, ◌≤◌, ◌+◌, length}
use Rattle.model_registers.specs.Registers.{config}
use Rattle.model_images.specs.StepLaws.{written_run}
use Rattle.monitor.{specs.{Counts.counts_of, Loadings.KeepsFunction}, proofs.LoadedParts.Passed}
use Rattle.monitor.proofs.saved.load_function.guest_config_write_bytes.Given as goal

-- what is left finishes what is asked
abbrev pub invariant-loop-byte : goal.invariant-loop-byte
invariant-loop-byte l = record {
  passed : (k : KeepsFunction l.fn.host l.fn.guests l.guest l.slot) → Passed k (written_run l.bytes (config l.first) k.f.file) (written_run l.left (config l.off)) l.host l.guests;
  within : l.off + length l.left ≤ 255;
  counts : counts_of l.guests ≡ counts_of l.fn.guests;
}

abbrev pub decreases-loop-byte : goal.decreases-loop-byte
decreases-loop-byte l = length l.left
