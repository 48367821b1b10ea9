-- What is still to write gives what the writes of all bases give.
use Rattle.std.{proofs.Common.{◌≡◌, drop}, specs.Prelude.flat_map}
use Rattle.bars.specs.Slots.{bases_from}
use Rattle.paths.specs.BusAddresses.{bus_address_of}
use Rattle.window_packing.specs.WordWrites.{after_words, base_words, host_after}
use Rattle.window_packing.proofs.programming.write_bars_and_command.Given as goal

abbrev pub invariant-loop-index : goal.invariant-loop-index
invariant-loop-index l =
    host_after (after_words (bus_address_of l.at) (flat_map base_words (bases_from l.index (drop l.index l.bases))) l.host.state.functions) l.host
    ≡ host_after (after_words (bus_address_of l.at) (flat_map base_words (bases_from 0 l.bases)) l.fn.host.state.functions) l.fn.host
