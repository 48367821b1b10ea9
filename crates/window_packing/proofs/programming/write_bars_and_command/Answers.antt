use Rattle.std.{proofs.Common.{ap, sym, ◌∙◌, arith}, specs.Prelude.flat_map}
use Rattle.bars.specs.Slots.{bases_from}
use Rattle.paths.specs.BusAddresses.{bus_address_of}
use Rattle.window_packing.{specs.WordWrites.{word, base_words, after_word, after_words, host_after}, proofs.HostWrites.{last_word, none_left}}
use Rattle.window_packing.proofs.programming.write_bars_and_command.Goals as goal

pub returns : goal.returns
returns c =
    let h = c.loop-index.host in
    let at = bus_address_of c.args.at in
    last_word at (word 0x04 3 c.args.command) (flat_map base_words (bases_from 0 c.args.bases.now)) c.args.host.now h c.write_config_word.new.host
    (ap (λ ws. host_after (after_words at ws h.state.functions) h) (sym (none_left c.loop-index.index c.args.bases.now (omega arith))) ∙ c.loop-index.invariant)
    (c.write_config_word.ensures ∙ ap (λ n. host_after (after_word at (word 0x04 3 n) h.state.functions) h) c.from-2.ensures)
