use Rattle.std.proofs.Common.{◌∙◌}
use Rattle.paths.specs.BusAddresses.{bus_address_of}
use Rattle.bus_scan.{specs.Probes.pref_reached, proofs.SizedFunctions.{pref_taken, pref_shown, pref_told}}
use Rattle.bus_scan.proofs.sizing.detect_pref_decode.Goals as goal

pub probe_with_all_ones-mask-requires-clause-taken : goal.probe_with_all_ones-mask-requires-clause-taken
probe_with_all_ones-mask-requires-clause-taken c = pref_taken c.args.host.now.state c.requires.registers (bus_address_of c.args.at) c.requires.bridge

pub returns-then-mask-eq0-clause-decode : goal.returns-then-mask-eq0-clause-decode
returns-then-mask-eq0-clause-decode c = (pref_told (pref_reached c.args.host.now.state.functions (bus_address_of c.args.at)) c.probe_with_all_ones-mask.result (c.probe_with_all_ones-mask.ensures.mask ∙ pref_shown c.args.host.now.state c.requires.registers (bus_address_of c.args.at) c.requires.bridge)).0 c.if-mask-eq0.true

pub returns-then-mask-eq0-2-clause-decode : goal.returns-then-mask-eq0-2-clause-decode
returns-then-mask-eq0-2-clause-decode c = (pref_told (pref_reached c.args.host.now.state.functions (bus_address_of c.args.at)) c.probe_with_all_ones-mask.result (c.probe_with_all_ones-mask.ensures.mask ∙ pref_shown c.args.host.now.state c.requires.registers (bus_address_of c.args.at) c.requires.bridge)).1 c.if-mask-eq0.false c.if-mask-eq0-2.true

pub returns-else-mask-eq0-2-clause-decode : goal.returns-else-mask-eq0-2-clause-decode
returns-else-mask-eq0-2-clause-decode c = (pref_told (pref_reached c.args.host.now.state.functions (bus_address_of c.args.at)) c.probe_with_all_ones-mask.result (c.probe_with_all_ones-mask.ensures.mask ∙ pref_shown c.args.host.now.state c.requires.registers (bus_address_of c.args.at) c.requires.bridge)).2 c.if-mask-eq0.false c.if-mask-eq0-2.false
