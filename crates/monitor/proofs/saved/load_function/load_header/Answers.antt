use Rattle.std.{proofs.Common.{ℕ, drop, subst, sym}, specs.Prelude.IsSome}
use Rattle.model_images.specs.StepLaws.{header_steps}
use Rattle.model_registers.specs.Registers.{File}
use Rattle.bridge_forward.specs.Lending.{endpoint_nth}
use Rattle.monitor.proofs.{LoadSteps.{chained, go_on, its_endpoint}, LoadedParts.status_put}
use Rattle.monitor.proofs.saved.load_function.load_header.Goals as goal

pub host_index_of_slot-index-requires : goal.host_index_of_slot-index-requires
host_index_of_slot-index-requires c = (c.guest_config_write_bytes.ensures.becomes c.requires.keeps).holds

pub set_device_bytes_nth-requires-clause-there : goal.set_device_bytes_nth-requires-clause-there
set_device_bytes_nth-requires-clause-there c =
    let command = go_on c.requires.keeps (c.guest_config_write_bytes.ensures.becomes c.requires.keeps) in
    subst (λ (x : ℕ). IsSome (endpoint_nth c.guest_config_write_bytes.new.host.state.functions x)) (sym (c.host_index_of_slot-index.ensures command.holds)) (its_endpoint command)

pub guest_config_write_bytes-requires-2-clause-keeps : goal.guest_config_write_bytes-requires-2-clause-keeps
guest_config_write_bytes-requires-2-clause-keeps c =
    let command = go_on c.requires.keeps (c.guest_config_write_bytes.ensures.becomes c.requires.keeps) in
    go_on command (status_put command (c.host_index_of_slot-index.ensures command.holds) (drop 6 c.args.values.now) c.set_device_bytes_nth.ensures)

pub guest_config_write_bytes-requires-3-clause-keeps : goal.guest_config_write_bytes-requires-3-clause-keeps
guest_config_write_bytes-requires-3-clause-keeps c =
    let command = go_on c.requires.keeps (c.guest_config_write_bytes.ensures.becomes c.requires.keeps) in
    let status = go_on command (status_put command (c.host_index_of_slot-index.ensures command.holds) (drop 6 c.args.values.now) c.set_device_bytes_nth.ensures) in
    go_on status (c.guest_config_write_bytes-2.ensures.becomes status)

pub returns-clause-becomes : goal.returns-clause-becomes
returns-clause-becomes c = λ k.
    let one = c.guest_config_write_bytes.ensures.becomes k in
    let command = go_on k one in
    let two = status_put command (c.host_index_of_slot-index.ensures command.holds) (drop 6 c.args.values.now) c.set_device_bytes_nth.ensures in
    let status = go_on command two in
    let three = c.guest_config_write_bytes-2.ensures.becomes status in
    let timer = go_on status three in
    let file : File = header_steps c.args.values.now k.f.file in
    chained k one {next = file} (chained command two {next = file} (chained status three {next = file} (c.guest_config_write_bytes-3.ensures.becomes timer)))
