use Rattle.std.{proofs.Common.{◌≡◌, ◌<◌, ◌+◌, ℕ, List, ap, length, true, subst, sym, arith}, specs.Prelude.IsSome}
use Rattle.model_images.specs.StepLaws.{put_run}
use Rattle.model_registers.specs.{DeviceBytes.is_device_byte, Registers.config}
use Rattle.bridge_forward.specs.Lending.{endpoint_nth}
use Rattle.monitor.proofs.{LoadSteps.{IsPut, go_on, its_endpoint}, LoadedParts.{AtBlock, block_fits, block_low, block_own, block_told, first_block, last_block, last_left, next_block, some_block, told_blocks}}
use Rattle.monitor.proofs.saved.load_function.load_blocks_and_advance.Goals as goal

pub loop-block-init : goal.loop-block-init
loop-block-init c = record {
  at = λ k enough. first_block k enough (told_blocks k (c.host_index_of_slot-index.ensures k.holds) c.block_count-count.ensures);
  low = omega arith;
}

pub block_offset_and_length-off-requires : goal.block_offset_and_length-off-requires
block_offset_and_length-off-requires c =
    let at = c.loop-block.invariant.at c.requires.0 c.requires.1 in
    let k = go_on c.requires.0 at.passed.becomes in
    let many = at.many in
    some_block k (c.host_index_of_slot-index.ensures k.holds) c.loop-block.block (omega arith)

pub split_at-requires : goal.split_at-requires
split_at-requires c =
    let at = c.loop-block.invariant.at c.requires.0 c.requires.1 in
    let k = go_on c.requires.0 at.passed.becomes in
    let many = at.many in
    let block = block_told k (c.host_index_of_slot-index.ensures k.holds) c.loop-block.block (omega arith) c.block_offset_and_length-off.ensures in
    block_fits c.requires.0 at block

pub set_device_bytes_nth-requires-clause-there : goal.set_device_bytes_nth-requires-clause-there
set_device_bytes_nth-requires-clause-there c =
    let at = c.loop-block.invariant.at c.requires.0 c.requires.1 in
    let k = go_on c.requires.0 at.passed.becomes in
    subst (λ (x : ℕ). IsSome (endpoint_nth c.loop-block.host.state.functions x)) (sym (c.host_index_of_slot-index.ensures k.holds)) (its_endpoint k)

pub set_device_bytes_nth-requires-clause-own : goal.set_device_bytes_nth-requires-clause-own
set_device_bytes_nth-requires-clause-own c = λ j low.
    let at = c.loop-block.invariant.at c.requires.0 c.requires.1 in
    let k = go_on c.requires.0 at.passed.becomes in
    let many = at.many in
    let block = block_told k (c.host_index_of_slot-index.ensures k.holds) c.loop-block.block (omega arith) c.block_offset_and_length-off.ensures in
    let within = subst (λ (vs : List ℕ). j < length vs) c.split_at.ensures.front low in
    subst (λ (x : ℕ). is_device_byte (config (x + j)) ≡ true) (sym c.from.ensures) (block_own c.requires.0 at block j within)

pub set_device_bytes_nth-requires-clause-low : goal.set_device_bytes_nth-requires-clause-low
set_device_bytes_nth-requires-clause-low c =
    let at = c.loop-block.invariant.at c.requires.0 c.requires.1 in
    let k = go_on c.requires.0 at.passed.becomes in
    let many = at.many in
    let block = block_told k (c.host_index_of_slot-index.ensures k.holds) c.loop-block.block (omega arith) c.block_offset_and_length-off.ensures in
    let low = block_low c.requires.0 at block in
    let front = ap (λ (vs : List ℕ). length vs) c.split_at.ensures.front in
    omega (arith, c.from.ensures)

pub loop-block-preserved : goal.loop-block-preserved
loop-block-preserved c = record {
  at = λ k enough.
      let at = c.loop-block.invariant.at k enough in
      let now = go_on k at.passed.becomes in
      let many = at.many in
      let is = c.host_index_of_slot-index.ensures now.holds in
      let block = block_told now is c.loop-block.block (omega arith) c.block_offset_and_length-off.ensures in
      let put = subst (λ (x : ℕ). IsPut c.loop-block.host c.host_index_of_slot-index.result (put_run c.split_at.result.0.now (config x)) c.set_device_bytes_nth.new.host) c.from.ensures c.set_device_bytes_nth.ensures in
      let put_front = subst (λ (vs : List ℕ). IsPut c.loop-block.host c.host_index_of_slot-index.result (put_run vs (config c.block_offset_and_length-off.result.0)) c.set_device_bytes_nth.new.host) c.split_at.ensures.front put in
      subst (λ (vs : List ℕ). AtBlock k c.args.values.now (c.loop-block.block + 1) c.block_count-count.result vs c.set_device_bytes_nth.new.host c.args.guests.now) (sym c.split_at.ensures.back)
      (next_block k at block is put_front);
  low = omega arith;
}

pub returns-clause-becomes : goal.returns-clause-becomes
returns-clause-becomes c = λ k enough. last_block k (c.loop-block.invariant.at k enough) (omega arith)

pub returns-clause-left : goal.returns-clause-left
returns-clause-left c = λ k enough. last_left k (c.loop-block.invariant.at k enough) (omega arith)
