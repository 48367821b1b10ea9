use Rattle.std.{proofs.{Common.{◌+◌, ◌*◌, ◌∙◌, ℕ, List, ap, ap₂, drop, take, subst, sym, arith}, lemmas.List.drop-drop}, specs.Prelude.IsSome}
use Rattle.model_images.specs.StepLaws.{put_run, written_run}
use Rattle.model_registers.specs.Registers.{block, config}
use Rattle.bridge_forward.specs.Lending.{endpoint_nth}
use Rattle.monitor.{specs.Loadings.Becomes, proofs.{LoadSteps.{IsPut, go_on, its_endpoint}, LoadedParts.{low_register, narrow, region_done, region_told, some_region, told_cells, told_width}}}
use Rattle.monitor.proofs.saved.load_function.load_region_and_advance.Goals as goal

pub region_bar_width_and_cell_count-reg-requires : goal.region_bar_width_and_cell_count-reg-requires
region_bar_width_and_cell_count-reg-requires c = some_region c.requires.0 (c.host_index_of_slot-index.ensures c.requires.0.holds) c.args.region c.requires.1 c.requires.2

pub overflow_mul-reg : goal.overflow_mul-reg
overflow_mul-reg c =
    let k = c.requires.0 in
    let is = region_told k (c.host_index_of_slot-index.ensures k.holds) c.args.region c.requires.1 c.requires.2 c.region_bar_width_and_cell_count-reg.ensures in
    omega (arith, low_register k c.args.region c.requires.1 c.requires.2 is)

pub overflow_add-reg : goal.overflow_add-reg
overflow_add-reg c =
    let k = c.requires.0 in
    let is = region_told k (c.host_index_of_slot-index.ensures k.holds) c.args.region c.requires.1 c.requires.2 c.region_bar_width_and_cell_count-reg.ensures in
    omega (arith, low_register k c.args.region c.requires.1 c.requires.2 is)

pub split_at-requires : goal.split_at-requires
split_at-requires c =
    let k = c.requires.0 in
    let is = region_told k (c.host_index_of_slot-index.ensures k.holds) c.args.region c.requires.1 c.requires.2 c.region_bar_width_and_cell_count-reg.ensures in
    omega (arith, told_width k c.args.region c.requires.1 c.requires.2 is, c.requires.3)

pub guest_config_write_bytes-requires-clause-within : goal.guest_config_write_bytes-requires-clause-within
guest_config_write_bytes-requires-clause-within c =
    let k = c.requires.0 in
    let is = region_told k (c.host_index_of_slot-index.ensures k.holds) c.args.region c.requires.1 c.requires.2 c.region_bar_width_and_cell_count-reg.ensures in
    omega (arith, low_register k c.args.region c.requires.1 c.requires.2 is, narrow k c.args.region c.requires.1 c.requires.2 is, c.split_at.ensures.front_len)

pub split_at-requires-2 : goal.split_at-requires-2
split_at-requires-2 c =
    let k = c.requires.0 in
    let is = region_told k (c.host_index_of_slot-index.ensures k.holds) c.args.region c.requires.1 c.requires.2 c.region_bar_width_and_cell_count-reg.ensures in
    omega (arith, told_width k c.args.region c.requires.1 c.requires.2 is, told_cells k c.args.region c.requires.1 c.requires.2 is, c.requires.3, c.split_at.ensures.back_len)

pub host_index_of_slot-index-requires-2 : goal.host_index_of_slot-index-requires-2
host_index_of_slot-index-requires-2 c = (c.guest_config_write_bytes.ensures.becomes c.requires.0).holds

pub set_device_bytes_nth-requires-clause-there : goal.set_device_bytes_nth-requires-clause-there
set_device_bytes_nth-requires-clause-there c =
    let k = go_on c.requires.0 (c.guest_config_write_bytes.ensures.becomes c.requires.0) in
    subst (λ (x : ℕ). IsSome (endpoint_nth c.guest_config_write_bytes.new.host.state.functions x)) (sym (c.host_index_of_slot-index-2.ensures k.holds)) (its_endpoint k)

pub returns-clause-becomes : goal.returns-clause-becomes
returns-clause-becomes c = λ k r there enough.
    let told = c.region_bar_width_and_cell_count-reg.result in
    let is = region_told k (c.host_index_of_slot-index.ensures k.holds) c.args.region r there c.region_bar_width_and_cell_count-reg.ensures in
    let written = subst (λ (vs : List ℕ). Becomes k (written_run vs (config (0x10 + 4 * told.0)) k.f.file) c.guest_config_write_bytes.new.host c.guest_config_write_bytes.new.guests) c.split_at.ensures.front (c.guest_config_write_bytes.ensures.becomes k) in
    let put = subst (λ (vs : List ℕ). IsPut c.guest_config_write_bytes.new.host c.host_index_of_slot-index-2.result (put_run vs (block told.0 0)) c.set_device_bytes_nth.new.host)
    (c.split_at-2.ensures.front ∙ ap (take told.2) c.split_at.ensures.back) c.set_device_bytes_nth.ensures in
    region_done k c.args.region r there is c.args.values.now written (c.host_index_of_slot-index-2.ensures written.holds) put

pub returns-clause-left : goal.returns-clause-left
returns-clause-left c = λ k r there enough.
    let told = c.region_bar_width_and_cell_count-reg.result in
    let is = region_told k (c.host_index_of_slot-index.ensures k.holds) c.args.region r there c.region_bar_width_and_cell_count-reg.ensures in
    c.split_at-2.ensures.back ∙ ap (drop told.2) c.split_at.ensures.back ∙ drop-drop told.2 told.1 c.args.values.now
    ∙ ap₂ (λ (a b : ℕ). drop (a + b) c.args.values.now) (told_width k c.args.region r there is) (told_cells k c.args.region r there is)
