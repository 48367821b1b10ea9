use Rattle.std.proofs.Common.{◌≡◌, ◌+◌, ◌*◌, ◌∙◌, List, ℕ, length, ap₂, arith}
use Rattle.model_registers.specs.{Registers.{config, block}, Declarations.registers_of, EndpointTable.base_register}
use Rattle.bars.specs.Kinds.{kind_of}
use Rattle.images.{specs.{Puts.put, Shown.bytes_from}, proofs.{Puts.next, Runs.{region_length, run_length}}}
use Rattle.images.proofs.function_values.put_values_of_region_and_advance.Goals as goal

pub put_shown_and_advance-next-requires-clause-room : goal.put_shown_and_advance-next-requires-clause-room
put_shown_and_advance-next-requires-clause-room c = grind (arith, region_length)

pub put_shown_and_advance-requires-clause-room : goal.put_shown_and_advance-requires-clause-room
put_shown_and_advance-requires-clause-room c = grind (arith, region_length)

pub returns-clause-end : goal.returns-clause-end
returns-clause-end c = grind (arith, region_length)

pub returns-clause-bytes : goal.returns-clause-bytes
returns-clause-bytes c =
    let e = c.args.endpoint.now in
    let own = c.args.own.now in
    let r = c.args.region.now in
    let kind : kind_of c.kind-kind.result ≡ r.kind = grind arith in
    let width : c.from-width.result ≡ 4 * registers_of r.kind = grind arith in
    let off : 16 + 4 * c.from.result ≡ 0x10 + 4 * r.index = grind arith in
    let first : List ℕ = bytes_from e own (base_register r.index) (4 * registers_of r.kind) in
    let second : List ℕ = bytes_from e own (block r.index 0) (length r.cells) in
    let is_first : c.put_shown_and_advance-next.new.out ≡ put c.args.at first c.args.out.now =
    c.put_shown_and_advance-next.ensures.bytes ∙ ap₂ (λ (x y : ℕ). put c.args.at (bytes_from e own (config x) y) c.args.out.now) off width in
    let one = run_length e own (base_register r.index) (4 * registers_of r.kind) in
    let end : c.put_shown_and_advance-next.result ≡ c.args.at + length first = grind arith in
    let is_second : c.put_shown_and_advance.new.out ≡ put c.put_shown_and_advance-next.result second c.put_shown_and_advance-next.new.out = grind arith in
    let a = next c.args.at c.put_shown_and_advance-next.result first second c.args.out.now c.put_shown_and_advance-next.new.out is_first end c.requires.room in
    is_second ∙ a.bytes
