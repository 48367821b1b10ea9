use Rattle.std.proofs.Common.{◌++◌, ◌∙◌, List, ℕ, arith}
use Rattle.model_registers.specs.Registers.{config}
use Rattle.images.{proofs.{Puts.next, Runs.{header_length, run_length}}, specs.Shown.bytes_from}
use Rattle.images.proofs.function_values.put_non_bar_header_and_advance.Goals as goal

pub returns-clause-bytes : goal.returns-clause-bytes
returns-clause-bytes c =
    let e = c.args.endpoint.now in
    let own = c.args.own.now in
    let first : List ℕ = bytes_from e own (config 0) 15 in
    let second : List ℕ = bytes_from e own (config 0x2c) 4 in
    let third : List ℕ = bytes_from e own (config 0x3c) 4 in
    let one = run_length e own (config 0) 15 in
    let two = run_length e own (config 0x2c) 4 in
    let many = header_length e own in
    let a = next c.args.at c.put_shown_and_advance-next.result first (second ++ third) c.args.out.now c.put_shown_and_advance-next.new.out c.put_shown_and_advance-next.ensures.bytes (omega (arith, c.put_shown_and_advance-next.ensures.end)) (omega (arith, c.requires)) in
    let b = next c.put_shown_and_advance-next.result c.put_shown_and_advance-next-2.result second third c.put_shown_and_advance-next.new.out c.put_shown_and_advance-next-2.new.out c.put_shown_and_advance-next-2.ensures.bytes (omega (arith, c.put_shown_and_advance-next-2.ensures.end)) a.room in
    c.put_shown_and_advance.ensures.bytes ∙ b.bytes ∙ a.bytes
