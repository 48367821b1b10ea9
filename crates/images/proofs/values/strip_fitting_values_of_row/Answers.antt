use Rattle.std.proofs.Common.{◌∙◌, ap, sym, arith}
use Rattle.model_images.specs.LoadedBytes.{after_values}
use Rattle.headers.specs.{declared.config_register.ConfigRegister.ConfigRegister, Rows.row_cells}
use Rattle.images.proofs.TakenValues.{all_taken, byte_missing, byte_refused, byte_taken}
use Rattle.images.proofs.values.strip_fitting_values_of_row.Goals as goal

pub returns-in_default-clause-refused : goal.returns-in_default-clause-refused
returns-in_default-clause-refused c = grind (arith, byte_missing)

pub returns-then-not-low_byte_can_hold-clause-refused : goal.returns-then-not-low_byte_can_hold-clause-refused
returns-then-not-low_byte_can_hold-clause-refused c =
    let l = c.loop-left.left in
    sym c.loop-left.invariant.same ∙ byte_refused l.off l.width l.value l.writable l.clearable c.in-Some.byte.now c.loop-left.tail.now c.in-Some.rest.now c.loop-left-test.true c.in-Some.ensures.cases.0 (sym c.low_byte_can_hold.ensures ∙ c.if-not-low_byte_can_hold.true)

pub loop-left-preserved : goal.loop-left-preserved
loop-left-preserved c =
    let l = c.loop-left.left in
    record {
      row = c.without_lowest_byte-left.ensures.row;
      same = ap (λ (row : ConfigRegister). after_values (row_cells row) c.in-Some.rest.now) c.without_lowest_byte-left.ensures.rest
          ∙ byte_taken l.off l.width l.value l.writable l.clearable c.in-Some.byte.now c.loop-left.tail.now c.in-Some.rest.now c.loop-left-test.true c.in-Some.ensures.cases.0 (sym c.low_byte_can_hold.ensures ∙ c.if-not-low_byte_can_hold.false)
          ∙ c.loop-left.invariant.same;
    }

pub returns-clause-left : goal.returns-clause-left
returns-clause-left c = grind (arith, all_taken)
