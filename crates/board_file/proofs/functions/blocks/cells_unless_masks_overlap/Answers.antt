use Rattle.std.proofs.{Common.{◌≡◌, true, false, bit_and, eq-eqb, refl}, lemmas.Bool.ne_eqb}
use Rattle.board_file.{specs.Blocks.{is_apart, cell}, proofs.RepeatedBytes.{more_pass, one_fails, more_cells}}
use Rattle.board_file.proofs.functions.blocks.cells_unless_masks_overlap.Goals as goal

pub returns-in-Err : goal.returns-in-Err
returns-in-Err c =
    let both = bit_and c.repeated_byte_at-in-loop-i.result c.repeated_byte_at-in-loop-i-2.result in
    let here : is_apart c.args.rw.now c.args.w1c.now c.loop-i.i ≡ false =
    rw (c.repeated_byte_at-in-loop-i.ensures, c.repeated_byte_at-in-loop-i-2.ensures) at (ne_eqb both 0 (λ z. let h : false ≡ true = c.in-Err.ensures.taken.1 z in cc)) in
    one_fails (is_apart c.args.rw.now c.args.w1c.now) c.loop-i.i c.args.len _ c.loop-i-test.true here c.loop-i.invariant.0

pub loop-i-preserved : goal.loop-i-preserved
loop-i-preserved c =
    let both = bit_and c.repeated_byte_at-in-loop-i.result c.repeated_byte_at-in-loop-i-2.result in
    let here : is_apart c.args.rw.now c.args.w1c.now c.loop-i.i ≡ true =
    rw (c.repeated_byte_at-in-loop-i.ensures, c.repeated_byte_at-in-loop-i-2.ensures) at (eq-eqb both 0 (c.in-Ok.ensures.taken.0 refl)) in (
      more_pass (is_apart c.args.rw.now c.args.w1c.now) c.loop-i.i c.args.len _ c.loop-i-test.true here c.loop-i.invariant.0,
      rw (c.in_ok-push-in-Ok.ensures.items, c.in-Ok.ensures.cell, c.repeated_byte_at.ensures, c.repeated_byte_at-in-loop-i.ensures, c.repeated_byte_at-in-loop-i-2.ensures)
          (more_cells (cell c.args.reset.now c.args.rw.now c.args.w1c.now) c.loop-i.i c.args.len c.loop-i.cells.items _ c.loop-i-test.true c.loop-i.invariant.1),
    )
