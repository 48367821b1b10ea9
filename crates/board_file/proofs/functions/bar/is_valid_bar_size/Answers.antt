use Rattle.std.proofs.{Common.{sym, ◌∙◌, w64}, Math.Facts.to_z-of_z}
use Rattle.board_file.proofs.ListTests.{size_test}
use Rattle.board_file.proofs.functions.bar.is_valid_bar_size.Goals as goal

pub returns-then-size-ge0 : goal.returns-then-size-ge0
returns-then-size-ge0 c =
    let same = to_z-of_z {w = w64} {z = c.args.size} c.ranges.size in
    let natural = rw same at c.if-size-ge0.true in
    let size = rw same at c.unsigned_abs.ensures.value in
    let taken = rw size at c.new.ensures.taken in
    size_test _ _ _ natural (λ k. taken.0 (sym c.is_ok.ensures.value ∙ k)) (λ k. c.is_ok.ensures.value ∙ taken.1 k)
