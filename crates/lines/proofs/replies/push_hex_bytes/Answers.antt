use Rattle.std.proofs.Common.{◌/◌, ◌%◌, ap, arith, ◌∙◌}
use Rattle.lines.proofs.{HexDigits.{Written, byte_written, byte_passed, nothing_written, all_written}, replies.push_hex_bytes.Goals.{then-width-gt3, else-width-gt3, then-width-gt2, else-width-gt2, then-width-gt1, else-width-gt1}}
use Rattle.lines.proofs.replies.push_hex_bytes.Goals as goal

pub returns-then-width-gt0-clause-items : goal.returns-then-width-gt0-clause-items
returns-then-width-gt0-clause-items c =
    let n = c.args.value in
    let width = c.args.width in
    let start = c.args.text.now.items in
    let at_first : Written 4 width n start start = nothing_written width n start c.requires.few in
    let after_3 : Written 3 width n start c.if-width-gt3.text.items = elim c.if-width-gt3.branch [
      | then-width-gt3 w ↦ byte_written 3 width n (n / 16777216) start start _ w.if-width-gt3.true
          (omega arith) (ap (λ t. t.items) w.text-is ∙ w.push_hex_byte.ensures.items) at_first
      | else-width-gt3 w ↦ byte_passed 3 width n start start _ w.if-width-gt3.false
          (ap (λ t. t.items) w.text-is) at_first
    ] in
    let after_2 : Written 2 width n start c.if-width-gt2.text.items = elim c.if-width-gt2.branch [
      | then-width-gt2 w ↦ byte_written 2 width n (n / 65536 % 256) start c.if-width-gt3.text.items _ w.if-width-gt2.true
          (omega arith) (ap (λ t. t.items) w.text-is ∙ w.push_hex_byte-then-width-gt2.ensures.items) after_3
      | else-width-gt2 w ↦ byte_passed 2 width n start c.if-width-gt3.text.items _ w.if-width-gt2.false
          (ap (λ t. t.items) w.text-is) after_3
    ] in
    let after_1 : Written 1 width n start c.if-width-gt1.text.items = elim c.if-width-gt1.branch [
      | then-width-gt1 w ↦ byte_written 1 width n (n / 256 % 256) start c.if-width-gt2.text.items _ w.if-width-gt1.true
          (omega arith) (ap (λ t. t.items) w.text-is ∙ w.push_hex_byte-then-width-gt1.ensures.items) after_2
      | else-width-gt1 w ↦ byte_passed 1 width n start c.if-width-gt2.text.items _ w.if-width-gt1.false
          (ap (λ t. t.items) w.text-is) after_2
    ] in
    all_written width n start _ (byte_written 0 width n (n % 256) start c.if-width-gt1.text.items _ c.if-width-gt0.true
    (omega arith) c.push_hex_byte-then-width-gt0.ensures.items after_1)
