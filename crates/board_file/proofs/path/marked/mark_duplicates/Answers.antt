use Rattle.board_file.proofs.Taken.{both_more}
use Rattle.board_file.proofs.path.marked.mark_duplicates.Goals as goal

pub texts-preserved : goal.texts-preserved
texts-preserved c =
    both_more c.args.texts.items c.deref-entry-items.result.now c.deref-entry-items.ensures.value (λ p. (p.0, p.1.now)) c.texts.entry-index
    c.texts-item.result c.texts-test.true c.texts-item.is c.texts.taken c.insert_if_new.new.taken c.texts.entries.items c.push.new.self.items
    c.in_ok-insert_if_new.field-0 c.texts.invariant.0 c.texts.invariant.1 c.in_ok-insert_if_new.ensures.own c.in_ok-insert_if_new.ensures.taken c.in_ok-push.ensures.items
