-- Each text is that of its number: the digits compute.
use Rattle.std.{proofs.Common.refl, specs.Fmt.digits}
use Rattle.accesses.proofs.refusal.Refusal.text.Goals as goal

pub returns-in-Misaligned-clause-text : goal.returns-in-Misaligned-clause-text
unfolding digits
returns-in-Misaligned-clause-text c = rw c.in-Misaligned.is refl

pub returns-in-Width-clause-text : goal.returns-in-Width-clause-text
unfolding digits
returns-in-Width-clause-text c = rw c.in-Width.is refl

pub returns-in-Range-clause-text : goal.returns-in-Range-clause-text
unfolding digits
returns-in-Range-clause-text c = rw c.in-Range.is refl

pub returns-in-BadLine-clause-text : goal.returns-in-BadLine-clause-text
unfolding digits
returns-in-BadLine-clause-text c = rw c.in-BadLine.is refl

pub returns-in-UnknownGuest-clause-text : goal.returns-in-UnknownGuest-clause-text
unfolding digits
returns-in-UnknownGuest-clause-text c = rw c.in-UnknownGuest.is refl

pub returns-in-LongLine-clause-text : goal.returns-in-LongLine-clause-text
unfolding digits
returns-in-LongLine-clause-text c = rw c.in-LongLine.is refl

pub returns-in-EmptySlot-clause-text : goal.returns-in-EmptySlot-clause-text
unfolding digits
returns-in-EmptySlot-clause-text c = rw c.in-EmptySlot.is refl

pub returns-in-SlotTaken-clause-text : goal.returns-in-SlotTaken-clause-text
unfolding digits
returns-in-SlotTaken-clause-text c = rw c.in-SlotTaken.is refl
