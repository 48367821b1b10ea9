use Rattle.guest_functions.proofs.{CopiedFiles.{other_cell, handed_read, block_read, copied_write, copied_block_write, same_copies, copies_held}, HeldCopies.{copied_raise, hidden_raise}}
use Rattle.guest_functions.proofs.copies_split_accesses.Goals as goal

pub returns : goal.returns
returns c = record {
  other_cell = other_cell;
  handed_read = handed_read;
  block_read = block_read;
  written = copied_write;
  block_written = copied_block_write;
  raised = copied_raise;
  hidden_raise = hidden_raise;
  same = same_copies;
  held = copies_held;
}
