use Rattle.model_registers.proofs.Owned.{own_reads, own_writes, own_stay, own_hits, reset_holds_own}
use Rattle.model_registers.proofs.own_copies_and_rest_make_file.Goals as goal

pub returns : goal.returns
returns c = record { reads = own_reads; writes = own_writes; stay = own_stay; hits = own_hits; reset = reset_holds_own }
