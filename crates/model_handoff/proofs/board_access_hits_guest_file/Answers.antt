use Rattle.model_handoff.proofs.Accesses.{region_reads, region_writes, hit_acts, memory_by_space, ports_by_space, cycle_reads, cycle_writes}
use Rattle.model_handoff.proofs.board_access_hits_guest_file.Goals as goal

pub returns : goal.returns
returns c = search (region_reads, region_writes, hit_acts, memory_by_space, ports_by_space, cycle_reads, cycle_writes)
