use Rattle.pciguest_c.proofs.values.bytes.+read_le_bytes.Given as goal

abbrev pub decreases-read_le_bytes : goal.decreases-read_le_bytes
decreases-read_le_bytes l = l.count
