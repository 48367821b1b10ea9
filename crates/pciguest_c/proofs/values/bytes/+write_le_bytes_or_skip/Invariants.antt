use Rattle.pciguest_c.proofs.values.bytes.+write_le_bytes_or_skip.Given as goal

abbrev pub decreases-write_le_bytes_or_skip : goal.decreases-write_le_bytes_or_skip
decreases-write_le_bytes_or_skip l = l.count
