use Rattle.std.proofs.Common.{arith}
use Rattle.toml.specs.View.{table_view}
use Rattle.board_file.proofs.ByChecks.{judged_file, means_world, means_masks}
use Rattle.board_file.proofs.source.Source.build_host_and_guests.Goals as goal

pub check_masks_and_build-requires : goal.check_masks_and_build-requires
check_masks_and_build-requires c = let s = c.args.self.now in grind (arith, judged_file (table_view s.document.now) s.file s.entries)

pub returns-in-None-clause-world : goal.returns-in-None-clause-world
returns-in-None-clause-world c = let s = c.args.self.now in grind (arith, means_world (table_view s.document.now) s.file s.entries)

pub returns-in-None-clause-refused : goal.returns-in-None-clause-refused
returns-in-None-clause-refused c = let s = c.args.self.now in grind (arith, means_masks (table_view s.document.now) s.file s.entries)
