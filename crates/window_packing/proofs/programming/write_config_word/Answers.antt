use Rattle.std.proofs.Common.{rules}
use Rattle.window_packing.specs.WordWrites.{after_word}
use Rattle.window_packing.proofs.programming.write_config_word.Goals as goal

pub returns : goal.returns
unfolding after_word
returns c = search rules
