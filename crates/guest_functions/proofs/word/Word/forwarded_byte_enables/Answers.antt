use Rattle.guest_functions.proofs.HandedOn.{handed}
use Rattle.guest_functions.proofs.word.Word.forwarded_byte_enables.Goals as goal

pub returns-clause-others : goal.returns-clause-others
returns-clause-others c = handed c.args.off c.args.enables c.copied_byte_enables.result c.args.self c.copied_byte_enables.ensures c.requires
