use Rattle.pciguest_c.{specs.ImagesTold.image_asked, proofs.Images.told_at_front}
use Rattle.pciguest_c.proofs.machine.save.save.Goals as goal

pub returns-clause-image : goal.returns-clause-image
returns-clause-image c = told_at_front (image_asked c.args.machine.now.world c.args.guest) c.args.out.now _ c.save.ensures.bytes
