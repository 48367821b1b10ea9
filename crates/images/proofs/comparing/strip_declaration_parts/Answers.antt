use Rattle.std.proofs.Common.{arith}
use Rattle.model_images.proofs.Savable.{region_count}
use Rattle.images.proofs.ComparedBytes.{goes_on, ends}
use Rattle.images.proofs.comparing.strip_declaration_parts.Goals as goal

pub endpoint_head_bytes-requires : goal.endpoint_head_bytes-requires
endpoint_head_bytes-requires c = let few = region_count c.args.decl.now c.values-values.ensures.lawful in omega arith

pub returns-in_err-bytes-clause-refused : goal.returns-in_err-bytes-clause-refused
returns-in_err-bytes-clause-refused c = grind (arith, ends)

pub returns-clause-left : goal.returns-clause-left
returns-clause-left c = grind (arith, goes_on)

pub returns-clause-refused : goal.returns-clause-refused
returns-clause-refused c = grind (arith, goes_on)
