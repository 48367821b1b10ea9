-- The operation of an access: a read or a write.
--     is_write      whether the operation is a write
use Rattle.std.specs.Prelude.{Bool, true, false}
use Rattle.config_bytes.specs.declared.op.Op.{Op, TheVariants.{Read, Write}}

abbrev pub is_write : Op → Bool
is_write Read = false
is_write (Write n) = true
