-- Registers of configuration space as table rows.
--     row_cells row      the cells of a register
--     IsRow row      it has at most 8 bytes, ends within configuration space, and doesn't have both writable and write-1-to-clear bits
use Rattle.std.specs.Prelude.{◌≡◌, ◌+◌, ◌<◌, ◌≤◌}
use Rattle.model_registers.specs.Registers.{config, File, field}
use Rattle.headers.specs.declared.config_register.ConfigRegister.{ConfigRegister}

abbrev pub row_cells : ConfigRegister → File
row_cells row = field (config row.off) row.width row.value row.writable row.clearable

pub record IsRow (row : ConfigRegister) : Type 0 where
  pub narrow : row.width ≤ 8
  pub within : row.off + row.width ≤ 256
  pub of_one_kind : 0 < row.clearable → row.writable ≡ 0
