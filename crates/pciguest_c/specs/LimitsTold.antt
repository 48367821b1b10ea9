-- Upper limits of sizes, as C receives them.
--     limits      functions, guests and slots as board files may have them; registers; cells of a region and of a function
use Rattle.std.specs.Prelude.{ℕ, replicate}
use Rattle.model_images.specs.ImageBytes.{greatest_image}
use Rattle.pciguest_c.specs.declared.machine.limits.LimitsRow.{LimitsRow}

abbrev pub limits : LimitsRow
limits = record {
  guest_image = greatest_image;
  functions = 1024;
  guests = 32;
  slots = 32;
  bars = 6;
  block = 4096;
  own_cells = 192;
  reserved = replicate 4 0;
}
