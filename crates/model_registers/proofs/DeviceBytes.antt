-- A device's own bytes: none of them is a guest's copy, and a change of one cell leaves all others.
use Rattle.std.proofs.{Common.{◌≡◌, ℕ, ◌<◌, ◌≤◌, ◌⊎◌, true, false, [], ◌∷◌, refl, arith}, lemmas.Bool.Decides.nat_tests}
use Rattle.model_registers.{specs.{Cell.Cell, Registers.{Place, config, place_eq, File, cell_at, changed}, FileLaws.has_place, OwnCopies.is_own, DeviceBytes.is_device_byte}, proofs.RegisterFiles.place_same}

pub device_not_own : (p : Place) → is_device_byte p ≡ true → is_own p ≡ false
device_not_own p h = grind (arith, nat_tests)

-- away from the base address registers
pub device_away : (off : ℕ) → is_device_byte (config off) ≡ true → (off < 0x10) ⊎ (0x28 ≤ off)
device_away off h = grind (arith, nat_tests)

-- a change of a cell leaves every other one
pub change_beside : (f : Cell → Cell) (file : File) (p q : Place) → place_eq p q ≡ false → cell_at (changed f p file) q ≡ cell_at file q
change_beside f [] p q apart = refl
change_beside f (e ∷ es) p q apart = grind (arith, change_beside f es p q apart, place_same)

-- where a cell stands it becomes another one
pub change_there : (f : Cell → Cell) (file : File) (p : Place) → has_place file p ≡ true → cell_at (changed f p file) p ≡ f (cell_at file p)
change_there f [] p there = cc
change_there f (e ∷ es) p there = grind (arith, change_there f es p)
