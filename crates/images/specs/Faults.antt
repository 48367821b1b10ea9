-- The reasons why a guest can't load bytes.
--     number_of why      the number of the fault
--     of_version n      the number of a refusal, where bytes are to be a version
use Rattle.std.specs.Prelude.{ℕ, ◌==◌, if◌then◌else◌}
use Rattle.images.specs.declared.fault.ImageFault.{ImageFault, TheVariants.{NoImage, OtherFunctions, OtherVersion}}

abbrev pub number_of : ImageFault → ℕ
number_of NoImage = 905
number_of OtherFunctions = 906
number_of OtherVersion = 908

-- other bytes are another version
abbrev pub of_version : ℕ → ℕ
of_version n = if n == 906 then 908 else n
