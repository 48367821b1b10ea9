-- A hit lies in a region of the space, and in the byte lanes of the address.
use Rattle.std.proofs.Common.{◌≡◌, ℕ, true, Some, arith}
use Rattle.model_registers.specs.{Registers.File, Declarations.Region, Decoding.{Space, same_space, Hit, hit_of}, DecodingLaws.{IsHitIn, HitIsOfRegion}}
use Rattle.lists.proofs.{Tests.{left_true, right_true}, FirstFound.first_some_of}

pub space_same : (x y : Space) → same_space x y ≡ true → x ≡ y
space_same x y h = grind arith

hit_in : (file : File) (space : Space) (a : ℕ) (r : Region) (h : Hit) → hit_of file space a r ≡ Some h → IsHitIn space a r h
hit_in file space a r h = grind (arith, left_true, space_same, right_true)

pub hit_is_of_region : HitIsOfRegion
hit_is_of_region file rs space a h e = grind (arith, first_some_of, hit_in)
