-- What an option is made from, where it is there.
use Rattle.std.{proofs.{Common.{◌≡◌, Some, Option, arith}, lemmas.Option.same_Some}, specs.Prelude.{option_map, option_and_then}}

pub from_next : {A B : Type 0} (f : A → Option B) (o : Option A) (y : B) → option_and_then f o ≡ Some y → (x : A) × (o ≡ Some x) × (f x ≡ Some y)
from_next f o y h = grind arith

pub from_map : {A B : Type 0} (f : A → B) (o : Option A) (y : B) → option_map f o ≡ Some y → (x : A) × (o ≡ Some x) × (f x ≡ y)
from_map f o y h = grind (arith, same_Some)
