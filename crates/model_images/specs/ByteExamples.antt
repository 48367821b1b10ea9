-- Worked example: the bytes of a guest of the main board, and their refusals.
--     pin_byte      the byte of a declaration that encodes Interrupt Pin and the choice of bit 7 of the header type
--     ByteExamples      the first bytes, the image that they encode, and the guests that accept them
use Rattle.std.specs.Prelude.{List, ℕ, [], ◌∷◌, ◌≡◌, ◌++◌, false, Some, None, codes, take, drop, length}
use Rattle.model_registers.specs.Declarations.{Endpoint}
use Rattle.model_board.specs.Examples.{first_endpoint}
use Rattle.model_guests.specs.{World.declarations, Lone.reset_guest, Examples.main_world}
use Rattle.model_images.specs.{ImageExamples.{at_work, its_image}, ImageBytes.{declaration_bytes, image_bytes, image_of}, LoadedBytes.load_fault}

abbrev pub pin_byte : Endpoint → List ℕ
pin_byte d = take 1 (drop 12 (declaration_bytes d))

pub record ByteExamples : Type 0 where
  pub many : length (image_bytes its_image) ≡ 500
  pub begins : take 14 (image_bytes its_image)
      ≡ 0x50 ∷ 0x43 ∷ 0x49 ∷ 0x47 ∷ 1 ∷ 0 ∷ 0 ∷ 0 ∷ 0x04 ∷ 0x08 ∷ 0 ∷ 0x80 ∷ 1 ∷ 0x34 ∷ []
  pub pin : pin_byte first_endpoint ≡ 0x01 ∷ []
  pub pin_without_multifunction : pin_byte (record (first_endpoint) { multifunction = false }) ≡ 0x81 ∷ []
  pub read : image_of (image_bytes its_image) ≡ Some its_image
  pub taken : load_fault (reset_guest (declarations main_world (codes "a"))) (image_bytes its_image) ≡ None
  pub others : load_fault (reset_guest (declarations main_world (codes "b"))) (image_bytes its_image) ≡ Some 906
  pub too_short : load_fault at_work (take 499 (image_bytes its_image)) ≡ Some 905
  pub too_long : load_fault at_work (image_bytes its_image ++ 0 ∷ []) ≡ Some 905
  pub other_version : load_fault at_work (take 4 (image_bytes its_image) ++ 2 ∷ drop 5 (image_bytes its_image)) ≡ Some 908
