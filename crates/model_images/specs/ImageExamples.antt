-- Worked example: the first guest of the main board is saved, and loaded on another board.
--     at_work      the guest after some lines of its own
--     its_image      the guest's image
--     elsewhere      another board, on which its functions are behind a bridge; the image is loaded into its guest
use Rattle.std.specs.Prelude.{[], ◌∷◌, ◌≡◌, codes, length}
use Rattle.model_board.specs.State.{State}
use Rattle.model_guests.specs.{World.declarations, Lone.{LoneGuest, reset_guest}, Guests.lone_of, Inputs.{own_line, after_inputs}, WorldNow.{WorldNow, world_over}, Examples.{main_world, second_world}}
use Rattle.model_images.specs.Images.{Image, image_of_lone, lone_of_image, after_load, at_reset}

-- Command, a base, a byte in memory, and CONFIG_ADDRESS
abbrev pub at_work : LoneGuest
at_work =
    after_inputs (reset_guest (declarations main_world (codes "a")))
    (own_line (codes "a cw 0 4 2 2") ∷ own_line (codes "a cw 0 0x14 4 0x80000000")
    ∷ own_line (codes "a mw 0x80000010 4 0x12345678") ∷ own_line (codes "a iw 0xcf8 4 0x80000804") ∷ [])

abbrev pub its_image : Image
its_image = image_of_lone at_work

-- over any handoff
abbrev pub elsewhere : State → WorldNow
elsewhere s = after_load (codes "a") its_image (world_over second_world s)

pub record ImageExamples : Type 0 where
  pub latch : its_image.latch ≡ 0x80000804
  pub slots : length its_image.slots ≡ 32
  pub restored : lone_of_image its_image ≡ at_work
  pub carried : (s : State) → lone_of (elsewhere s).guests (codes "a") ≡ at_work
  pub put_to_reset : at_reset at_work ≡ reset_guest (declarations main_world (codes "a"))
