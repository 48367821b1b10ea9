-- The demo board.
--     demo_board      the text of its file: one endpoint without regions, and one guest
use Rattle.std.specs.Prelude.{◌++◌, codes}
use Rattle.model_guests.specs.Text.{Text}

abbrev pub demo_board : Text
demo_board =
    codes "[host]\nio = [0x1000, 0xffff]\nmem = [0xc0000000, 0xdfffffff]\n\n"
    ++ codes "[[endpoint]]\nat = \"1.0\"\nvendor = 0x1234\ndevice = 0x0001\nclass = 0xff0000\n"
    ++ codes "status = 0x8000\npin = 1\n\n"
    ++ codes "[[guest]]\nname = \"a\"\nslots = [\"1.0\"]\n"
