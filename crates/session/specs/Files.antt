-- What the bytes of a board file say.
--     Declares bytes w      the bytes are a board file, and it declares w
--     Refuses bytes n      they are none, and n is the number of the first check that fails
--     BreaksRule w n      n is the number of the first rule of set-up that the board of w breaks
--     Breaks bytes n      they declare such a board
--     IsAtFirst w m      m is the lawful world w, whose board can be set up, before any line
--     IsSetUp bytes w      they declare a world whose board can be set up
--     IsOpened bytes m      m is that world before any line
use Rattle.std.specs.Prelude.{◌≡◌, ℕ, None, Some, Ok, Err, IsUtf8}
use Rattle.toml.specs.Parse.{parse_document}
use Rattle.model_registers.specs.DeclarationRules.{first_broken}
use Rattle.model_set_up.specs.SetUpWrites.{set_up_rules}
use Rattle.model_guests.specs.{Text.Text, World.{World, IsLawfulWorld}, WorldNow.WorldNow}
use Rattle.model_handoff.specs.AfterSetUp.{world_at_first}
use Rattle.board_file.specs.Meaning.{document_meaning}

pub record Declares (bytes : Text) (w : World) : Type 0 where
  pub is_text : IsUtf8 bytes
  pub meaning : document_meaning (parse_document bytes) ≡ Ok w

-- bytes that are no text are no TOML
pub record Refuses (bytes : Text) (n : ℕ) : Type 0 where
  pub no_text : ¬ IsUtf8 bytes → n ≡ 101
  pub meaning : IsUtf8 bytes → document_meaning (parse_document bytes) ≡ Err n

abbrev pub BreaksRule : World → ℕ → Type 0
BreaksRule w n = first_broken (set_up_rules w.board w.apertures) ≡ Some n

abbrev pub Breaks : Text → ℕ → Type 0
Breaks bytes n = (w : World) × Declares bytes w × BreaksRule w n

-- ---- boards that are set up

pub record IsAtFirst (w : World) (m : WorldNow) : Type 0 where
  pub fits : first_broken (set_up_rules w.board w.apertures) ≡ None
  pub lawful : IsLawfulWorld w
  pub begins : m ≡ world_at_first w

pub record IsSetUp (bytes : Text) (w : World) : Type 0 where
  pub declared : Declares bytes w
  pub fits : first_broken (set_up_rules w.board w.apertures) ≡ None

-- the world of the file, which is lawful, before any line
pub record IsOpened (bytes : Text) (m : WorldNow) : Type 0 where
  pub world : World
  pub set_up : IsSetUp bytes world
  pub lawful : IsLawfulWorld world
  pub begins : m ≡ world_at_first world
