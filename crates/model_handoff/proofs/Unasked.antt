-- Worked examples that no row of tests/rows can ask: all registers of a bridge set, its two states raised, and which events
-- ran where a run ends early.
use Rattle.std.{proofs.Common.{◌≡◌, ℕ, suc, List, [], ◌∷◌, ◌++◌, Some, true, false, refl, map}, specs.Prelude.codes}
use Rattle.model_registers.specs.{Registers.{config, File, number, raise}, Declarations.{io32, pref64}, BridgeTable.{BridgeValues, bridge_file, bridge_reset}}
use Rattle.model_board.specs.Examples.{main_bridge}
use Rattle.model_guests.specs.{Text.{Text, text_of_lines}, Examples.main_world, WorldNow.{WorldNow, world_protocol, after_lines}, LineRuns.{IsCut, IsStopped}}
use Rattle.model_handoff.specs.AfterSetUp.{world_at_first}

-- ---- registers of a bridge

abbrev dwords : File → List ℕ → List ℕ
dwords file offsets = map (λ off. number file (config off) 4) offsets

-- I/O 1234e000h to 5678ffffh, memory c0100000h to dfefffffh, prefetchable 1234500000h to 89abcdef987fffffh
abbrev full_routing : BridgeValues
full_routing = record {
  command = 3;
  primary = 1;
  secondary = 2;
  subordinate = 5;
  io = record { first = 0x1234e000; last = 0x5678ffff };
  mem = record { first = 0xc0100000; last = 0xdfefffff };
  pref = record { first = 0x1234500000; last = 0x89abcdef987fffff };
}

pub every_number_and_window :
    dwords (bridge_file (record main_bridge { io = io32; pref = pref64 }) true full_routing)
    (0x04 ∷ 0x0c ∷ 0x18 ∷ 0x1c ∷ 0x20 ∷ 0x24 ∷ 0x28 ∷ 0x2c ∷ 0x30 ∷ 0x3c ∷ [])
    ≡ 3 ∷ 0x00810000 ∷ 0x00050201 ∷ 0x0000f1e1 ∷ 0xdfe0c010 ∷ 0x98713451 ∷ 0x00000012 ∷ 0x89abcdef ∷ 0x56781234 ∷ 0 ∷ []
every_number_and_window = refl

-- Status and Secondary Status rise within F900h
abbrev raised : ℕ → File → File
raised off file = raise 0xff (config off) (raise 0xff (config (suc off)) file)

pub both_states_rise :
    dwords (raised 0x06 (raised 0x1e (bridge_reset main_bridge false))) (0x04 ∷ 0x1c ∷ []) ≡ 0xf9000000 ∷ 0xf9000000 ∷ []
both_states_rise = refl

-- ---- runs that end early

abbrev at_first : WorldNow
at_first = world_at_first main_world

abbrev first_lines : List Text
first_lines = codes "a cr 0 0 4" ∷ codes "a iw 0xcf8 4 0x80000000" ∷ []

abbrev more_lines : List Text
more_lines = codes "a iw 0xcf8 4 0" ∷ codes "host move a 0 b 1" ∷ []

-- the event of the line ran of whose reply a beginning was written
pub a_write_that_fails : IsStopped world_protocol at_first (first_lines ++ more_lines)
    (Some (codes "before")) (Some (codes "beforea: 0x00011234\na: ok\na: o")) (after_lines at_first (codes "a iw 0xcf8 4 0" ∷ []))
a_write_that_fails = record {
  whole = first_lines;
  rest = more_lines;
  part = codes "a: o";
  in_order = refl;
  begins = refl;
  written = refl;
  events = refl;
}

pub a_flush_that_fails : IsStopped world_protocol at_first first_lines
    (Some []) (Some (codes "a: 0x00011234\na: ok\n")) (after_lines at_first first_lines)
a_flush_that_fails = record {
  whole = first_lines;
  rest = [];
  part = [];
  in_order = refl;
  begins = refl;
  written = refl;
  events = refl;
}

-- the line that was cut is not run
pub a_read_that_fails : IsCut world_protocol at_first
    (Some (text_of_lines first_lines ++ codes "a iw 0xcf8 4 0 and more")) (Some (codes "0 and more"))
    (Some []) (Some (codes "a: 0x00011234\na: ok\n")) (after_lines at_first first_lines)
a_read_that_fails = record {
  whole = first_lines;
  part = codes "a iw 0xcf8 4 ";
  each_line = (refl, (refl, tt));
  last_line = refl;
  read = refl;
  written = refl;
  events = refl;
}
