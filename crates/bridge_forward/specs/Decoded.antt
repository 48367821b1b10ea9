-- The decoded registers of a bridge, as the numbers stored next to its cells: PCI-to-PCI Bridge Architecture
-- 1.2, chapter 3.2.5.
--     IsDecoded d file n      the numbers are the decoded values of these cells of the bridge
use Rattle.std.specs.Prelude.{◌≡◌, option_map}
use Rattle.model_registers.specs.{Registers.{config, File, number}, Declarations.Bridge, Windows.{io_window, mem_window, pref_window}}
use Rattle.model_board.specs.Cycles.{secondary_register, subordinate_register}
use Rattle.headers.specs.WindowPairs.{pair_of}
use Rattle.bridge_forward.specs.declared.bridge.Decoded.{Decoded}

pub record IsDecoded (d : Bridge) (file : File) (n : Decoded) : Type 0 where
  pub command : n.command ≡ number file (config 0x04) 2
  pub secondary : n.secondary ≡ secondary_register file
  pub subordinate : n.subordinate ≡ subordinate_register file
  pub io : n.io ≡ option_map pair_of (io_window d.io file)
  pub mem : n.mem ≡ option_map pair_of (mem_window file)
  pub pref : n.pref ≡ option_map pair_of (pref_window d.pref file)
