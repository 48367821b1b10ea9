-- Worked examples: explanations of addresses and BDFs.
--     changed word v p      the main board after set-up, with one register word of a function changed
--     WhyExamples      the explanations
use Rattle.std.specs.Prelude.{List, [], ◌∷◌, ◌++◌, ◌≡◌, ℕ, codes}
use Rattle.model_registers.specs.{Registers.{config, write}, ByteEnables.lanes, Decoding.memory}
use Rattle.model_board.specs.{Paths.Path, State.{BoardFunction, with_file}, AtReset.reset_state, Examples.main_board}
use Rattle.model_guests.specs.Text.{text_of_lines}
use Rattle.model_findings.specs.{AuditExamples.{on_root, behind, at_bus}, ReadyExamples.left}
use Rattle.model_lines.specs.WhyText.{why_text, why_number_text}

abbrev pub changed : ℕ → ℕ → Path → List BoardFunction
changed word v p = with_file (write (lanes 15) v (config word)) p left

pub record WhyExamples : Type 0 where
  -- after set-up a region's byte is claimed by the region, and no other region is reported
  pub own :
      why_text left memory 0xc0000010
      ≡ text_of_lines (
      codes "why: memory 0xc0000010: 2.0/0.0 bar0 responds at offset 0x10"
      ∷ codes "why: bridge 2.0 forwards it to bus 01"
      ∷ codes "why: 2 lines" ∷ [])
  pub nowhere :
      why_text left memory 0xd0000000
      ≡ text_of_lines (codes "why: memory 0xd0000000: nothing responds" ∷ codes "why: 1 line" ∷ [])
  -- its bridge's memory window is disabled
  pub window :
      why_text (changed 0x20 0xfff0 (on_root 2)) memory 0xc0000000
      ≡ text_of_lines (
      codes "why: memory 0xc0000000: nothing responds"
      ∷ (codes "why: 2.0/0.0 bar0 at 0xc0000000 size 0x100000: "
      ++ codes "bridge 2.0 doesn't forward it: memory window disabled, prefetchable window 0x400000000-0x400ffffff")
      ∷ codes "why: 2 lines" ∷ [])
  -- the endpoint's Command is 0, and the bridge forwards only I/O: the nearest to the function first
  pub causes :
      why_text (with_file (write (lanes 15) 1 (config 4)) (on_root 2) (changed 4 0 (behind 2 0))) memory 0xc0000000
      ≡ text_of_lines (
      codes "why: memory 0xc0000000: nothing responds"
      ∷ (codes "why: 2.0/0.0 bar0 at 0xc0000000 size 0x100000: memory decode is disabled (Command 0x0000); "
      ++ codes "bridge 2.0 doesn't forward it: memory decode is disabled (Command 0x0001)")
      ∷ codes "why: 2 lines" ∷ [])
  -- regions that are as at reset are counted
  pub at_reset :
      why_text (reset_state main_board).functions memory 0x10
      ≡ text_of_lines (
      codes "why: memory 0x10: nothing responds"
      ∷ codes "why: 3 BARs at 0x0 with decode disabled, as at reset"
      ∷ codes "why: 2 lines" ∷ [])
  -- another region has the same address in its register
  pub two :
      why_text (changed 0x14 0xc0000000 (on_root 1)) memory 0xc0000010
      ≡ text_of_lines (
      codes "why: memory 0xc0000010: 1.0 bar1 responds at offset 0x10"
      ∷ codes "why: bridge 2.0 forwards it to bus 01"
      ∷ codes "why: 2.0/0.0 bar0 at 0xc0000000 size 0x100000: decodes it too"
      ∷ codes "why: 3 lines" ∷ [])
  -- BDFs
  pub no_function :
      why_number_text left (at_bus 1 5)
      ≡ text_of_lines (
      codes "why: 01:05.0 reaches nothing"
      ∷ codes "why: bridge 2.0 claims bus 01"
      ∷ codes "why: no function 5.0 behind bridge 2.0"
      ∷ codes "why: 3 lines" ∷ [])
  -- while the bridge's Secondary Bus Number is 0, functions behind it are looked for on bus 0
  pub not_found :
      why_number_text (reset_state main_board).functions (at_bus 0 0)
      ≡ text_of_lines (
      codes "why: 00:00.0 reaches nothing"
      ∷ codes "why: no function 0.0 on bus 00"
      ∷ codes "why: 2.0/0.0 has this BDF but isn't reached"
      ∷ codes "why: 3 lines" ∷ [])
