-- Explains the target of an I/O port, given CONFIG_ADDRESS: PCI Local Bus 3.0, chapter 3.2.2.3.2.
--     PortUse, port_use latch n      the use of a port according to CONFIG_ADDRESS
--     target_by w u      the target of an access of w bytes with this use
--     use_lines, found_lines      the line for the use of a port, and the lines for its target
--     why_port_text s n      both texts
--     PortsByLatch      each port access goes to this target
--     PortExamples      the explanations of some ports
use Rattle.std.specs.Prelude.{List, [], ◌∷◌, ◌++◌, ◌≡◌, ℕ, ◌==◌, if◌then◌else◌, codes}
use Rattle.model_registers.specs.{Decoding.io, ConfigAddress.{is_data_port, selected_offset}}
use Rattle.model_board.specs.{State.State, Cycles.BusAddress, Ports.{is_enabled, selected, PortTarget, config_address, config_data, ordinary, port_target}}
use Rattle.model_guests.specs.{Text.{Text, text_of_lines}, PathTexts.hexadecimal}
use Rattle.model_findings.specs.{AuditText.{space_text, number_text}, ReadyExamples.left}
use Rattle.model_lines.specs.{Why.why, Ways.why_number, WhyText.{why_lines, number_lines, whole_text}}

pub data PortUse : Type 0 where
  -- a 4-byte access goes to CONFIG_ADDRESS; a narrower one goes to an ordinary port
  holds_latch : PortUse
  -- the byte of configuration space that CONFIG_ADDRESS selects
  shows_data : BusAddress → ℕ → PortUse
  -- an ordinary port, because CONFIG_ADDRESS isn't enabled
  hides_data : PortUse
  like_others : PortUse

abbrev pub port_use : ℕ → ℕ → PortUse
port_use latch n =
    if n == 0xcf8 then holds_latch
    else (if is_data_port n
    then (if is_enabled latch then shows_data (selected latch) (selected_offset latch n) else hides_data)
    else like_others)

abbrev pub target_by : ℕ → PortUse → PortTarget
target_by w holds_latch = if w == 4 then config_address else ordinary
target_by w (shows_data at off) = config_data at off
target_by w hides_data = ordinary
target_by w like_others = ordinary

abbrev pub PortsByLatch : Type 0
PortsByLatch = (latch n w : ℕ) → port_target latch n w ≡ target_by w (port_use latch n)

-- ---- text

abbrev pub port_text : ℕ → Text
port_text n = space_text io ++ codes " " ++ hexadecimal n ++ codes ": "

abbrev pub latch_text : ℕ → Text
latch_text latch = codes "CONFIG_ADDRESS (" ++ hexadecimal latch ++ codes ")"

abbrev pub use_lines : ℕ → ℕ → PortUse → List Text
use_lines latch n holds_latch = (port_text n ++ codes "4-byte accesses go to " ++ latch_text latch) ∷ []
use_lines latch n (shows_data at off) =
    (port_text n ++ latch_text latch ++ codes " selects offset " ++ hexadecimal off ++ codes " of "
    ++ number_text at) ∷ []
use_lines latch n hides_data = (port_text n ++ latch_text latch ++ codes " is disabled") ∷ []
use_lines latch n like_others = []

abbrev pub found_lines : State → ℕ → PortUse → List Text
found_lines s n holds_latch = why_lines io n (why s.functions io n)
found_lines s n (shows_data at off) = number_lines at (why_number s.functions at)
found_lines s n hides_data = why_lines io n (why s.functions io n)
found_lines s n like_others = why_lines io n (why s.functions io n)

abbrev pub port_lines : State → ℕ → PortUse → List Text
port_lines s n u = use_lines s.latch n u ++ found_lines s n u

abbrev pub why_port_text : State → ℕ → Text
why_port_text s n = whole_text (port_lines s n (port_use s.latch n))

-- ---- worked examples

abbrev pub latched_at : ℕ → State
latched_at latch = record { functions = left; latch = latch }

pub record PortExamples : Type 0 where
  pub latch :
      why_port_text (latched_at 0x80000800) 0xcf8
      ≡ text_of_lines (
      codes "why: I/O 0xcf8: 4-byte accesses go to CONFIG_ADDRESS (0x80000800)"
      ∷ codes "why: I/O 0xcf8: nothing responds"
      ∷ codes "why: 2 lines" ∷ [])
  pub shown :
      why_port_text (latched_at 0x80000804) 0xcfe
      ≡ text_of_lines (
      codes "why: I/O 0xcfe: CONFIG_ADDRESS (0x80000804) selects offset 0x6 of 00:01.0"
      ∷ codes "why: 00:01.0 reaches 1.0"
      ∷ codes "why: 2 lines" ∷ [])
  pub hidden :
      why_port_text (latched_at 0x800) 0xcfc
      ≡ text_of_lines (
      codes "why: I/O 0xcfc: CONFIG_ADDRESS (0x800) is disabled"
      ∷ codes "why: I/O 0xcfc: nothing responds"
      ∷ codes "why: 2 lines" ∷ [])
  pub beside :
      why_port_text (latched_at 0x80000800) 0xcf9
      ≡ text_of_lines (codes "why: I/O 0xcf9: nothing responds" ∷ codes "why: 1 line" ∷ [])
