-- Worked examples: explanations of guests' accesses.
--     first_guest, placed_guest      a guest with one function in slot 1, at reset; the same with its memory region enabled at C0000000h
--     GuestExamples      the explanations of some places
use Rattle.std.specs.Prelude.{[], ◌∷◌, ◌≡◌, ℕ, Some, None, codes}
use Rattle.model_board.specs.Examples.{first_endpoint}
use Rattle.model_guests.specs.{Accesses.{configuration, port, address, writes, access}, Lone.{LoneGuest, reset_guest, after_event}, Text.text_of_lines}
use Rattle.model_lines.specs.WhyGuests.{guest_why_text}

abbrev pub first_guest : LoneGuest
first_guest = reset_guest (None ∷ Some first_endpoint ∷ [])

abbrev pub with_word : ℕ → ℕ → LoneGuest → LoneGuest
with_word off v g = after_event g (access (record { target = configuration 1 off; width = 4; op = writes v }))

abbrev pub based_guest : LoneGuest
based_guest = with_word 0x14 0xc0000000 first_guest

abbrev pub placed_guest : LoneGuest
placed_guest = with_word 4 2 based_guest

abbrev pub with_latch : ℕ → LoneGuest
with_latch latch = record placed_guest { latch = latch }

pub record GuestExamples : Type 0 where
  pub answers :
      guest_why_text placed_guest (address 0xc0000010)
      ≡ text_of_lines (codes "why: memory 0xc0000010: slot 1 bar1 responds at offset 0x10" ∷ [])
  pub nowhere :
      guest_why_text placed_guest (address 0xd0000000)
      ≡ text_of_lines (codes "why: memory 0xd0000000: nothing responds" ∷ [])
  pub closed :
      guest_why_text based_guest (address 0xc0000010)
      ≡ text_of_lines (
      codes "why: memory 0xc0000010: nothing responds"
      ∷ codes "why: slot 1 bar1 at 0xc0000000 size 0x1000: decode is disabled (Command 0x0000)" ∷ [])
  pub slot :
      guest_why_text placed_guest (configuration 1 0x10)
      ≡ text_of_lines (codes "why: slot 1 offset 0x10: slot 1 configuration space responds at offset 0x10" ∷ [])
  pub empty_slot :
      guest_why_text placed_guest (configuration 2 0)
      ≡ text_of_lines (codes "why: slot 2 offset 0x0: slot 2 is empty" ∷ [])
  pub latch :
      guest_why_text (with_latch 0x80000804) (port 0xcfe)
      ≡ text_of_lines (
      codes "why: I/O 0xcfe: CONFIG_ADDRESS (0x80000804) selects offset 0x6 of 00:01.0"
      ∷ codes "why: I/O 0xcfe: slot 1 configuration space responds at offset 0x6" ∷ [])
  pub empty_by_latch :
      guest_why_text (with_latch 0x80001000) (port 0xcfc)
      ≡ text_of_lines (
      codes "why: I/O 0xcfc: CONFIG_ADDRESS (0x80001000) selects offset 0x0 of 00:02.0"
      ∷ codes "why: I/O 0xcfc: slot 2 is empty" ∷ [])
  pub beyond :
      guest_why_text (with_latch 0x80010000) (port 0xcfc)
      ≡ text_of_lines (
      codes "why: I/O 0xcfc: CONFIG_ADDRESS (0x80010000) selects offset 0x0 of 01:00.0"
      ∷ codes "why: I/O 0xcfc: there is no slot at 01:00.0" ∷ [])
  pub hidden :
      guest_why_text (with_latch 0x800) (port 0xcfc)
      ≡ text_of_lines (
      codes "why: I/O 0xcfc: CONFIG_ADDRESS (0x800) is disabled"
      ∷ codes "why: I/O 0xcfc: nothing responds"
      ∷ [])
