-- What a device reads and writes of its function's registers: the checks, the guest afterwards, and the board.
use Rattle.std.{proofs.Common.{◌≡◌, ℕ, Bool, true, false, not, cond, [], ◌∷◌, Some, None, Option, refl, sym, ap, ◌∙◌, arith}, specs.{Prelude.{is_some, nat_le}, Option.option_map_or}}
use Rattle.model_registers.{specs.{Cell.Cell, Registers.{Place, File, cell_at, changed}, FileLaws.has_place, OwnCopies.is_own, DeviceBytes.{is_device_byte, set_value}, Decoding.Function, CopiedFiles.agreed_file}, proofs.{RegisterFiles.{place_same, place_turned}, Files.change_none, DeviceBytes.{device_not_own, change_beside, change_there}}}
use Rattle.model_board.specs.{Paths.Path, Board.Board, AtReset.board_at, State.State}
use Rattle.model_guests.{specs.{Accesses.{answered, done, refused}, Slots.{Slots, slot_at, with_file, raise_place}, Text.Text, Lone.LoneGuest, Guests.{GuestNow, GuestsNow, guest_named, path_in, function_in, file_of, lone_of, with_guest}, AgreedBoard.{state_over, with_change_at}, ChangeLaws.with_slot_changed, Seated.AreSeated, DeviceEvents.{DeviceByte, device_reads, device_writes, if_device_byte, device_place, byte_landing, byte_fault, byte_in, with_byte, device_fault, device_answer, after_device_event, after_guest_device}, DeviceByteLaws.{ReadsLeaveGuests, ReadsWritten, byte_change, WriteReachesBoard}}, proofs.{GuestFiles.{slot_set, with_file_there}, GuestsByName.function_named, Changes.{one_file_of, file_before, file_after, file_others}, OneGuest.{lone_found, with_alike, guest_of_function}}}

-- ---- the place

-- a place that a device reaches is one of its own bytes
pub reached : (o : Option Place) (p : Place) → if_device_byte o ≡ Some p → (o ≡ Some p) × (is_device_byte p ≡ true)
reached o p h = grind arith

-- ---- the checks

-- by the tests that they make
abbrev pub fault_by : Bool → Option Function → DeviceByte → Option ℕ
fault_by past o d = cond past (Some 303) (cond (not (is_some o)) (Some 601) (cond (not (is_some (byte_landing o d))) (Some 303) None))

pub low_slot : (slots : Slots) (d : DeviceByte) → byte_fault slots d ≡ None → nat_le 32 d.slot ≡ false
low_slot slots d h = grind arith

module _ (slots : Slots) (d : DeviceByte) (low : nat_le 32 d.slot ≡ false) (f : Function) (there : slot_at slots d.slot ≡ Some f) where
  pub checked : byte_fault slots d ≡ fault_by false (Some f) d
  checked = ap (λ (t : Bool). fault_by t (slot_at slots d.slot) d) low ∙ ap (λ (o : Option Function). fault_by false o d) there

  module _ (p : Place) (at : device_place f d.part d.offset ≡ Some p) where
    pub passes : byte_fault slots d ≡ None
    passes = checked ∙ ap (λ (o : Option Place). cond {A = Option ℕ} (not (is_some o)) (Some 303) None) at

    pub lands : byte_landing (slot_at slots d.slot) d ≡ Some p
    lands = ap (λ (o : Option Function). byte_landing o d) there ∙ at

    pub byte_there : byte_in slots d ≡ (cell_at f.file p).value
    byte_there = grind (arith, lands)

    pub with_byte_there : (v : ℕ) → with_byte d v slots ≡ with_file (set_value v p) d.slot slots
    with_byte_there v = ap (λ (o : Option Place). option_map_or (λ (q : Place). with_file (set_value v q) d.slot slots) o slots) lands

-- ---- one guest

module _ (g : LoneGuest) (d : DeviceByte) (low : nat_le 32 d.slot ≡ false) (f : Function) (there : slot_at g.slots d.slot ≡ Some f) (p : Place) (at : device_place f d.part d.offset ≡ Some p) where
  pub read_there : device_answer g (device_reads d) ≡ answered (cell_at f.file p).value 1
  read_there = grind (arith, passes, byte_there)

  pub write_answered : (v : ℕ) → device_answer g (device_writes d v) ≡ done
  write_answered v = ap (λ (o : Option ℕ). option_map_or refused o done) (passes g.slots d low f there p at)

  pub written_there : (v : ℕ) → after_device_event g (device_writes d v) ≡ record g { slots = with_file (set_value v p) d.slot g.slots }
  written_there v = grind (arith, passes, with_byte_there)

pub read_leaves : (g : LoneGuest) (d : DeviceByte) → after_device_event g (device_reads d) ≡ g
read_leaves g d = grind arith

pub reads_leave_guests : ReadsLeaveGuests
reads_leave_guests name d [] = refl
reads_leave_guests name d (t ∷ ts) = grind (arith, reads_leave_guests name d ts, read_leaves)

pub reads_written : ReadsWritten
reads_written g d v fault f p there at stands = grind (arith, low_slot, with_file_there, slot_set, written_there, read_there, change_there)

-- ---- the board

-- one byte of the agreed file, where the guest's has a cell there
board_byte : (f : Cell → Cell) (p : Place) → is_own p ≡ false → (left own : File) → has_place own p ≡ true → agreed_file left (changed f p own) ≡ changed f p (agreed_file left own)
board_byte f p other [] own stands = refl
board_byte f p other (e ∷ es) own stands = grind (arith, board_byte f p other es own stands, place_same, change_there, change_beside, place_turned)

pub bytes_alike : (v : ℕ) (p : Place) → is_device_byte p ≡ true → (own left : File) → agreed_file left (set_value v p own) ≡ byte_change own v p (agreed_file left own)
bytes_alike v p reaches own left = grind (arith, board_byte, device_not_own, change_none)

module _ (b : Board) (gs : GuestsNow) (seated : AreSeated b gs) (name : Text) (d : DeviceByte) (v : ℕ) (fault : device_fault (lone_of gs name).slots (device_writes d v) ≡ None)
    (p : Path) (f : Function) (q : Place) (path : path_in gs name d.slot ≡ Some p) (is : function_in gs name d.slot ≡ Some f) (at : device_place f d.part d.offset ≡ Some q) where
  guest_there : (x : GuestNow) × (guest_named gs name ≡ Some x)
  guest_there = guest_of_function (guest_named gs name) d.slot f (sym (function_named gs name d.slot) ∙ is)

  abbrev x : GuestNow
  x = guest_there.0

  as_written : after_guest_device name (device_writes d v) gs ≡ with_guest (with_slot_changed (set_value v q) d.slot) name gs
  as_written = grind (arith, with_alike, written_there, low_slot, lone_found)

  -- over any state
  write_reaches : (s : State) → state_over s (after_guest_device name (device_writes d v) gs) ≡ with_change_at (byte_change f.file v q) p (state_over s gs)
  write_reaches s =
      ap (state_over s) as_written
      ∙ one_file_of (set_value v q) (byte_change f.file v q) f.file (bytes_alike v q (reached (raise_place f d.part d.offset) q at).1 f.file)
      (file_of gs) (file_of (with_guest (with_slot_changed (set_value v q) d.slot) name gs)) p
      (file_before b gs seated name d.slot p path (set_value v q) f is) (file_after b gs seated name d.slot p path (set_value v q) f is) (file_others b gs seated name d.slot p path (set_value v q) f is) s

pub write_reaches_board : WriteReachesBoard
write_reaches_board s gs seated name d v fault p f q path is at = write_reaches (board_at s.functions) gs seated name d v fault p f q path is at s
