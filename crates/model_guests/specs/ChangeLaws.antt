-- How a change of a guest's functions changes the board.
--     ChangesAlike      if a guest's file changes by the first function, the board's changes by the second
--     WritesAlike, RaisesAlike, ResetsAlike      a write, a raise and a reset reach the board's file in the bytes that aren't copied
--     OverSeated      over any state, whatever guests are seated on its board
--     OneFile, ChangesOneFunction, LatchKeepsBoard      a guest's change of a function changes the board in that function only
--     MoveResetsOneFunction      a move resets the function, except for the bytes that guests have copies of
--     lands, EventReachesBoard      the slot and place that an event changes, and its effect on the board there
use Rattle.std.specs.{Prelude.{List, ◌≡◌, ℕ, Bool, false, if◌then◌else◌, Option, Some, None, option_map, is_some, IsFalse, IsSome}, Option.option_map_or}
use Rattle.model_registers.specs.{Registers.{Place, File, write, raise, all_bytes}, Declarations.Endpoint, Decoding.Function, EndpointTable.endpoint_reset, OwnCopies.{is_own, forwarded_byte_enables}, CopiedFiles.{agreed_file, after_reset}}
use Rattle.model_board.specs.{Paths.{Path, path_eq}, AtReset.board_at, State.State}
use Rattle.model_guests.specs.{Accesses.{Event, access, raises, Op, reads, writes}, Slots.{slot_at, with_file, Landing, landing, raise_landing, event_fault}, Text.Text, Lone.{LoneGuest, Destination, own_latch, no_function, at_target, destination}, Guests.{GuestNow, GuestsNow, guest_named, lone_of, with_guest, after_guest_event, function_in, path_in, Move, move_fault, after_move}, AgreedBoard.{with_files, state_over, with_change_at}, Seated.AreSeated}

abbrev pub ChangesAlike : (File → File) → (File → File) → Type 0
ChangesAlike own_change board_change = (left own : File)
    → agreed_file left (own_change own) ≡ board_change (agreed_file left own)

-- a write reaches the board through the bytes that the guest has no copies of
abbrev pub WritesAlike : Type 0
WritesAlike = (enables : List Bool) (v : ℕ) (p : Place)
    → ChangesAlike (write enables v p) (write (forwarded_byte_enables p enables) v p)

-- a raise reaches the board, except for the guest's copies
abbrev pub RaisesAlike : Type 0
RaisesAlike = (m : ℕ) (p : Place) → ChangesAlike (raise m p) (λ file. if is_own p then file else raise m p file)

abbrev pub ResetsAlike : Type 0
ResetsAlike = (d : Endpoint) → ChangesAlike (λ own. endpoint_reset d false) (after_reset d)

-- for any mapping to files: if it changes at one path, the board changes in that function only
abbrev pub OneFile : Type 0
OneFile = (own_change board_change : File → File) → ChangesAlike own_change board_change
    → (old new : Path → Option File) (p : Path) (own : File) → old p ≡ Some own → new p ≡ Some (own_change own)
    → ((q : Path) → IsFalse (path_eq p q) → new q ≡ old q)
    → (s : State) → with_files new s ≡ with_change_at board_change p (with_files old s)

-- a guest with the file in a slot changed, and a guest with another CONFIG_ADDRESS
abbrev pub with_slot_changed : (File → File) → ℕ → GuestNow → GuestNow
with_slot_changed change n g = record g { lone = record g.lone { slots = with_file change n g.lone.slots } }

abbrev pub with_latch : ℕ → GuestNow → GuestNow
with_latch latch g = record g { lone = record g.lone { latch = latch } }

abbrev pub OverSeated : (State → GuestsNow → Type 0) → Type 0
OverSeated P = (s : State) (gs : GuestsNow) → AreSeated (board_at s.functions) gs → P s gs

abbrev pub ChangesOneFunction : Type 0
ChangesOneFunction = OverSeated (λ s gs. (name : Text) (n : ℕ) (p : Path) → path_in gs name n ≡ Some p
    → (own_change board_change : File → File) → ChangesAlike own_change board_change
    → state_over s (with_guest (with_slot_changed own_change n) name gs)
    ≡ with_change_at board_change p (state_over s gs))

abbrev pub LatchKeepsBoard : Type 0
LatchKeepsBoard = (s : State) (gs : GuestsNow) (name : Text) (latch : ℕ)
    → state_over s (with_guest (with_latch latch) name gs) ≡ state_over s gs

abbrev pub MoveResetsOneFunction : Type 0
MoveResetsOneFunction = OverSeated (λ s gs. (m : Move) → IsSome (guest_named gs m.to) → move_fault gs m ≡ None
    → (p : Path) (f : Function) → path_in gs m.from m.slot ≡ Some p → function_in gs m.from m.slot ≡ Some f
    → state_over s (after_move gs m) ≡ with_change_at (after_reset f.decl) p (state_over s gs))

-- ---- any event

-- a read changes no function, nor does a write to CONFIG_ADDRESS
abbrev pub landing_at : LoneGuest → Op → Destination → Option Landing
landing_at g reads d = None
landing_at g (writes v) own_latch = None
landing_at g (writes v) no_function = None
landing_at g (writes v) (at_target t) = landing g.slots t

abbrev pub landing_of : LoneGuest → Event → Option Landing
landing_of g (access a) = landing_at g a.op (destination g.latch a.width a.target)
landing_of g (raises r) = option_map (λ (p : Place). record { slot = r.slot; place = p })
    (raise_landing (slot_at g.slots r.slot) r)

-- a refused event changes no function
abbrev pub lands : LoneGuest → Event → Option Landing
lands g e = if is_some (event_fault g.slots e) then None else landing_of g e

abbrev pub own_write : Op → ℕ → Place → File → File
own_write reads w p file = file
own_write (writes v) w p file = write (all_bytes w) v p file

-- the effect of an event on the guest's file
abbrev pub own_effect : Event → Place → File → File
own_effect (access a) p file = own_write a.op a.width p file
own_effect (raises r) p file = raise r.mask p file

abbrev pub board_write : Op → ℕ → Place → File → File
board_write reads w p file = file
board_write (writes v) w p file = write (forwarded_byte_enables p (all_bytes w)) v p file

-- the effect on the board's file: the bytes that the guest has no copies of
abbrev pub board_effect : Event → Place → File → File
board_effect (access a) p file = board_write a.op a.width p file
board_effect (raises r) p file = if is_own p then file else raise r.mask p file

abbrev pub board_after : GuestsNow → Text → Event → Option Landing → State → State
board_after gs name e None now = now
board_after gs name e (Some l) now =
    option_map_or (λ (p : Path). with_change_at (board_effect e l.place) p now) (path_in gs name l.slot) now

-- the board changes in the function of that slot only
abbrev pub EventReachesBoard : Type 0
EventReachesBoard = OverSeated (λ s gs. (name : Text) (e : Event)
    → state_over s (after_guest_event name e gs)
    ≡ board_after gs name e (lands (lone_of gs name) e) (state_over s gs))
