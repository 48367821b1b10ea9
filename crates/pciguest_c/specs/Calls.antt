-- C's calls on a machine, or on a board that firmware drives, as data, and the result of each call.
--     Call, BoardCall      a call with its arguments; a call of 1 to 8 bytes is by a device or, for a region, by a guest
--     Told      the output of a call, or what is at the place where the output goes: nothing, a number or a row; a text, an
--         image or a line's reply, which go to a buffer, with their length; a text with a count; or rows, with how many of
--         them have moved
--     Outcome      a call is refused, or it is done, with its output and the session after it
--     reading r, doing r, telling f r      the outcome of a read reply, of a reply without a value, and of a result
--     where_lawful, where_guest m guest, of_guest m guest      902 if a value isn't lawful, or if the machine has no such
--         guest
--     outcome c m, board_outcome c b      the outcome of a call on a machine, and on a board
--     Answer      the number that is returned, the session after it, and the content of the output's place
--     settled s old o      the answer for an outcome: a refusal stores and changes nothing; 902 if a buffer is too small for
--         a text or an image, of which only the length is stored, or for the longest reply
--     Answers c before after n old new, AnswersBoard ..      a call on a handle has this answer, or 901 if the handle is
--         empty
--     unless_out n o      an outcome; but if n is 299, memory is exhausted, and nothing is stored or changed
--     AnswersOrRunsOut c before after n old new, AnswersBoardOrRunsOut ..      as Answers, for a call that allocates memory
--     AnswersLine line room before after n old new      as Answers, for a line of a session, which allocates memory if its
--         text is longer than a reply, and whose buffer has room for a reply
--     AnswersLoad told R before after n      a load: 901 without a machine, else the number `told`; if that is 0, R relates
--         the machine to the one after the load, else nothing changes
use Rattle.std.specs.Prelude.{◌≡◌, ◌≢◌, ◌==◌, ℕ, List, IfNone, IfSome, slice_get, Bool, true, false, unwrap_or, if◌then◌else◌, nat_lt, nat_le, length, Option, None, Some, option_and_then, option_map, Result, Ok, Err}
use Rattle.model_guests.specs.{Accesses.{Op, RaisePlace, Reply, Target, answered, done, refused, Event, access, raises, reads, writes}, DeviceEvents.{DeviceByte, DeviceEvent, resets}, Text.Text, Grammar.HostTarget, Lines.host_move, WorldNow.{move_reply, host_reply, board_state, line_output}, Calls.asks}
use Rattle.model_handoff.specs.{Actions.calls, Changes.{MachineNow, after_on_machine, after_line_on_machine}, Functions.function_nth, DrivenFunctions.driven_function_nth}
use Rattle.model_lines.specs.{HostAccesses.HostAccess, Sessions.{DrivenNow, SessionNow, driven, given, after_board_access, session_output, after_session_line}}
use Rattle.session.specs.{Questions.{told_by, counted_by}, Stages.{asks_for_more, board_in, machine_in}, declared.questions.{ReportForm.ReportForm, Question.Question}}
use Rattle.json_texts.specs.WhyValue.{host_explanation_json}
use Rattle.monitor.specs.{ByIndex.name_nth, Moves.move_nth}
use Rattle.pciguest_c.specs.{Told.{target_told, part_told, at_bus, host_target_told, reply_asked, after_asked, index_asked}, DevicesTold.{reply_at_device, after_at_device, wide_read, after_wide}, SeatingsTold.{gift_reply, after_gift, taking_reply, after_taking}, ImagesTold.{image_asked, after_restart}, QueriesTold.{region_asked, region_told, hit_asked, hit_told}, MovesTold.{places_from, moved_count}, FunctionsTold.{function_told, slot_asked}, DrivenTold.driven_row, WhyTold.why_asked, TextsTold.at_front, Handles.{session_of, machine_of, board_of}, declared.{values.arguments.Side.Side, handle.Handle.Handle, machine.regions.{RegionTold.RegionTold, HitTold.HitTold}, values.function_row.FunctionTold.FunctionTold, board.functions.DrivenRow.DrivenRow, machine.moved_regions.PlaceRow.PlaceRow}}
use Rattle.model_lines.specs.HostAccesses as board

pub data Call : Type 0 where
  read : (guest space slot place width : ℕ) → Call
  write : (guest space slot place width value : ℕ) → Call
  raise : (guest slot part offset mask : ℕ) → Call
  host_read : (space bus device function place width : ℕ) → Call
  move : (source slot target_guest target : ℕ) → Call
  give : (path : Text) (guest slot : ℕ) → Call
  take : (guest slot : ℕ) → Call
  reset : (guest slot : ℕ) → Call
  reset_guest : (guest : ℕ) → Call
  read_wide : (side : Side) (guest slot part offset width : ℕ) → Call
  write_wide : (side : Side) (guest slot part offset width value : ℕ) → Call
  region : (guest slot register : ℕ) → Call
  locate : (guest space slot place : ℕ) → Call
  changed : (guest : ℕ) → Call
  moved : (guest : ℕ) (places : List PlaceRow) → Call
  guest_named : (name : Text) → Call
  guest_count : Call
  guest_name : (guest : ℕ) → Call
  save : (guest : ℕ) → Call
  function_count : Call
  function_at : (index : ℕ) → Call
  function_in : (guest slot : ℕ) → Call
  why : (form : ReportForm) (guest space slot place : ℕ) → Call
  run_line : (line : Text) → Call

pub data BoardCall : Type 0 where
  board_read : (space bus device function place width : ℕ) → BoardCall
  board_write : (space bus device function place width value : ℕ) → BoardCall
  board_count : BoardCall
  board_function : (index : ℕ) → BoardCall
  board_survey : (question : Question) → BoardCall
  board_why : (space bus device function place : ℕ) → BoardCall

pub data Told : Type 0 where
  nothing : Told
  number : ℕ → Told
  a_region : RegionTold → Told
  a_hit : HitTold → Told
  a_function : FunctionTold → Told
  a_driven : DrivenRow → Told
  text : Text → Told
  reply : Text → Told
  buffer : Text → ℕ → Told
  counted : Text → ℕ → Told
  counter : Text → ℕ → ℕ → Told
  places : List PlaceRow → Told
  place_buffer : List PlaceRow → ℕ → Told

pub data Outcome : Type 0 where
  refusal : ℕ → Outcome
  tells : Told → SessionNow → Outcome

-- ---- what becomes of a call

abbrev pub reading : Reply → SessionNow → Outcome
reading (answered v w) s = tells (number v) s
reading done s = tells nothing s
reading (refused n) s = refusal n

abbrev pub doing : Reply → SessionNow → Outcome
doing (answered v w) s = tells nothing s
doing done s = tells nothing s
doing (refused n) s = refusal n

abbrev pub telling : {T : Type 0} → (T → Told) → Result T ℕ → SessionNow → Outcome
telling f (Ok x) s = tells (f x) s
telling f (Err n) s = refusal n

abbrev pub where_lawful : {T : Type 0} → Option T → (T → Outcome) → Outcome
where_lawful None f = refusal 902
where_lawful (Some x) f = f x

abbrev pub where_guest : {T : Type 0} → MachineNow → ℕ → Option T → Option T
where_guest m guest o = if nat_lt guest (length m.world.guests) then o else None

abbrev pub are_guests : MachineNow → ℕ → ℕ → Bool
are_guests m i j = if nat_lt i (length m.world.guests) then nat_lt j (length m.world.guests) else false

abbrev pub of_guest : MachineNow → ℕ → Outcome → Outcome
of_guest m guest x = if nat_lt guest (length m.world.guests) then x else refusal 902

abbrev pub asked : MachineNow → ℕ → Event → Outcome
asked m guest e = doing (reply_asked m.world guest e) (given (after_asked m guest e))

abbrev pub device_asked : MachineNow → ℕ → DeviceEvent → Outcome
device_asked m guest e = doing (reply_at_device m.world guest e) (given (after_at_device m guest e))

abbrev pub byte_at : ℕ → RaisePlace → ℕ → DeviceByte
byte_at slot part offset = record { slot = slot; part = part; offset = offset }

-- words that tactics leave closed, as replies of the host and what is found on a board compute long
unfoldable pub read_as_host : MachineNow → Option HostTarget → ℕ → Option Reply
read_as_host m o width = option_map (λ t. host_reply m.world (record { target = t; width = width })) o

unfoldable pub giving : MachineNow → Text → ℕ → ℕ → Outcome
giving m path guest slot =
    of_guest m guest (doing (gift_reply m.world path guest slot) (given (after_gift m path guest slot)))

unfoldable pub telling_slot : MachineNow → ℕ → ℕ → Outcome
telling_slot m guest slot =
    of_guest m guest (telling (λ f. a_function (function_told m.world f)) (slot_asked m.world guest slot) (given m))

unfoldable pub access_as_firmware : DrivenNow → Option HostTarget → ℕ → Op → Option (Reply × DrivenNow)
access_as_firmware b o width op = option_map (λ t.
    let a : HostAccess = record { target = t; width = width; op = op } in
    (board.answer b.state a, after_board_access b a)) o

-- as lines or as JSON
unfoldable pub telling_why : ReportForm → MachineNow → ℕ → Option Target → Outcome
telling_why form m guest o =
    where_lawful (where_guest m guest o) (λ t. telling text (why_asked form m.world guest t) (given m))

-- as lines or as JSON
unfoldable pub surveying : Question → DrivenNow → Outcome
surveying q b =
    tells (counted (told_by q b.world.apertures b.state.functions) (counted_by q b.world.apertures b.state.functions)) (driven b)

unfoldable pub explaining : Option HostTarget → DrivenNow → Outcome
explaining o b = where_lawful o (λ t. tells (text (host_explanation_json b.state t)) (driven b))

abbrev pub outcome : Call → MachineNow → Outcome
outcome (read guest space slot place width) m = where_lawful (where_guest m guest (target_told space slot place)) (λ t.
    reading (reply_asked m.world guest (access (record { target = t; width = width; op = reads }))) (given m))
outcome (write guest space slot place width value) m = where_lawful (where_guest m guest (target_told space slot place)) (λ t.
    asked m guest (access (record { target = t; width = width; op = writes value })))
outcome (raise guest slot part offset mask) m = where_lawful (where_guest m guest (part_told part)) (λ p.
    asked m guest (raises (record { slot = slot; part = p; offset = offset; mask = mask })))
outcome (host_read space bus device function place width) m =
    where_lawful (read_as_host m (host_target_told space (at_bus bus device function) place) width) (λ r. reading r (given m))
outcome (move source slot guest target) m =
    if are_guests m source guest
    then doing (move_reply m.world.guests (move_nth m.world source slot guest target))
    (given (after_on_machine m (calls (asks (host_move (move_nth m.world source slot guest target))))))
    else refusal 902
outcome (give path guest slot) m = giving m path guest slot
outcome (take guest slot) m =
    of_guest m guest (doing (taking_reply m.world guest slot) (given (after_taking m guest slot)))
outcome (reset guest slot) m = of_guest m guest (device_asked m guest (resets slot))
outcome (reset_guest guest) m = of_guest m guest (tells nothing (given (after_restart m guest)))
outcome (read_wide side guest slot part offset width) m = where_lawful (where_guest m guest (part_told part)) (λ p.
    telling number (wide_read side m.world guest (byte_at slot p offset) width) (given m))
outcome (write_wide side guest slot part offset width value) m = where_lawful (where_guest m guest (part_told part)) (λ p.
    telling (λ n. nothing) (wide_read side m.world guest (byte_at slot p offset) width)
    (given (after_wide side m guest (byte_at slot p offset) width value)))
outcome (region guest slot register) m =
    of_guest m guest (telling (λ r. a_region (region_told r)) (region_asked m.world guest slot register) (given m))
outcome (locate guest space slot place) m = where_lawful (where_guest m guest (target_told space slot place)) (λ t.
    telling (λ l. a_hit (hit_told l)) (hit_asked m.world guest t) (given m))
outcome (changed guest) m = of_guest m guest (tells (number (unwrap_or (slice_get m.counts guest) 0)) (given m))
outcome (moved guest ps) m = of_guest m guest (tells (places (places_from m.world guest 0 ps)) (given m))
outcome (guest_named name) m = where_lawful (index_asked m.world name) (λ i. tells (number i) (given m))
outcome guest_count m = tells (number (length m.world.guests)) (given m)
outcome (guest_name guest) m = of_guest m guest (tells (text (name_nth m.world guest)) (given m))
outcome (save guest) m = of_guest m guest (tells (text (image_asked m.world guest)) (given m))
outcome function_count m = tells (number (length (board_state m.world).functions)) (given m)
outcome (function_at index) m = where_lawful (function_nth (board_state m.world) m.world.guests index) (λ f.
    tells (a_function (function_told m.world f)) (given m))
outcome (function_in guest slot) m = telling_slot m guest slot
outcome (why form guest space slot place) m = telling_why form m guest (target_told space slot place)
outcome (run_line line) m = tells (reply (line_output m.world line)) (given (after_line_on_machine m line))

abbrev pub board_outcome : BoardCall → DrivenNow → Outcome
board_outcome (board_read space bus device function place width) b =
    where_lawful (access_as_firmware b (host_target_told space (at_bus bus device function) place) width reads) (λ a.
    reading a.0 (driven a.1))
board_outcome (board_write space bus device function place width value) b =
    where_lawful (access_as_firmware b (host_target_told space (at_bus bus device function) place) width (writes value)) (λ a.
    doing a.0 (driven a.1))
board_outcome board_count b = tells (number (length b.state.functions)) (driven b)
board_outcome (board_function index) b = where_lawful (driven_function_nth b.state index) (λ f.
    tells (a_driven (driven_row f)) (driven b))
board_outcome (board_survey question) b = surveying question b
board_outcome (board_why space bus device function place) b =
    explaining (host_target_told space (at_bus bus device function) place) b

-- ---- what is answered

abbrev pub fits : Told → Told → Bool
fits (text t) (buffer out needed) = nat_le (length t) (length out)
fits (reply t) (buffer out needed) = nat_le 48 (length out)
fits (counted t n) (counter out needed count) = nat_le (length t) (length out)
fits t old = true

abbrev pub left : Told → Told → Told
left nothing old = old
left (text t) (buffer out needed) = buffer (at_front t out) (length t)
left (reply t) (buffer out needed) = buffer (at_front t out) (length t)
left (counted t n) (counter out needed count) = counter (at_front t out) (length t) n
left (places ps) (place_buffer out count) = place_buffer ps (moved_count ps)
left t old = t

abbrev pub short : Told → Told → Told
short (text t) (buffer out needed) = buffer out (length t)
short (counted t n) (counter out needed count) = counter out (length t) count
short t old = old

pub record Answer : Type 0 where
  pub number : ℕ
  pub after : Option SessionNow
  pub place : Told

abbrev pub settled : Option SessionNow → Told → Outcome → Answer
settled s old (refusal n) = record { number = n; after = s; place = old }
settled s old (tells t x) =
    if fits t old then record { number = 0; after = Some x; place = left t old }
    else record { number = 902; after = s; place = short t old }

abbrev pub answer_of : {S : Type 0} → (S → Outcome) → Option SessionNow → Told → Option S → Answer
answer_of f s old None = record { number = 901; after = s; place = old }
answer_of f s old (Some x) = settled s old (f x)

pub record IsAnswer (a : Answer) (after : Option SessionNow) (n : ℕ) (new : Told) : Type 0 where
  pub number : n ≡ a.number
  pub session : after ≡ a.after
  pub place : new ≡ a.place

abbrev pub answer : Call → Option SessionNow → Told → Answer
answer c s old = answer_of (outcome c) s old (option_and_then machine_in s)

abbrev pub board_answer : BoardCall → Option SessionNow → Told → Answer
board_answer c s old = answer_of (board_outcome c) s old (option_and_then board_in s)

abbrev pub Answers : Call → Handle → Handle → ℕ → Told → Told → Type 0
Answers c before after n old new = IsAnswer (answer c (session_of before) old) (session_of after) n new

abbrev pub AnswersBoard : BoardCall → Handle → Handle → ℕ → Told → Told → Type 0
AnswersBoard c before after n old new = IsAnswer (board_answer c (session_of before) old) (session_of after) n new

-- ---- calls that take memory

abbrev pub unless_out : ℕ → Outcome → Outcome
unless_out n (refusal k) = refusal k
unless_out n (tells t x) = if n == 299 then refusal 299 else tells t x

abbrev pub AnswersOrRunsOut : Call → Handle → Handle → ℕ → Told → Told → Type 0
AnswersOrRunsOut c before after n old new =
    IsAnswer (answer_of (λ m. unless_out n (outcome c m)) (session_of before) old (machine_of before)) (session_of after) n new

abbrev pub AnswersBoardOrRunsOut : BoardCall → Handle → Handle → ℕ → Told → Told → Type 0
AnswersBoardOrRunsOut c before after n old new =
    IsAnswer (answer_of (λ b. unless_out n (board_outcome c b)) (session_of before) old (board_of before)) (session_of after) n new

-- ---- a line of a session, and loads

abbrev pub line_outcome : Text → ℕ → ℕ → SessionNow → Outcome
line_outcome line room n s =
    if nat_lt room 48 then refusal 902
    else (if asks_for_more s line then unless_out n (tells (text (session_output s line)) (after_session_line s line))
    else tells (reply (session_output s line)) (after_session_line s line))

abbrev pub AnswersLine : Text → ℕ → Option SessionNow → Option SessionNow → ℕ → Told → Told → Type 0
AnswersLine line room before after n old new = IsAnswer (answer_of (line_outcome line room n) before old before) after n new

pub record AnswersLoad (told : MachineNow → ℕ) (R : MachineNow → MachineNow → Type 0) (before after : Handle) (n : ℕ) : Type 0 where
  pub nothing : IfNone (machine_of before) (n ≡ 901)
  pub number : IfSome (machine_of before) (λ m. n ≡ told m)
  pub loaded : IfSome (machine_of before) (λ m. n ≡ 0 → (x : MachineNow) × R m x × (machine_of after ≡ Some x))
  pub refused : n ≢ 0 → session_of after ≡ session_of before
