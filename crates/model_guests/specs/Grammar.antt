-- The grammar of a script's lines: the events of guests, and the reads of the host.
--     event_of      parses the words of a guest's line after its name
--     HostRead, host_read_of      a read by the host; parses the words of its line after `host`
--     Who      the name under which a line is answered
--     is_comment, is_long      the line produces no output; the line is refused whatever its words are
--     own_lines      the lines that begin with a guest's name
use Rattle.std.specs.{Prelude.{List, [], ◌∷◌, ℕ, Bool, false, ◌&&◌, ◌==◌, if◌then◌else◌, length, ◌^◌, not, nat_lt, Option, Some, None, filter, codes, option_and_then}, List.list_any, Str.bytes_eq}
use Rattle.lists.specs.Elements.{first_of_two}
use Rattle.model_board.specs.Cycles.{BusAddress}
use Rattle.model_guests.specs.{Accesses.{Target, configuration, port, address, Op, reads, writes, RaisePlace, in_config, in_region, Event, access, raises}, Text.{Text, words}, Numbers.{below, digits_in, number_of}}

-- applies a function to a number, if there is one
abbrev pub given : {A : Type 0} → Option ℕ → (ℕ → Option A) → Option A
given o f = option_and_then f o

-- the form of a line whose first word is this one
abbrev pub on_word : {A : Type 0} → Text → Text → Option A → Option A
on_word w op form = if bytes_eq w op then form else None

-- slot, offset and width
abbrev pub to_configuration : Text → Text → Text → Op → Option Event
to_configuration s o w op = given (number_of s) (λ slot. given (number_of o) (λ off. given (number_of w) (λ width.
    Some (access (record { target = configuration slot off; width = width; op = op })))))

-- port or address, and width
abbrev pub to_space : (ℕ → Target) → Text → Text → Op → Option Event
to_space target a w op = given (number_of a) (λ n. given (number_of w) (λ width.
    Some (access (record { target = target n; width = width; op = op }))))

-- a value of 32 bits
abbrev pub value_of : Text → (Op → Option Event) → Option Event
value_of v form = given (below (2 ^ 32) (number_of v)) (λ n. form (writes n))

abbrev pub raise_part : Text → Option RaisePlace
raise_part w =
    if bytes_eq w (codes "cfg") then Some in_config
    else (if bytes_eq w (codes "bar0") then Some (in_region 0)
    else (if bytes_eq w (codes "bar1") then Some (in_region 1)
    else (if bytes_eq w (codes "bar2") then Some (in_region 2)
    else (if bytes_eq w (codes "bar3") then Some (in_region 3)
    else (if bytes_eq w (codes "bar4") then Some (in_region 4)
    else (if bytes_eq w (codes "bar5") then Some (in_region 5) else None))))))

-- slot, place, offset and mask of one byte
abbrev pub to_raise : Text → Text → Text → Text → Option Event
to_raise s p o m = given (number_of s) (λ slot. option_and_then (λ (part : RaisePlace).
    given (number_of o) (λ off. given (below 256 (number_of m)) (λ mask.
    Some (raises (record { slot = slot; part = part; offset = off; mask = mask }))))) (raise_part p))

-- NAME ir PORT W, NAME mr ADDR W; NAME cr SLOT OFF W, NAME iw PORT W V, NAME mw ADDR W V;
-- NAME cw SLOT OFF W V, NAME raise SLOT P OFF MASK
abbrev pub event_of : List Text → Option Event
event_of (op ∷ a ∷ w ∷ []) = first_of_two (on_word op (codes "ir") (to_space port a w reads))
    (on_word op (codes "mr") (to_space address a w reads))
event_of (op ∷ a ∷ b ∷ c ∷ []) = first_of_two (on_word op (codes "cr") (to_configuration a b c reads))
    (first_of_two (on_word op (codes "iw") (value_of c (to_space port a b)))
    (on_word op (codes "mw") (value_of c (to_space address a b))))
event_of (op ∷ a ∷ b ∷ c ∷ d ∷ []) = first_of_two (on_word op (codes "cw") (value_of d (to_configuration a b c)))
    (on_word op (codes "raise") (to_raise a b c d))
event_of _ = None

-- a read by the host, at a physical bus number or address
pub data HostTarget : Type 0 where
  host_configuration : BusAddress → ℕ → HostTarget
  host_port : ℕ → HostTarget
  host_address : ℕ → HostTarget

pub record HostRead : Type 0 where
  pub target : HostTarget
  pub width : ℕ

abbrev pub hex_pair : ℕ → ℕ → Option ℕ
hex_pair a b = digits_in 16 (a ∷ b ∷ [])

-- BB:DD.F, with hexadecimal bus and device
abbrev pub bus_address : Text → Option BusAddress
bus_address (a ∷ b ∷ colon ∷ c ∷ d ∷ dot ∷ f ∷ []) =
    if colon == 58 && dot == 46 then
    given (hex_pair a b) (λ bus. given (below 32 (hex_pair c d)) (λ device. given (digits_in 8 (f ∷ [])) (λ function.
    Some (record { bus = bus; part = record { device = device; function = function } }))))
    else None
bus_address _ = None

abbrev pub host_at : (ℕ → HostTarget) → Text → Text → Option HostRead
host_at target a w = given (number_of a) (λ n. given (number_of w) (λ width.
    Some (record { target = target n; width = width })))

-- host ir PORT W, host mr ADDR W; host cr BB:DD.F OFF W
abbrev pub host_read_of : List Text → Option HostRead
host_read_of (op ∷ a ∷ w ∷ []) = first_of_two (on_word op (codes "ir") (host_at host_port a w))
    (on_word op (codes "mr") (host_at host_address a w))
host_read_of (op ∷ a ∷ b ∷ w ∷ []) = on_word op (codes "cr")
    (option_and_then (λ (at : BusAddress). host_at (host_configuration at) b w) (bus_address a))
host_read_of _ = None

-- the name under which a line is answered
pub data Who : Type 0 where
  guest : Text → Who
  host : Who
  nobody : Who

abbrev pub has_name : List Text → Text → Bool
has_name names w = list_any (λ n. bytes_eq n w) names

-- the word begins with #
abbrev pub is_comment : Text → Bool
is_comment [] = false
is_comment (c ∷ cs) = c == 35

-- more than 200 bytes, the line feed not counted
abbrev pub is_long : Text → Bool
is_long line = nat_lt 200 (length line)

abbrev pub has_first_word : Text → List Text → Bool
has_first_word name [] = false
has_first_word name (w ∷ ws) = bytes_eq w name

-- a line of at most 200 bytes whose first word is the name
abbrev pub is_own_line : Text → Text → Bool
is_own_line name line = not (is_long line) && has_first_word name (words line)

abbrev pub own_lines : Text → List Text → List Text
own_lines name ls = filter (is_own_line name) ls
