-- The report of a board after set-up: functions in path order with their regions and interrupts, windows, and guests. It
-- is defined by the board itself: its functions, bus numbers, placed regions and windows, and interrupt pins.
--     numbers_text      bus, device and function number as BB:DD.F
--     base_line, pin_line      the line of a region; the line of a pin, with the device and pin on bus 0 that it reaches
--     region_lines      the regions of an endpoint, each at its placed address
--     interrupt_lines      the pin of an endpoint, if it has one
--     window_lines      the windows of a bridge that have something placed behind them
--     function_lines      an endpoint with its regions and its interrupt, or a bridge with its buses and windows
--     guest_lines      the slots of a guest
--     report_lines, report      all lines of a world's report, and the whole text
use Rattle.std.specs.Prelude.{List, [], ◌∷◌, ℕ, ◌+◌, ◌-◌, ◌++◌, true, false, if◌then◌else◌, ◌==◌, flat_map, map, not, count_by, codes, decimal}
use Rattle.model_registers.specs.{Declarations.{Kind, io_kind, mem32, mem64, Endpoint, Bridge}, EndpointTable.BaseAddress, Apertures.Apertures}
use Rattle.model_board.specs.{Paths.{Path, last_part}, Board.{endpoint, bridge, is_bridge, Row, Board}, BusNumbers.{bus_of, secondary, subordinate}, Interrupts.{root_device, root_pin}}
use Rattle.model_set_up.specs.{Pools.{Pool, io_pool, mem_pool, pref_pool, unit_of}, Placement.{PlacementItem, need, items_on, bus_first}, SetUpWrites.placed_base}
use Rattle.model_guests.specs.{Text.{Text, text_of_lines}, World.{Guest, World}, PathTexts.{hexadecimal, path_text}, Replies.hex_digits}

-- ---- fields

abbrev pub numbers_text : (bus device function : ℕ) → Text
numbers_text bus device function = hex_digits 2 bus ++ codes ":" ++ hex_digits 2 device ++ codes "." ++ decimal function

abbrev pub kind_text : Kind → Text
kind_text io_kind = codes "io"
kind_text (mem32 false) = codes "mem32"
kind_text (mem32 true) = codes "mem32p"
kind_text (mem64 false) = codes "mem64"
kind_text (mem64 true) = codes "mem64p"

-- INTA to INTD
abbrev pub pin_text : ℕ → Text
pin_text pin = codes "INT" ++ (64 + pin) ∷ []

-- Vendor ID and Device ID
abbrev pub identity_text : ℕ → ℕ → Text
identity_text vendor device = hex_digits 4 vendor ++ codes ":" ++ hex_digits 4 device

-- Primary, Secondary and Subordinate Bus Number
abbrev pub range_text : ℕ → ℕ → ℕ → Text
range_text bus first last =
    codes " buses " ++ hex_digits 2 bus ++ codes " " ++ hex_digits 2 first ++ codes " " ++ hex_digits 2 last

-- ---- lines of a function

-- the start of the first line, which endpoints and bridges have in common
abbrev pub head_text : ℕ → Path → Text → Text → Text
head_text bus p kind identity =
    numbers_text bus (last_part p).device (last_part p).function ++ codes " " ++ path_text p ++ kind ++ identity

abbrev pub base_line : BaseAddress → Text
base_line r =
    codes "  bar" ++ decimal r.index ++ codes " " ++ kind_text r.kind ++ codes " at " ++ hexadecimal r.base
    ++ codes " size " ++ hexadecimal r.size

abbrev pub region_lines : Board → Apertures → Path → Endpoint → List Text
region_lines b a p d = map (λ r. base_line (placed_base b a p r)) d.regions

abbrev pub pin_line : Path → ℕ → Text
pin_line p pin =
    codes "  irq " ++ pin_text pin ++ codes " at " ++ decimal (root_device p) ++ codes " " ++ pin_text (root_pin p pin)

-- pin 0 means that there is none
abbrev pub interrupt_lines : Path → ℕ → List Text
interrupt_lines p pin = if pin == 0 then [] else pin_line p pin ∷ []

abbrev pub addresses_line : Text → ℕ → ℕ → Text
addresses_line name first last = codes "  " ++ name ++ codes " " ++ hexadecimal first ++ codes " " ++ hexadecimal last

-- the window of a bus that starts at an address, with the size that its items need
abbrev pub items_lines : Text → (unit first : ℕ) → List PlacementItem → List Text
items_lines name unit first [] = []
items_lines name unit first (i ∷ is) = addresses_line name first (first + need unit (i ∷ is) - 1) ∷ []

abbrev pub pool_lines : Board → Apertures → Path → Text → Pool → List Text
pool_lines b a p name pool = items_lines name (unit_of pool) (bus_first b a pool p) (items_on b a pool p)

abbrev pub window_lines : Board → Apertures → Path → List Text
window_lines b a p =
    pool_lines b a p (codes "io") io_pool ++ pool_lines b a p (codes "mem") mem_pool
    ++ pool_lines b a p (codes "pref") pref_pool

abbrev pub endpoint_lines : Board → Apertures → Path → Endpoint → List Text
endpoint_lines b a p d =
    head_text (bus_of b p) p (codes " endpoint ") (identity_text d.vendor d.device)
    ∷ (region_lines b a p d ++ interrupt_lines p d.pin)

abbrev pub bridge_lines : Board → Apertures → Path → Bridge → List Text
bridge_lines b a p d =
    (head_text (bus_of b p) p (codes " bridge ") (identity_text d.vendor d.device)
    ++ range_text (bus_of b p) (secondary b p) (subordinate b p))
    ∷ window_lines b a p

abbrev pub function_lines : Board → Apertures → Row → List Text
function_lines b a r =
    elim r.decl [ endpoint d ↦ endpoint_lines b a r.path d | bridge d ↦ bridge_lines b a r.path d ]

-- ---- guests, and the whole

abbrev pub slot_line : Text → ℕ → Path → Text
slot_line name n p = codes "guest " ++ name ++ codes " slot " ++ decimal n ++ codes " " ++ path_text p

abbrev pub slot_lines : Text → ℕ → List Path → List Text
slot_lines name n [] = []
slot_lines name n (p ∷ ps) = slot_line name n p ∷ slot_lines name (n + 1) ps

abbrev pub guest_lines : Guest → List Text
guest_lines g = slot_lines g.name 0 g.slots

abbrev pub counts_text : (endpoints bridges : ℕ) → Text
counts_text endpoints bridges = codes "endpoints " ++ decimal endpoints ++ codes " bridges " ++ decimal bridges

abbrev pub counts_line : Board → Text
counts_line b = counts_text (count_by (λ r. not (is_bridge r.decl)) b) (count_by (λ r. is_bridge r.decl) b)

abbrev pub report_lines : World → List Text
report_lines w =
    counts_line w.board
    ∷ (flat_map (function_lines w.board w.apertures) w.board ++ flat_map guest_lines w.guests)

abbrev pub report : World → Text
report w = text_of_lines (report_lines w)
