-- Explains who answers a guest's access, or that nobody does, from its own functions and CONFIG_ADDRESS only: PCI Local Bus 3.0,
-- chapters 3.2.2.3.2 and 6.2.5.
--     ClosedRegion, closed_from      disabled regions of a guest's functions that contain an address, by slot, then by register
--     Finding, guest_finding g t      the target of a byte at a place
--     guest_why_text g t      the text of the explanation
--     FoundAsLocated      it is the target of the guest's accesses
--     ClosedAreTrue, ClosedAreAll      if nobody answers, exactly these regions are reported
--     GuestExamples      the explanations of some places
use Rattle.std.specs.{Prelude.{List, [], ◌∷◌, ◌++◌, ◌≡◌, ℕ, ◌+◌, Bool, ◌&&◌, if◌then◌else◌, nat_le, nat_lt, Option, Some, None, map, filter, codes, decimal, false, true}, Option.option_map_or}
use Rattle.lists.specs.Elements.{IsIn, Each}
use Rattle.model_registers.specs.{Registers.{File, Place, config, block}, Declarations.Region, Decoding.{Space, io, memory, same_space, space_of, base, Function, command_word, is_open}}
use Rattle.model_board.specs.{Cycles.BusAddress, Ports.selected}
use Rattle.model_guests.specs.{Accesses.{Target, configuration, port, address}, Slots.{Slots, slot_at, Landing, landing}, Lone.{LoneGuest, Destination, own_latch, no_function, at_target, destination}, Text.{Text, text_of_lines}, PathTexts.hexadecimal}
use Rattle.model_findings.specs.AuditText.{register_text, number_text}
use Rattle.model_handoff.specs.Located.{located}
use Rattle.model_lines.specs.{WhyText.{disabled_text, why_line}, WhyPorts.{port_use, use_lines}}

-- ---- the target of an access

-- the address of a region of the function in a slot, and the Command that disables its space
pub record ClosedRegion : Type 0 where
  pub slot : ℕ
  pub index : ℕ
  pub first : ℕ
  pub size : ℕ
  pub command : ℕ

abbrev pub closed_region : ℕ → File → Region → ClosedRegion
closed_region slot file r = record {
  slot = slot;
  index = r.index;
  first = base file r.index r.kind;
  size = r.size;
  command = command_word file;
}

abbrev pub region_holds : Space → ℕ → File → Region → Bool
region_holds space n file r =
    same_space (space_of r.kind) space && nat_le (base file r.index r.kind) n
    && nat_lt n (base file r.index r.kind + r.size)

abbrev pub closed_of : Space → ℕ → ℕ → Function → List ClosedRegion
closed_of space n slot f =
    if is_open f.file space then []
    else map (closed_region slot f.file) (filter (region_holds space n f.file) f.decl.regions)

-- the first slot of the list has this number
abbrev pub closed_from : Space → ℕ → ℕ → Slots → List ClosedRegion
closed_from space n slot [] = []
closed_from space n slot (f ∷ fs) = option_map_or (closed_of space n slot) f [] ++ closed_from space n (slot + 1) fs

pub data Finding : Type 0 where
  -- a region, or a byte of configuration space
  answers : Landing → Finding
  -- nobody answers; these regions contain the address
  nobody : List ClosedRegion → Finding
  -- the slot is empty
  empty : ℕ → Finding
  -- CONFIG_ADDRESS selects something other than a slot's function
  no_slot : BusAddress → Finding

abbrev pub lost : Slots → Target → Finding
lost slots (configuration slot off) = empty slot
lost slots (port a) = nobody (closed_from io a 0 slots)
lost slots (address a) = nobody (closed_from memory a 0 slots)

abbrev pub finding : LoneGuest → Destination → Finding
finding g own_latch = nobody []
finding g no_function = no_slot (selected g.latch)
finding g (at_target t) = option_map_or answers (landing g.slots t) (lost g.slots t)

abbrev pub guest_finding : LoneGuest → Target → Finding
guest_finding g t = finding g (destination g.latch 1 t)

-- ---- laws

abbrev pub landing_of : Finding → Option Landing
landing_of (answers l) = Some l
landing_of (nobody cs) = None
landing_of (empty slot) = None
landing_of (no_slot at) = None

abbrev pub FoundAsLocated : Type 0
FoundAsLocated = (g : LoneGuest) (t : Target) → landing_of (guest_finding g t) ≡ located g t

pub record IsClosedThere (space : Space) (n : ℕ) (slots : Slots) (c : ClosedRegion) : Type 0 where
  pub function : Function
  pub there : slot_at slots c.slot ≡ Some function
  pub region : Region
  pub declared : IsIn region function.decl.regions
  pub region_is : c ≡ closed_region c.slot function.file region
  pub byte : region_holds space n function.file region ≡ true
  pub closed : is_open function.file space ≡ false

abbrev pub ClosedAreTrue : Type 0
ClosedAreTrue = (space : Space) (n : ℕ) (slots : Slots)
    → Each (IsClosedThere space n slots) (closed_from space n 0 slots)

abbrev pub ClosedAreAll : Type 0
ClosedAreAll = (space : Space) (n : ℕ) (slots : Slots) (slot : ℕ) (f : Function) → slot_at slots slot ≡ Some f
    → (r : Region) → IsIn r f.decl.regions → region_holds space n f.file r ≡ true → is_open f.file space ≡ false
    → IsIn (closed_region slot f.file r) (closed_from space n 0 slots)

-- ---- text

abbrev pub slot_text : ℕ → Text
slot_text slot = codes "slot " ++ decimal slot

abbrev pub target_text : Target → Text
target_text (configuration slot off) = slot_text slot ++ codes " offset " ++ hexadecimal off
target_text (port a) = codes "I/O " ++ hexadecimal a
target_text (address a) = codes "memory " ++ hexadecimal a

abbrev pub place_text : Place → Text
place_text (config off) = codes " configuration space responds at offset " ++ hexadecimal off
place_text (block n off) = register_text n ++ codes " responds at offset " ++ hexadecimal off

abbrev pub finding_text : Finding → Text
finding_text (answers l) = slot_text l.slot ++ place_text l.place
finding_text (nobody cs) = codes "nothing responds"
finding_text (empty slot) = slot_text slot ++ codes " is empty"
finding_text (no_slot at) = codes "there is no slot at " ++ number_text at

abbrev pub closed_text : ClosedRegion → Text
closed_text c =
    slot_text c.slot ++ register_text c.index ++ codes " at " ++ hexadecimal c.first ++ codes " size "
    ++ hexadecimal c.size ++ codes ": " ++ disabled_text c.command

abbrev pub closed_lines : Finding → List Text
closed_lines (answers l) = []
closed_lines (nobody cs) = map closed_text cs
closed_lines (empty slot) = []
closed_lines (no_slot at) = []

-- the target of a port according to the guest's CONFIG_ADDRESS
abbrev pub target_lines : ℕ → Target → List Text
target_lines latch (configuration slot off) = []
target_lines latch (port a) = use_lines latch a (port_use latch a)
target_lines latch (address a) = []

abbrev pub guest_lines : LoneGuest → Target → Finding → List Text
guest_lines g t f =
    target_lines g.latch t ++ (target_text t ++ codes ": " ++ finding_text f) ∷ closed_lines f

abbrev pub guest_why_text : LoneGuest → Target → Text
guest_why_text g t = text_of_lines (map why_line (guest_lines g t (guest_finding g t)))
