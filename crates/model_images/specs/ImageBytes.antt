-- The bytes of an image: a header, CONFIG_ADDRESS, and 32 slots. A function has its declaration, then a byte for each cell.
--     magic, version      the first bytes of an image, and its version
--     cell_layout, region_layout, block_layout, pin_layout, endpoint_layout      the parts of a declaration
--     values_layout, function_layout, latch_layout, image_layout      values; a function; CONFIG_ADDRESS; an image
--     declaration_bytes, image_bytes      the bytes of a declaration, and of an image
--     image_of bytes      the image that the bytes encode
--     greatest_declaration, greatest_values, greatest_function, greatest_image      the most bytes of each
use Rattle.std.specs.Prelude.{List, ℕ, ◌+◌, ◌*◌, ◌%◌, ◌==◌, Bool, true, false, if◌then◌else◌, nat_lt, length, Option}
use Rattle.model_registers.specs.{Cell.Cell, ConfigAddress.latched, Declarations.{Kind, io_kind, mem32, mem64, Region, ConfigBlock, Endpoint}, EndpointTable.endpoint_reset}
use Rattle.model_images.specs.{Images.{SavedFunction, Image, fit_cells}, Layouts.{Layout, number, checked, through, followed, both, exactly, repeated, counted, optional, whole}}

-- `PCIG`, and version 1 of images
abbrev pub magic : ℕ
magic = 0x47494350

abbrev pub version : ℕ
version = 1

-- ---- declarations

abbrev pub CellParts : Type 0
CellParts = ℕ × (ℕ × ℕ)

-- the reset value, the writable bits, the write-1-to-clear bits
abbrev pub cell_layout : Layout Cell
cell_layout =
    through (λ (x : CellParts). record { value = x.0; writable = x.1.0; clearable = x.1.1 })
    (λ (c : Cell). (c.value, (c.writable, c.clearable))) (both (number 1) (both (number 1) (number 1)))

abbrev pub kind_number : Kind → ℕ
kind_number io_kind = 0
kind_number (mem32 pref) = if pref then 2 else 1
kind_number (mem64 pref) = if pref then 4 else 3

abbrev pub kind_of : ℕ → Kind
kind_of n =
    if n == 0 then io_kind else (if n == 1 then mem32 false else (if n == 2 then mem32 true
    else (if n == 3 then mem64 false else mem64 true)))

abbrev pub kind_layout : Layout Kind
kind_layout = through kind_of kind_number (checked (λ n. nat_lt n 5) (number 1))

abbrev pub RegionParts : Type 0
RegionParts = ℕ × (Kind × (ℕ × List Cell))

-- the index, the kind, the size, then the cells at the beginning
abbrev pub region_layout : Layout Region
region_layout =
    through (λ (x : RegionParts). record { index = x.0; kind = x.1.0; size = x.1.1.0; cells = x.1.1.1 })
    (λ (r : Region). (r.index, (r.kind, (r.size, r.cells))))
    (both (number 1) (both kind_layout (both (number 8) (counted 2 cell_layout))))

abbrev pub block_layout : Layout ConfigBlock
block_layout =
    through (λ (x : ℕ × List Cell). record { offset = x.0; cells = x.1 })
    (λ (b : ConfigBlock). (b.offset, b.cells)) (both (number 1) (counted 1 cell_layout))

-- Vendor ID, Device ID, Revision ID, Class Code, the subsystem's
abbrev pub Identity : Type 0
Identity = ℕ × (ℕ × (ℕ × (ℕ × (ℕ × ℕ))))

abbrev pub identity_layout : Layout Identity
identity_layout = both (number 2) (both (number 2) (both (number 1) (both (number 3) (both (number 2) (number 2)))))

-- Interrupt Pin, and whether the function may set bit 7 of its header type
abbrev pub Pin : Type 0
Pin = ℕ × Bool

-- bit 7 is set in a function that keeps bit 7 of its header type clear
abbrev pub pin_number : Pin → ℕ
pin_number x = x.0 + (if x.1 then 0 else 0x80)

abbrev pub pin_of : ℕ → Pin
pin_of n = (n % 0x80, nat_lt n 0x80)

abbrev pub pin_layout : Layout Pin
pin_layout = checked (λ x. nat_lt x.0 0x80) (through pin_of pin_number (number 1))

-- Interrupt Pin, Min_Gnt, Max_Lat, Status at reset
abbrev pub Fixed : Type 0
Fixed = Pin × (ℕ × (ℕ × ℕ))

abbrev pub fixed_layout : Layout Fixed
fixed_layout = both pin_layout (both (number 1) (both (number 1) (number 2)))

abbrev pub EndpointParts : Type 0
EndpointParts = Identity × (Fixed × (List Region × List ConfigBlock))

abbrev pub endpoint_of_parts : EndpointParts → Endpoint
endpoint_of_parts x = record {
  vendor = x.0.0;
  device = x.0.1.0;
  revision = x.0.1.1.0;
  class = x.0.1.1.1.0;
  subvendor = x.0.1.1.1.1.0;
  subsystem = x.0.1.1.1.1.1;
  pin = x.1.0.0.0;
  min_gnt = x.1.0.1.0;
  max_lat = x.1.0.1.1.0;
  status = x.1.0.1.1.1;
  multifunction = x.1.0.0.1;
  regions = x.1.1.0;
  blocks = x.1.1.1;
}

abbrev pub parts_of_endpoint : Endpoint → EndpointParts
parts_of_endpoint d = (
  (d.vendor, (d.device, (d.revision, (d.class, (d.subvendor, d.subsystem))))),
  (((d.pin, d.multifunction), (d.min_gnt, (d.max_lat, d.status))), (d.regions, d.blocks)),
)

abbrev pub endpoint_layout : Layout Endpoint
endpoint_layout =
    through endpoint_of_parts parts_of_endpoint
    (both identity_layout (both fixed_layout (both (counted 1 region_layout) (counted 1 block_layout))))

-- ---- functions and guests

-- a byte for each cell, with a value that functions with this declaration can hold
abbrev pub values_layout : Endpoint → Layout (List ℕ)
values_layout d =
    checked (fit_cells (endpoint_reset d false)) (repeated (length (endpoint_reset d false)) (number 1))

abbrev pub function_layout : Layout SavedFunction
function_layout =
    through (λ (x : Endpoint × List ℕ). record { decl = x.0; values = x.1 })
    (λ (s : SavedFunction). (s.decl, s.values)) (followed endpoint_layout values_layout)

-- unused bits of CONFIG_ADDRESS are 0
abbrev pub latch_layout : Layout ℕ
latch_layout = checked (λ n. latched n == n) (number 4)

abbrev pub ImageParts : Type 0
ImageParts = Unit {0} × (Unit {0} × (ℕ × List (Option SavedFunction)))

abbrev pub image_layout : Layout Image
image_layout =
    through (λ (x : ImageParts). record { latch = x.1.1.0; slots = x.1.1.1 })
    (λ (i : Image). (tt, (tt, (i.latch, i.slots))))
    (both (exactly 4 magic) (both (exactly 4 version) (both latch_layout (repeated 32 (optional function_layout)))))

-- ---- as bytes

abbrev pub declaration_bytes : Endpoint → List ℕ
declaration_bytes d = endpoint_layout.bytes d

abbrev pub image_bytes : Image → List ℕ
image_bytes i = image_layout.bytes i

abbrev pub image_of : List ℕ → Option Image
image_of bytes = whole image_layout bytes

-- ---- the greatest sizes, in bytes

abbrev pub greatest_declaration : ℕ
greatest_declaration = 74784

abbrev pub greatest_values : ℕ
greatest_values = 24816

abbrev pub greatest_function : ℕ
greatest_function = greatest_declaration + greatest_values

-- the header and CONFIG_ADDRESS, then 32 slots
abbrev pub greatest_image : ℕ
greatest_image = 12 + 32 * (1 + greatest_function)
