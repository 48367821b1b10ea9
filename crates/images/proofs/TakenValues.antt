-- Values that are taken one after the other.
use Rattle.std.{proofs.{Common.{◌≡◌, ℕ, ◌+◌, ◌-◌, ◌/◌, ◌%◌, ◌<◌, ◌≤◌, inl, inr, true, false, List, [], ◌∷◌, ◌++◌, length, drop, Ok, Err, refl, ap, ◌∙◌, subst, arith}, lemmas.Bool.Decides.nat_tests}, specs.Prelude.flat_map}
use Rattle.lists.specs.Elements.{Each}
use Rattle.model_registers.specs.{Cell.Cell, Registers.{config, block, PlacedCell, File, field, cells_from}, Declarations.{Region, ConfigBlock, Endpoint}, DeclarationRules.{IsInPlace, IsConfigBlock}, EndpointTable.{base_cells, block_cells, header_cells, endpoint_reset}, DeviceBytes.is_device_byte}
use Rattle.model_images.{specs.{Images.can_hold, LoadedBytes.{then_read, after_values}}, proofs.BlockCounts.many_cells}
use Rattle.model_registers.specs.EndpointTable as table

values_both : (xs ys : File) (bytes : List ℕ) → after_values (xs ++ ys) bytes ≡ then_read (after_values ys) (after_values xs bytes)
values_both [] ys bytes = refl
values_both (x ∷ xs) ys [] = refl
values_both (x ∷ xs) ys (b ∷ bytes) = grind (arith, values_both xs ys bytes)

pub values_go_on : (xs ys : File) (bytes rest : List ℕ) → after_values xs bytes ≡ Ok rest → after_values (xs ++ ys) bytes ≡ after_values ys rest
values_go_on xs ys bytes rest h = values_both xs ys bytes ∙ ap (then_read (after_values ys)) h

pub values_end : (n : ℕ) (xs ys : File) (bytes : List ℕ) → after_values xs bytes ≡ Err n → after_values (xs ++ ys) bytes ≡ Err n
values_end n xs ys bytes h = values_both xs ys bytes ∙ ap (then_read (after_values ys)) h

-- the first of a list
pub values_go_on_of : {A : Type 0} (f : A → File) (x : A) (left others : List A) (bytes rest : List ℕ) → left ≡ x ∷ others → after_values (f x) bytes ≡ Ok rest
    → after_values (flat_map f others) rest ≡ after_values (flat_map f left) bytes
values_go_on_of f x left others bytes rest first h = grind (arith, values_go_on)

pub values_end_of : {A : Type 0} (f : A → File) (x : A) (left others : List A) (n : ℕ) (bytes : List ℕ) → left ≡ x ∷ others → after_values (f x) bytes ≡ Err n
    → after_values (flat_map f left) bytes ≡ Err n
values_end_of f x left others n bytes first h = grind (arith, values_end)

-- ---- one register

abbrev first_cell : ℕ → ℕ → ℕ → ℕ → PlacedCell
first_cell a v w c = record { place = config a; cell = record { value = v % 256; writable = w % 256; clearable = c % 256 } }

field_next : (a n v w c : ℕ) → 0 < n → field (config a) n v w c ≡ first_cell a v w c ∷ field (config (a + 1)) (n - 1) (v / 256) (w / 256) (c / 256)
field_next a n v w c h = grind arith

pub byte_taken : (a n v w c b : ℕ) (bytes rest : List ℕ) → 0 < n → bytes ≡ b ∷ rest → can_hold (first_cell a v w c) b ≡ true
    → after_values (field (config (a + 1)) (n - 1) (v / 256) (w / 256) (c / 256)) rest ≡ after_values (field (config a) n v w c) bytes
byte_taken a n v w c b bytes rest some first holds = grind (arith, field_next)

pub byte_refused : (a n v w c b : ℕ) (bytes rest : List ℕ) → 0 < n → bytes ≡ b ∷ rest → can_hold (first_cell a v w c) b ≡ false → after_values (field (config a) n v w c) bytes ≡ Err 905
byte_refused a n v w c b bytes rest some first holds = grind (arith, field_next)

pub byte_missing : (a n v w c : ℕ) (bytes : List ℕ) → 0 < n → bytes ≡ [] → after_values (field (config a) n v w c) bytes ≡ Err 905
byte_missing a n v w c bytes some none = grind (arith, field_next)

pub all_taken : (a n v w c : ℕ) (bytes : List ℕ) → n ≡ 0 → after_values (field (config a) n v w c) bytes ≡ Ok bytes
all_taken a n v w c bytes none = ap (λ k. after_values (field (config a) k v w c) bytes) none

-- ---- a device's own bytes

abbrev AreDevice : File → Type 0
AreDevice file = Each (λ (e : PlacedCell). is_device_byte e.place ≡ true) file

any_holds : (e : PlacedCell) (b : ℕ) → is_device_byte e.place ≡ true → can_hold e b ≡ true
any_holds e b h = grind arith

any_taken : (file : File) (bytes : List ℕ) → AreDevice file → length file ≤ length bytes → after_values file bytes ≡ Ok (drop (length file) bytes)
any_taken [] bytes all room = refl
any_taken (e ∷ es) [] all room = absurd (omega arith)
any_taken (e ∷ es) (b ∷ bytes) all room = grind (arith, any_holds, any_taken es bytes all.1)

any_missing : (file : File) (bytes : List ℕ) → AreDevice file → length bytes < length file → after_values file bytes ≡ Err 905
any_missing [] bytes all room = absurd (omega arith)
any_missing (e ∷ es) [] all room = refl
any_missing (e ∷ es) (b ∷ bytes) all room = grind (arith, any_holds, any_missing es bytes all.1)

own_cells : (a : ℕ) (cs : List Cell) → 0x40 ≤ a → AreDevice (cells_from (config a) cs)
own_cells a [] h = tt
own_cells a (c ∷ cs) h = (grind (arith, nat_tests), own_cells (a + 1) cs (omega arith))

pointer_cells : (a : ℕ) (cs : List Cell) → a ≡ 0x34 → length cs ≡ 1 → AreDevice (cells_from (config a) cs)
pointer_cells a [] is one = tt
pointer_cells a (c ∷ []) is one = (grind (arith, nat_tests), tt)
pointer_cells a (c ∷ e ∷ cs) is one = absurd (omega (arith, one))

block_cells_are : (a : ℕ) (cs : List Cell) → IsInPlace a (length cs) → AreDevice (cells_from (config a) cs)
block_cells_are a cs (inl low) = own_cells a cs low
block_cells_are a cs (inr is) = pointer_cells a cs is.0 is.1

pub first_in_place : (b : ConfigBlock) (left rest : List ConfigBlock) → Each IsConfigBlock left → left ≡ b ∷ rest → IsInPlace b.offset (length b.cells)
first_in_place b left rest all first = (subst (Each IsConfigBlock) first all).0.in_place

region_cells : (n a : ℕ) (cs : List Cell) → AreDevice (cells_from (block n a) cs)
region_cells n a [] = tt
region_cells n a (c ∷ cs) = (refl, region_cells n (a + 1) cs)

pub block_taken : (a : ℕ) (cs : List Cell) (bytes rest : List ℕ) → IsInPlace a (length cs) → length cs ≤ length bytes → rest ≡ drop (length cs) bytes → after_values (cells_from (config a) cs) bytes ≡ Ok rest
block_taken a cs bytes rest low room left = grind (arith, many_cells, any_taken, block_cells_are)

pub block_missing : (a : ℕ) (cs : List Cell) (bytes : List ℕ) → IsInPlace a (length cs) → length bytes < length cs → after_values (cells_from (config a) cs) bytes ≡ Err 905
block_missing a cs bytes low room = let many = many_cells (config a) cs in any_missing (cells_from (config a) cs) bytes (block_cells_are a cs low) (omega arith)

pub region_taken : (n : ℕ) (cs : List Cell) (bytes rest : List ℕ) → length cs ≤ length bytes → rest ≡ drop (length cs) bytes → after_values (cells_from (block n 0) cs) bytes ≡ Ok rest
region_taken n cs bytes rest room left = grind (arith, many_cells, any_taken, region_cells)

pub region_missing : (n : ℕ) (cs : List Cell) (bytes : List ℕ) → length bytes < length cs → after_values (cells_from (block n 0) cs) bytes ≡ Err 905
region_missing n cs bytes room = let many = many_cells (block n 0) cs in any_missing (cells_from (block n 0) cs) bytes (region_cells n 0 cs) (omega arith)

-- ---- a region

abbrev pub region_reset : Region → File
region_reset r = table.region_cells (λ x. 0) r

pub region_goes_on : (r : Region) (bytes cells rest : List ℕ) → after_values (base_cells r.index r.kind r.size 0) bytes ≡ Ok cells → length r.cells ≤ length cells → rest ≡ drop (length r.cells) cells
    → after_values (region_reset r) bytes ≡ Ok rest
region_goes_on r bytes cells rest base room left =
    values_go_on (base_cells r.index r.kind r.size 0) (cells_from (block r.index 0) r.cells) bytes cells base ∙ region_taken r.index r.cells cells rest room left

pub region_ends : (r : Region) (bytes cells : List ℕ) → after_values (base_cells r.index r.kind r.size 0) bytes ≡ Ok cells → length cells < length r.cells → after_values (region_reset r) bytes ≡ Err 905
region_ends r bytes cells base room =
    values_go_on (base_cells r.index r.kind r.size 0) (cells_from (block r.index 0) r.cells) bytes cells base ∙ region_missing r.index r.cells cells room

pub base_ends : (r : Region) (n : ℕ) (bytes : List ℕ) → after_values (base_cells r.index r.kind r.size 0) bytes ≡ Err n → after_values (region_reset r) bytes ≡ Err n
base_ends r n bytes h = values_end n (base_cells r.index r.kind r.size 0) (cells_from (block r.index 0) r.cells) bytes h

-- ---- an endpoint

-- three parts, as they are walked
endpoint_parts : (d : Endpoint) (bs : List ConfigBlock) (rs : List Region) → bs ≡ d.blocks → rs ≡ d.regions
    → endpoint_reset d false ≡ (header_cells d false 0 ++ flat_map block_cells bs) ++ flat_map region_reset rs
endpoint_parts d bs rs blocks regions = rw (blocks, regions) refl

module _ (d : Endpoint) (bs : List ConfigBlock) (rs : List Region) (blocks : bs ≡ d.blocks) (regions : rs ≡ d.regions) (bytes : List ℕ) where
  abbrev header : File
  header = header_cells d false 0

  abbrev front : File
  front = header ++ flat_map block_cells bs

  in_parts : after_values (endpoint_reset d false) bytes ≡ after_values (front ++ flat_map region_reset rs) bytes
  in_parts = ap (λ (file : File). after_values file bytes) (endpoint_parts d bs rs blocks regions)

  pub header_ends : (n : ℕ) → after_values header bytes ≡ Err n → after_values (endpoint_reset d false) bytes ≡ Err n
  header_ends n h = in_parts ∙ values_end n front (flat_map region_reset rs) bytes (values_end n header (flat_map block_cells bs) bytes h)

  module _ (next : List ℕ) (first : after_values header bytes ≡ Ok next) where
    pub blocks_end : (n : ℕ) → after_values (flat_map block_cells bs) next ≡ Err n → after_values (endpoint_reset d false) bytes ≡ Err n
    blocks_end n h = in_parts ∙ values_end n front (flat_map region_reset rs) bytes (values_go_on header (flat_map block_cells bs) bytes next first ∙ h)

    pub regions_decide : (rest : List ℕ) → after_values (flat_map block_cells bs) next ≡ Ok rest → after_values (endpoint_reset d false) bytes ≡ after_values (flat_map region_reset rs) rest
    regions_decide rest h = in_parts ∙ values_go_on front (flat_map region_reset rs) bytes rest (values_go_on header (flat_map block_cells bs) bytes next first ∙ h)

pub header_ends_of : (d : Endpoint) (bytes : List ℕ) (n : ℕ) → after_values (header_cells d false 0) bytes ≡ Err n → after_values (endpoint_reset d false) bytes ≡ Err n
header_ends_of d bytes n h = header_ends d d.blocks d.regions refl refl bytes n h

pub blocks_end_of : (d : Endpoint) (bs : List ConfigBlock) (bytes next : List ℕ) (n : ℕ) → bs ≡ d.blocks → after_values (header_cells d false 0) bytes ≡ Ok next
    → after_values (flat_map block_cells bs) next ≡ Err n → after_values (endpoint_reset d false) bytes ≡ Err n
blocks_end_of d bs bytes next n blocks first h = blocks_end d bs d.regions blocks refl bytes next first n h
