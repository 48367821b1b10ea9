-- A capability list is found as it was declared.
use Rattle.std.{proofs.{Common.{◌≡◌, ℕ, ◌+◌, ◌/◌, ◌%◌, ◌<◌, ◌≤◌, ◌⊎◌, Bool, true, false, ◌&&◌, List, [], ◌∷◌, ◌++◌, length, refl, sym, ap, ◌∙◌, subst, arith, ltb, append_assoc}, lemmas.{Bool.{Decides.nat_tests, and_parts, ltb-true}, Nat.{and_mask, and_mod, and_or_self, and_or_apart}}, Math.Nat.{mod-eq_of_lt}}, specs.{Prelude.{⊤, IsTrue, bit_and, bit_or, flat_map}}}
use Rattle.lists.specs.Elements.{Each, EachPair}
use Rattle.model_registers.{specs.{Cell.{Cell, constant, IsConstant, no_cell, written, raised}, Registers.{Place, config, block, place_eq, after, File, cell_at, changed, write, cells_from}, Declarations.{ConfigBlock, Region, Endpoint}, DeclarationRules.{blocks_apart, IsConfigBlock, IsLawfulEndpoint}, EndpointTable.{block_cells, header_cells, region_cells, endpoint_file}, CopiedFiles.agreed_file, Capabilities.{Capability, first_offset_or_zero, structure, structures, pointer, with_capabilities, byte, Finds, ShowsList, Change, write_of, raise_of, after_change, after_changes, ListStays}}, proofs.{RegisterFiles.{change_at_place, place_same, self, above, below}, ConstantCells.{constant_written, constant_raised, no_cell_stays, raised_none}, Owned.same_cell}}

-- ---- a byte that always reads the same

abbrev Holds : File → Place → ℕ → Type 0
Holds file p v = cell_at file p ≡ constant v

byte_constant : (v : ℕ) → v < 256 → IsConstant (constant v)
byte_constant v h = (and_mask v 8 ∙ mod-eq_of_lt h, refl, refl)

changed_still : (f : Cell → Cell) → f no_cell ≡ no_cell → (v : ℕ) → f (constant v) ≡ constant v → (file : File) (p q : Place) → Holds file q v → Holds (changed f p file) q v
changed_still f none v still file p q h = change_at_place f none file p q ∙ same_cell (place_eq p q) (f (cell_at file q)) (cell_at file q) (λ here. ap f h ∙ still ∙ sym h) ∙ h

write_still : (ons : List Bool) (x v : ℕ) → v < 256 → (p q : Place) (file : File) → Holds file q v → Holds (write ons x p file) q v
write_still [] x v fits p q file h = h
write_still (true ∷ ons) x v fits p q file h =
    write_still ons (x / 256) v fits (after p) q (changed (written (x % 256)) p file)
    (changed_still (written (x % 256)) (no_cell_stays (x % 256)) v (constant_written (x % 256) (constant v) (byte_constant v fits)) file p q h)
write_still (false ∷ ons) x v fits p q file h = write_still ons (x / 256) v fits (after p) q file h

change_still : (c : Change) (v : ℕ) → v < 256 → (q : Place) (file : File) → Holds file q v → Holds (after_change file c) q v
change_still (write_of ons x p) v fits q file h = write_still ons x v fits p q file h
change_still (raise_of m p) v fits q file h = changed_still (raised m) (raised_none m) v (constant_raised m (constant v) (byte_constant v fits)) file p q h

pub changes_still : (cs : List Change) (v : ℕ) → v < 256 → (q : Place) (file : File) → Holds file q v → Holds (after_changes file cs) q v
changes_still [] v fits q file h = h
changes_still (c ∷ cs) v fits q file h = changes_still cs v fits q (after_change file c) (change_still c v fits q file h)

-- ---- the header of each structure

abbrev HoldsEach : File → List Capability → Type 0
HoldsEach file [] = ⊤
HoldsEach file (c ∷ cs) = Holds file (config c.offset) c.id × Holds file (config (c.offset + 1)) (first_offset_or_zero cs) × HoldsEach file cs

-- no cell of the file is at an offset
abbrev Passes : File → ℕ → Type 0
Passes file q = (rest : File) → cell_at (file ++ rest) (config q) ≡ cell_at rest (config q)

abbrev PassesEach : File → List Capability → Type 0
PassesEach file cs = Each (λ (c : Capability). Passes file c.offset × Passes file (c.offset + 1)) cs

behind : (file rest : File) (cs : List Capability) → PassesEach file cs → HoldsEach rest cs → HoldsEach (file ++ rest) cs
behind file rest [] pass h = tt
behind file rest (c ∷ cs) pass h = (pass.0.0 rest ∙ h.0, pass.0.1 rest ∙ h.1, behind file rest cs pass.1 h.2)

cells_passed : (cs : List Cell) (a q : ℕ) → (q < a) ⊎ (a + length cs ≤ q) → Passes (cells_from (config a) cs) q
cells_passed [] a q h rest = refl
cells_passed (c ∷ cs) a q h rest = grind (arith, above, below, cells_passed cs (a + 1) q)

-- a structure takes two bytes or more
two_passed : (b : ConfigBlock) (c : Capability) (next : ℕ) → IsTrue (blocks_apart b (structure c next)) → Passes (block_cells b) c.offset × Passes (block_cells b) (c.offset + 1)
two_passed b c next apart =
    let outside : (c.offset + 2 ≤ b.offset) ⊎ (b.offset + length b.cells ≤ c.offset) = grind (arith, nat_tests) in
    (cells_passed b.cells b.offset c.offset (grind arith), cells_passed b.cells b.offset (c.offset + 1) (grind arith))

block_passed : (b : ConfigBlock) (cs : List Capability) (more : List ConfigBlock) → Each (λ (e : ConfigBlock). IsTrue (blocks_apart b e)) (structures cs ++ more) → PassesEach (block_cells b) cs
block_passed b [] more h = tt
block_passed b (c ∷ cs) more h = (two_passed b c (first_offset_or_zero cs) h.0, block_passed b cs more h.1)

first_two : (c : Capability) (next : ℕ) (rest : File) → Holds (block_cells (structure c next) ++ rest) (config c.offset) c.id × Holds (block_cells (structure c next) ++ rest) (config (c.offset + 1)) next
first_two c next rest = grind (arith, self, below, above)

pub structures_held : (cs : List Capability) (more : List ConfigBlock) (rest : File) → EachPair (λ (b e : ConfigBlock). IsTrue (blocks_apart b e)) (structures cs ++ more) → HoldsEach (flat_map block_cells (structures cs ++ more) ++ rest) cs
structures_held [] more rest apart = tt
structures_held (c ∷ cs) more rest apart =
    let own : File = block_cells (structure c (first_offset_or_zero cs)) in
    let others : File = flat_map block_cells (structures cs ++ more) in
    let here = first_two c (first_offset_or_zero cs) (others ++ rest) in
    let all : HoldsEach (own ++ (others ++ rest)) (c ∷ cs) = (here.0, here.1, behind own (others ++ rest) cs (block_passed (structure c (first_offset_or_zero cs)) cs more apart.0) (structures_held cs more rest apart.1)) in
    subst (λ (f : File). HoldsEach f (c ∷ cs)) (sym (append_assoc own others rest)) all

-- ---- what is before the structures

is_low : Place → Bool
is_low (config a) = ltb a 0x40
is_low (block n a) = true

are_low : File → Bool
are_low [] = true
are_low (e ∷ es) = is_low e.place && are_low es

low_apart : (p : Place) (q : ℕ) → is_low p ≡ true → 0x40 ≤ q → place_eq p (config q) ≡ false
unfolding is_low
low_apart p q h high = grind (arith, ltb-true, below)

low_passed : (file : File) (q : ℕ) → are_low file ≡ true → 0x40 ≤ q → Passes file q
unfolding are_low
low_passed [] q h high rest = refl
low_passed (e ∷ es) q h high rest = grind (arith, and_parts, low_apart, low_passed es q)

header_low : (d : Endpoint) (multifunction : Bool) (command : ℕ) → are_low (header_cells d multifunction command) ≡ true
unfolding are_low is_low
header_low d multifunction command = refl

pointer_low : (cs : List Capability) → are_low (block_cells (pointer cs)) ≡ true
unfolding are_low is_low
pointer_low cs = refl

-- a structure isn't the pointer, which has one byte
pub record IsPlaced (c : Capability) : Type 0 where
  pub high : 0x40 ≤ c.offset
  pub ends : c.offset + 2 ≤ 0x100

placed : (c : Capability) (next : ℕ) → IsConfigBlock (structure c next) → IsPlaced c
placed c next is =
    let ends : c.offset + (2 + length c.cells) ≤ 0x100 = grind (arith, is.ends) in
    record { high = grind (arith, is.in_place); ends = omega (arith, ends) }

all_placed : (cs : List Capability) (more : List ConfigBlock) → Each IsConfigBlock (structures cs ++ more) → Each IsPlaced cs
all_placed [] more h = tt
all_placed (c ∷ cs) more h = (placed c (first_offset_or_zero cs) h.0, all_placed cs more h.1)

placed_passed : (file : File) → are_low file ≡ true → (cs : List Capability) → Each IsPlaced cs → PassesEach file cs
placed_passed file low [] h = tt
placed_passed file low (c ∷ cs) h =
    let high : 0x40 ≤ c.offset = h.0.high in
    ((low_passed file c.offset low high, low_passed file (c.offset + 1) low (omega (arith, high))), placed_passed file low cs h.1)

-- ---- the walk

next_fits : (cs : List Capability) → Each IsPlaced cs → first_offset_or_zero cs < 256
next_fits [] h = omega arith
next_fits (c ∷ cs) h = let ends : c.offset + 2 ≤ 0x100 = h.0.ends in omega (arith, ends)

pub held_byte : (file : File) (off v : ℕ) → Holds file (config off) v → byte file off ≡ v
held_byte file off v h = let same : (cell_at file (config off)).value ≡ v = ap (λ (c : Cell). c.value) h in omega (arith, same)

walk_of : (file : File) (cs : List Capability) (at : ℕ) → at ≡ first_offset_or_zero cs → HoldsEach file cs → Finds file at cs
walk_of file [] at e h = e
walk_of file (c ∷ cs) at e h =
    let id : byte file at ≡ c.id = ap (byte file) e ∙ held_byte file c.offset c.id h.0 in
    let next : byte file (at + 1) ≡ first_offset_or_zero cs = ap (λ n. byte file (n + 1)) e ∙ held_byte file (c.offset + 1) (first_offset_or_zero cs) h.1 in
    (e, id, walk_of file cs (byte file (at + 1)) next h.2)

-- ---- a file with a list

-- the cells in which an endpoint, apart from its list, has this list
pub record HoldsList (d : Endpoint) (cs : List Capability) (file : File) : Type 0 where
  pub places : Each IsPlaced cs
  pub ids : Each (λ (c : Capability). c.id < 256) cs
  pub status : Holds file (config 6) (bit_or d.status 0x10 % 256)
  pub start : Holds file (config 0x34) (first_offset_or_zero cs)
  pub headers : HoldsEach file cs

-- a byte that always reads the same in both files does so in the third
abbrev pub Joins : File → File → File → Type 0
Joins one two file = (q : Place) (v : ℕ) → v < 256 → Holds one q v → Holds two q v → Holds file q v

headers_joined : (one two file : File) → Joins one two file → (cs : List Capability) → Each IsPlaced cs → Each (λ (c : Capability). c.id < 256) cs → HoldsEach one cs → HoldsEach two cs → HoldsEach file cs
headers_joined one two file joins [] at ids h k = tt
headers_joined one two file joins (c ∷ cs) at ids h k =
    (joins (config c.offset) c.id ids.0 h.0 k.0, joins (config (c.offset + 1)) (first_offset_or_zero cs) (next_fits cs at.1) h.1 k.1, headers_joined one two file joins cs at.1 ids.1 h.2 k.2)

list_joined : (one two file : File) → Joins one two file → (d : Endpoint) (cs : List Capability) → HoldsList d cs one → HoldsList d cs two → HoldsList d cs file
list_joined one two file joins d cs h k = record {
  places = h.places;
  ids = h.ids;
  status = joins (config 6) (bit_or d.status 0x10 % 256) (omega arith) h.status k.status;
  start = joins (config 0x34) (first_offset_or_zero cs) (next_fits cs h.places) h.start k.start;
  headers = headers_joined one two file joins cs h.places h.ids h.headers k.headers;
}

listed_bit : (s : ℕ) → bit_and (bit_or s 0x10 % 256) 0x10 ≡ 0x10
listed_bit s = sym (and_mod (bit_or s 0x10) 0x10 8) ∙ ap (λ n. n % 256) (and_or_self 0x10 s)

pub list_shown : (d : Endpoint) (cs : List Capability) (file : File) → HoldsList d cs file → ShowsList file cs
list_shown d cs file h = record {
  status = ap (λ n. bit_and n 0x10) (held_byte file 6 _ h.status) ∙ listed_bit d.status;
  walk = walk_of file cs (byte file 0x34) (held_byte file 0x34 (first_offset_or_zero cs) h.start) h.headers;
}

-- each list that an endpoint was declared with
abbrev pub HoldsLists : Endpoint → File → Type 0
HoldsLists d file = (e : Endpoint) (c : Capability) (cs : List Capability) → d ≡ with_capabilities (c ∷ cs) e → Each (λ (x : Capability). x.id < 256) (c ∷ cs) → HoldsList e (c ∷ cs) file

pub lists_joined : (one two file : File) → Joins one two file → (d : Endpoint) → HoldsLists d one → HoldsLists d two → HoldsLists d file
lists_joined one two file joins d h k e c cs is ids = list_joined one two file joins e (c ∷ cs) (h e c cs is ids) (k e c cs is ids)

pub lists_after : (change : Change) (d : Endpoint) (file : File) → HoldsLists d file → HoldsLists d (after_change file change)
lists_after change d file h = lists_joined file file (after_change file change) (λ q v fits k again. change_still change v fits q file k) d h h

-- a file that is put together of the cells of two
agreed_joins : (left own : File) → Joins left own (agreed_file left own)
agreed_joins [] own q v fits h k = h
agreed_joins (e ∷ es) own q v fits h k = grind (arith, agreed_joins es own q v fits, place_same e.place q)

pub lists_agreed : (d : Endpoint) (left own : File) → HoldsLists d left → HoldsLists d own → HoldsLists d (agreed_file left own)
lists_agreed d left own = lists_joined left own (agreed_file left own) (agreed_joins left own) d

-- ---- at reset

module _ (d : Endpoint) (c : Capability) (cs : List Capability) (lawful : IsLawfulEndpoint (with_capabilities (c ∷ cs) d)) (multifunction : Bool) (command : ℕ) (bases : Region → ℕ) where
  abbrev first : File
  first = endpoint_file (with_capabilities (c ∷ cs) d) multifunction command bases

  status_held : Holds first (config 6) (bit_or d.status 0x10 % 256)
  status_held = refl

  pointer_held : Holds first (config 0x34) c.offset
  pointer_held = refl

  places : Each IsPlaced (c ∷ cs)
  places = all_placed (c ∷ cs) d.blocks lawful.config_blocks.1

  each_held : HoldsEach first (c ∷ cs)
  each_held =
      let header : File = header_cells (with_capabilities (c ∷ cs) d) multifunction command in
      let regions : File = flat_map (region_cells bases) d.regions in
      let others : File = flat_map block_cells (structures (c ∷ cs) ++ d.blocks) in
      let start : File = block_cells (pointer (c ∷ cs)) in
      let held : HoldsEach (others ++ regions) (c ∷ cs) = structures_held (c ∷ cs) d.blocks regions lawful.blocks_apart.1 in
      let more : HoldsEach (start ++ (others ++ regions)) (c ∷ cs) = behind start (others ++ regions) (c ∷ cs) (placed_passed start (pointer_low (c ∷ cs)) (c ∷ cs) places) held in
      let all : HoldsEach (header ++ (start ++ (others ++ regions))) (c ∷ cs) = behind header (start ++ (others ++ regions)) (c ∷ cs) (placed_passed header (header_low (with_capabilities (c ∷ cs) d) multifunction command) (c ∷ cs) places) more in
      subst (λ (f : File). HoldsEach f (c ∷ cs)) (sym (append_assoc header (start ++ others) regions)) all

  list_held : Each (λ (e : Capability). e.id < 256) (c ∷ cs) → HoldsList d (c ∷ cs) first
  list_held ids = record { places = places; ids = ids; status = status_held; start = pointer_held; headers = each_held }

pub lists_held : (d : Endpoint) → IsLawfulEndpoint d → (multifunction : Bool) (command : ℕ) (bases : Region → ℕ) → HoldsLists d (endpoint_file d multifunction command bases)
lists_held d lawful multifunction command bases e c cs is ids =
    subst (λ (x : Endpoint). HoldsList e (c ∷ cs) (endpoint_file x multifunction command bases)) (sym is) (list_held e c cs (subst IsLawfulEndpoint is lawful) multifunction command bases ids)

-- ---- the law

pub list_stays : ListStays
list_stays d c cs lawful ids multifunction command bases changes =
    let first = endpoint_file (with_capabilities (c ∷ cs) d) multifunction command bases in
    let held = list_held d c cs lawful multifunction command bases ids in
    list_shown d (c ∷ cs) (after_changes first changes) (list_joined first first (after_changes first changes) (λ q v fits h k. changes_still changes v fits q first h) d (c ∷ cs) held held)

-- ---- Status of a lawful declaration

pub status_with_list : (s : ℕ) → bit_and s 0xffe0 ≡ s → bit_and (bit_or s 0x10) 0xffe0 ≡ s
status_with_list s h = and_or_apart 0xffe0 s 0x10 refl ∙ h
