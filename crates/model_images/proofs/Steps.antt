-- The steps by which a function is loaded, as segments of its file.
use Rattle.std.{proofs.{Common.{◌≡◌, ℕ, zero, suc, ◌≤◌, List, [], ◌∷◌, ◌++◌, length, refl, sym, ap, ◌∙◌, subst, arith}, lemmas.List.{append_assoc, drop-drop}}, specs.Prelude.{take, drop, flat_map, true, false}}
use Rattle.lists.{specs.Elements.{Each, EachPair}, proofs.Tests.right_true}
use Rattle.model_registers.specs.{Cell.Cell, Registers.{Place, config, block, after, File, field, cells_from}, Declarations.{Region, ConfigBlock, Endpoint, IsLawfulRegion}, EndpointTable.{base_register, base_cells, region_cells, block_cells, header_cells, endpoint_reset, command_mask}, CopiedFiles.places_of}
use Rattle.model_guests.proofs.DistinctPlaces.{Apart, distinct_places}
use Rattle.model_images.{specs.{Images.{with_values, can_hold, fit_cells}, StepLaws.{put_run, header_values, header_steps, blocks_steps, blocks_size, base_size, region_steps, regions_steps, steps, LoadsBySteps}}, proofs.{Settling.{keeps, writes, puts, from, Way, kept_byte, written_field, put_cells, no_device_bytes}, Runs.{Segment, IsSegment, cells_of, segment_steps, steps_settle}}}

-- ---- the segments

-- n bytes of the header from an offset on, with `before` bytes of it in front of them
abbrev part : Way → ℕ → ℕ → ℕ → Endpoint → Segment
part way before a n d = record { way = way; first = config a; count = n; file = take n (drop before (header_cells d false 0)) }

-- a guest writes Command, Cache Line Size, Latency Timer and Interrupt Line, and its device puts Status
abbrev header_segments : Endpoint → List Segment → List Segment
header_segments d more =
    part keeps 0 0x00 4 d ∷ part writes 4 0x04 2 d ∷ part puts 6 0x06 2 d ∷ part keeps 8 0x08 4 d ∷ part writes 12 0x0c 2 d ∷ part keeps 14 0x0e 1 d
    ∷ part keeps 15 0x2c 4 d ∷ part writes 19 0x3c 1 d ∷ part keeps 20 0x3d 3 d ∷ more

abbrev block_segment : ConfigBlock → Segment
block_segment b = record { way = puts; first = config b.offset; count = length b.cells; file = block_cells b }

abbrev base_segment : Region → Segment
base_segment r = record { way = writes; first = base_register r.index; count = base_size r; file = base_cells r.index r.kind r.size 0 }

abbrev bytes_segment : Region → Segment
bytes_segment r = record { way = puts; first = block r.index 0; count = length r.cells; file = cells_from (block r.index 0) r.cells }

abbrev region_segments : List Region → List Segment
region_segments [] = []
region_segments (r ∷ rs) = base_segment r ∷ bytes_segment r ∷ region_segments rs

abbrev block_segments : List ConfigBlock → List Segment → List Segment
block_segments [] more = more
block_segments (b ∷ bs) more = block_segment b ∷ block_segments bs more

abbrev segments : Endpoint → List Segment
segments d = header_segments d (block_segments d.blocks (region_segments d.regions))

-- ---- they are all cells

regions_are : (rs : List Region) → cells_of (region_segments rs) ≡ flat_map (region_cells (λ r. 0)) rs
regions_are [] = refl
regions_are (r ∷ rs) = grind (arith, append_assoc, regions_are rs)

blocks_are : (bs : List ConfigBlock) (more : List Segment) → cells_of (block_segments bs more) ≡ flat_map block_cells bs ++ cells_of more
blocks_are [] more = refl
blocks_are (b ∷ bs) more = grind (arith, append_assoc, blocks_are bs more)

header_is : (d : Endpoint) (more : List Segment) → cells_of (header_segments d more) ≡ header_cells d false 0 ++ cells_of more
header_is d more = refl

cells_are : (d : Endpoint) → cells_of (segments d) ≡ endpoint_reset d false
cells_are d = grind (arith, header_is, blocks_are, regions_are, append_assoc)

-- ---- each is a segment

field_places : (p : Place) (n v rw w1c : ℕ) → places_of (field p n v rw w1c) ≡ from p n
field_places p zero v rw w1c = refl
field_places p (suc n) v rw w1c = ap (λ (ps : List Place). p ∷ ps) (field_places (after p) n _ _ _)

cells_places : (p : Place) (cs : List Cell) → places_of (cells_from p cs) ≡ from p (length cs)
cells_places p [] = refl
cells_places p (c ∷ cs) = ap (λ (ps : List Place). p ∷ ps) (cells_places (after p) cs)

block_is : (b : ConfigBlock) → IsSegment (block_segment b)
block_is b = record { places = cells_places (config b.offset) b.cells; settles = put_cells (block_cells b) }

base_is : (r : Region) → IsLawfulRegion r → IsSegment (base_segment r)
base_is r lawful = grind (arith, field_places, written_field, no_device_bytes)

bytes_is : (r : Region) → IsSegment (bytes_segment r)
bytes_is r = record { places = cells_places (block r.index 0) r.cells; settles = put_cells (cells_from (block r.index 0) r.cells) }

regions_settle : (rs : List Region) → Each IsLawfulRegion rs → Each IsSegment (region_segments rs)
regions_settle [] lawful = tt
regions_settle (r ∷ rs) lawful = (base_is r lawful.0, (bytes_is r, regions_settle rs lawful.1))

blocks_settle : (bs : List ConfigBlock) (more : List Segment) → Each IsSegment more → Each IsSegment (block_segments bs more)
blocks_settle [] more are = are
blocks_settle (b ∷ bs) more are = (block_is b, blocks_settle bs more are)

header_settles : (d : Endpoint) (more : List Segment) → Each IsSegment more → Each IsSegment (header_segments d more)
header_settles d more are = (ids, (command, (status, (class, (timers, (type, (subsystem, (line, (pin, are)))))))))
  where
    ids : IsSegment (part keeps 0 0x00 4 d)
    ids = record { places = refl; settles = (kept_byte 0x00 _ refl, (kept_byte 0x01 _ refl, (kept_byte 0x02 _ refl, (kept_byte 0x03 _ refl, tt)))) }

    command : IsSegment (part writes 4 0x04 2 d)
    command = record { places = refl; settles = written_field 0x04 2 0 command_mask (refl, (refl, tt)) }

    status : IsSegment (part puts 6 0x06 2 d)
    status = record { places = refl; settles = put_cells (part puts 6 0x06 2 d).file }

    class : IsSegment (part keeps 8 0x08 4 d)
    class = record { places = refl; settles = (kept_byte 0x08 _ refl, (kept_byte 0x09 _ refl, (kept_byte 0x0a _ refl, (kept_byte 0x0b _ refl, tt)))) }

    timers : IsSegment (part writes 12 0x0c 2 d)
    timers = record { places = refl; settles = written_field 0x0c 2 0 0xffff (refl, (refl, tt)) }

    type : IsSegment (part keeps 14 0x0e 1 d)
    type = record { places = refl; settles = (kept_byte 0x0e 0 refl, tt) }

    subsystem : IsSegment (part keeps 15 0x2c 4 d)
    subsystem = record { places = refl; settles = (kept_byte 0x2c _ refl, (kept_byte 0x2d _ refl, (kept_byte 0x2e _ refl, (kept_byte 0x2f _ refl, tt)))) }

    line : IsSegment (part writes 19 0x3c 1 d)
    line = record { places = refl; settles = written_field 0x3c 1 0 0xff (refl, tt) }

    pin : IsSegment (part keeps 20 0x3d 3 d)
    pin = record { places = refl; settles = (kept_byte 0x3d _ refl, (kept_byte 0x3e _ refl, (kept_byte 0x3f _ refl, tt))) }

-- ---- their steps are the steps

region_steps_are : (rs : List Region) (vs : List ℕ) (file : File) → segment_steps (region_segments rs) vs file ≡ regions_steps rs vs file
region_steps_are [] vs file = refl
region_steps_are (r ∷ rs) vs file = grind (arith, drop-drop, region_steps_are rs (drop (length r.cells) (drop (base_size r) vs)) (region_steps r vs file))

block_steps_are : (bs : List ConfigBlock) (rs : List Region) (vs : List ℕ) (file : File)
    → segment_steps (block_segments bs (region_segments rs)) vs file ≡ regions_steps rs (drop (blocks_size bs) vs) (blocks_steps bs vs file)
block_steps_are [] rs vs file = region_steps_are rs vs file
block_steps_are (b ∷ bs) rs vs file = grind (arith, drop-drop, block_steps_are bs rs (drop (length b.cells) vs) (put_run (take (length b.cells) vs) (config b.offset) file))

abbrev first_of : List ℕ → ℕ
first_of [] = 0
first_of (v ∷ vs) = v

abbrev rest_of : List ℕ → List ℕ
rest_of [] = []
rest_of (v ∷ vs) = vs

-- the first n of a list written out
abbrev spelled : ℕ → List ℕ → List ℕ
spelled zero vs = vs
spelled (suc n) vs = first_of vs ∷ spelled n (rest_of vs)

spelled_is : (n : ℕ) (vs : List ℕ) → n ≤ length vs → spelled n vs ≡ vs
spelled_is zero vs long = refl
spelled_is (suc n) [] long = absurd (omega (arith, long))
spelled_is (suc n) (v ∷ vs) long = ap (λ (x : List ℕ). v ∷ x) (spelled_is n vs (omega arith))

steps_are : (d : Endpoint) (vs : List ℕ) (file : File) → header_values ≤ length vs → segment_steps (segments d) vs file ≡ steps d vs file
steps_are d vs file long =
    subst (λ (x : List ℕ). segment_steps (segments d) x file ≡ steps d x file) (spelled_is header_values vs long)
    (block_steps_are d.blocks d.regions (drop header_values xs) (header_steps xs file)
    ∙ ap (λ (x : List ℕ). regions_steps d.regions x (blocks_steps d.blocks (drop header_values xs) (header_steps xs file))) (drop-drop (blocks_size d.blocks) header_values xs))
  where
    xs : List ℕ
    xs = spelled header_values vs

-- ---- so what is loaded comes about by them

fits_length : (file : File) (vs : List ℕ) → fit_cells file vs ≡ true → length vs ≡ length file
fits_length [] [] h = refl
fits_length (e ∷ es) (v ∷ vs) h = ap (λ n. suc n) (fits_length es vs (right_true (can_hold e v) (fit_cells es vs) h))
fits_length file vs h = cc

pub loads_by_steps : LoadsBySteps
loads_by_steps s lawful low fits =
    let d : Endpoint = s.decl in
    let long : header_values ≤ length s.values = omega (arith, fits_length (endpoint_reset d false) s.values fits) in
    let is = cells_are d in
    let settled : Each IsSegment (segments d) = header_settles d (block_segments d.blocks (region_segments d.regions)) (blocks_settle d.blocks (region_segments d.regions) (regions_settle d.regions lawful.regions.each)) in
    let apart : EachPair Apart (places_of (cells_of (segments d))) = subst (λ (x : File). EachPair Apart (places_of x)) (sym is) (distinct_places d lawful false 0 (λ r. 0)) in
    sym (steps_are d s.values (endpoint_reset d false) long)
    ∙ subst (λ (x : File). segment_steps (segments d) s.values x ≡ with_values s.values x) is
    (steps_settle (segments d) s.values settled apart (ap (λ (x : File). fit_cells x s.values) is ∙ fits) low)
