-- The values of a function as its guest has it, part by part.
use Rattle.std.{proofs.{Common.{◌≡◌, ◌+◌, ◌/◌, ℕ, zero, suc, false, List, [], ◌∷◌, ◌++◌, length, refl, sym, ap, ap₂, ◌∙◌, subst, append_assoc, arith, length-append}, lemmas.List.{append-nil, length-map, Concat.flat_map-append}}, specs.Prelude.{flat_map, map, option_map, Option}}
use Rattle.lists.{specs.Elements.EachPair, proofs.Members.{each_in, flat_map_flat, flat_map_map, flat_map_same}}
use Rattle.model_registers.specs.{Cell.Cell, Registers.{Place, config, after, PlacedCell, File, cell_at, field, cells_from}, Declarations.{Region, ConfigBlock, Endpoint}, DeclarationRules.IsLawfulEndpoint, EndpointTable.{block_cells, endpoint_reset, header_cells, region_cells}, OwnCopies.{OwnCopies, own_file}, CopiedFiles.{copied, with_copies}, Decoding.Function}
use Rattle.model_guests.{proofs.{DistinctPlaces.{Apart, HasDistinctPlaces, distinct_places}, TablePlaces.found_entries}, specs.{Lone.LoneGuest, Slots.Slots}}
use Rattle.model_images.{specs.{Images.{image_of_lone, saved, values_of}, Layouts.{le_bytes, optional}, ImageBytes.{declaration_bytes, function_layout, image_bytes}, LoadedBytes.header}, proofs.Numbers.one_each}
use Rattle.images.specs.Shown.{block_values, bytes_from, function_bytes, HasDeclaredPlaces, header_values, region_values, seen, shown_byte, shown_values, slot_bytes}

module _ (e : Function) (own : OwnCopies) where
  -- a byte for each place
  abbrev shown_at : Place → List ℕ
  shown_at p = shown_byte e own p ∷ []

  abbrev shown_in : File → List ℕ
  shown_in file = flat_map (λ (x : PlacedCell). shown_at x.place) file

  -- ---- parts of a declaration

  in_run : (p : Place) (cs : List Cell) → shown_in (cells_from p cs) ≡ bytes_from e own p (length cs)
  unfolding bytes_from
  in_run p [] = refl
  in_run p (c ∷ cs) = ap (λ (xs : List ℕ). shown_byte e own p ∷ xs) (in_run (after p) cs)

  in_field : (p : Place) (w v rw w1c : ℕ) → shown_in (field p w v rw w1c) ≡ bytes_from e own p w
  unfolding bytes_from
  in_field p zero v rw w1c = refl
  in_field p (suc w) v rw w1c = ap (λ (xs : List ℕ). shown_byte e own p ∷ xs) (in_field (after p) w (v / 256) (rw / 256) (w1c / 256))

  in_header : (d : Endpoint) → shown_in (header_cells d false 0) ≡ header_values e own
  unfolding bytes_from
  in_header d = refl

  in_region : (r : Region) → shown_in (region_cells (λ x. 0) r) ≡ region_values e own r
  in_region r = grind (arith, flat_map-append, in_field, in_run)

  in_parts : (d : Endpoint) → shown_in (endpoint_reset d false) ≡ shown_values e own d
  in_parts d =
      let at : PlacedCell → List ℕ = λ (x : PlacedCell). shown_at x.place in
      let head : File = header_cells d false 0 in
      let blocks : File = flat_map block_cells d.blocks in
      let regions : File = flat_map (region_cells (λ x. 0)) d.regions in
      flat_map-append at (head ++ blocks) regions
      ∙ ap₂ ◌++◌
      (flat_map-append at head blocks ∙ ap₂ ◌++◌ (in_header d) (flat_map_flat at block_cells d.blocks ∙ flat_map_same (λ (b : ConfigBlock). shown_in (block_cells b)) (block_values e own) d.blocks (λ b _. in_run (config b.offset) b.cells)))
      (flat_map_flat at (region_cells (λ x. 0)) d.regions ∙ flat_map_same (λ (r : Region). shown_in (region_cells (λ x. 0) r)) (region_values e own) d.regions (λ r _. in_region r))
      ∙ append_assoc (header_values e own) (flat_map (block_values e own) d.blocks) (flat_map (region_values e own) d.regions)

  -- ---- all of them

  one_value : (x : PlacedCell) → cell_at e.file x.place ≡ x.cell → le_bytes 1 (copied (own_file own) x).cell.value ≡ shown_at x.place
  unfolding shown_byte
  one_value x there = grind arith

  distinct : IsLawfulEndpoint e.decl → HasDeclaredPlaces e → HasDistinctPlaces e.file
  distinct lawful places = subst (λ (ps : List Place). EachPair Apart ps) (sym places) (distinct_places e.decl lawful false 0 (λ r. 0))

  pub values_are : IsLawfulEndpoint e.decl → HasDeclaredPlaces e → flat_map (le_bytes 1) (values_of (with_copies (own_file own) e.file)) ≡ shown_values e own e.decl
  values_are lawful places =
      flat_map_map (le_bytes 1) (λ (x : PlacedCell). x.cell.value) (with_copies (own_file own) e.file)
      ∙ flat_map_map (λ (x : PlacedCell). le_bytes 1 x.cell.value) (copied (own_file own)) e.file
      ∙ flat_map_same (λ (x : PlacedCell). le_bytes 1 (copied (own_file own) x).cell.value) (λ (x : PlacedCell). shown_at x.place) e.file
      (λ x inside. one_value x (each_in (λ (y : PlacedCell). cell_at e.file y.place ≡ y.cell) x e.file (found_entries e.file (distinct lawful places)) inside))
      ∙ sym (flat_map_map shown_at (λ (x : PlacedCell). x.place) e.file)
      ∙ ap (flat_map shown_at) places
      ∙ flat_map_map shown_at (λ (x : PlacedCell). x.place) (endpoint_reset e.decl false)
      ∙ in_parts e.decl

  function_parts : function_bytes (seen e own) ≡ declaration_bytes e.decl ++ flat_map (le_bytes 1) (values_of (with_copies (own_file own) e.file))
  unfolding function_bytes
  function_parts = refl

  pub function_is : IsLawfulEndpoint e.decl → HasDeclaredPlaces e → declaration_bytes e.decl ++ shown_values e own e.decl ≡ function_bytes (seen e own)
  function_is lawful places = sym (function_parts ∙ ap (λ (xs : List ℕ). declaration_bytes e.decl ++ xs) (values_are lawful places))

  pub size_is : HasDeclaredPlaces e → length (declaration_bytes e.decl) + length (endpoint_reset e.decl false) ≡ length (function_bytes (seen e own))
  size_is places = grind (arith, length-append, one_each, length-map, function_parts)

  one_shown : (file : File) → length (shown_in file) ≡ length file
  one_shown [] = refl
  one_shown (x ∷ xs) = ap suc (one_shown xs)

  pub length_is : HasDeclaredPlaces e → length (declaration_bytes e.decl) + length (shown_values e own e.decl) ≡ length (function_bytes (seen e own))
  length_is places = grind (arith, in_parts, one_shown, size_is)

-- ---- a guest

slot_is : (o : Option Function) → (optional function_layout).bytes (option_map saved o) ≡ slot_bytes o
unfolding function_bytes
slot_is o = grind (arith, append-nil)

pub guest_bytes : (g : LoneGuest) → image_bytes (image_of_lone g) ≡ header ++ (le_bytes 4 g.latch ++ flat_map slot_bytes g.slots)
guest_bytes g = ap (λ (xs : List ℕ). header ++ (le_bytes 4 g.latch ++ xs)) (slots_are g.slots)
  where
    slots_are : (fs : Slots) → flat_map (optional function_layout).bytes (map (option_map saved) fs) ≡ flat_map slot_bytes fs
    slots_are [] = refl
    slots_are (f ∷ fs) = ap₂ ◌++◌ (slot_is f) (slots_are fs)
