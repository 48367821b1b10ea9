-- The parts of a declaration as bytes.
--     cell_bytes      a cell
--     endpoint_head, region_head, block_head      the bytes before the regions, and before the cells of a region or a block
--     region_bytes, block_bytes      a region, a block
--     counted_blocks, rest_bytes, declared_bytes      blocks with their count; what follows the head; a declaration
--     DeclaredBytes      they are the bytes of the declaration
use Rattle.std.specs.Prelude.{◌≡◌, List, ℕ, ◌++◌, length, flat_map}
use Rattle.model_registers.specs.{Cell.Cell, Declarations.{Region, ConfigBlock, Endpoint}}
use Rattle.model_images.specs.{Layouts.le_bytes, ImageBytes.{cell_layout, kind_number, identity_layout, fixed_layout, parts_of_endpoint, declaration_bytes}}

unfoldable pub cell_bytes : Cell → List ℕ
cell_bytes c = cell_layout.bytes c

-- and how many regions follow
unfoldable pub endpoint_head : Endpoint → List ℕ
endpoint_head d =
    identity_layout.bytes (parts_of_endpoint d).0
    ++ (fixed_layout.bytes (parts_of_endpoint d).1.0 ++ le_bytes 1 (length d.regions))

-- and how many cells follow
unfoldable pub region_head : Region → List ℕ
region_head r =
    le_bytes 1 r.index ++ (le_bytes 1 (kind_number r.kind) ++ (le_bytes 8 r.size ++ le_bytes 2 (length r.cells)))

unfoldable pub block_head : ConfigBlock → List ℕ
block_head b = le_bytes 1 b.offset ++ le_bytes 1 (length b.cells)

abbrev pub region_bytes : Region → List ℕ
region_bytes r = region_head r ++ flat_map cell_bytes r.cells

abbrev pub block_bytes : ConfigBlock → List ℕ
block_bytes b = block_head b ++ flat_map cell_bytes b.cells

abbrev pub counted_blocks : List ConfigBlock → List ℕ
counted_blocks bs = le_bytes 1 (length bs) ++ flat_map block_bytes bs

abbrev pub rest_bytes : Endpoint → List ℕ
rest_bytes d = flat_map region_bytes d.regions ++ counted_blocks d.blocks

abbrev pub declared_bytes : Endpoint → List ℕ
declared_bytes d = endpoint_head d ++ rest_bytes d

abbrev pub DeclaredBytes : Type 0
DeclaredBytes = (d : Endpoint) → declared_bytes d ≡ declaration_bytes d
