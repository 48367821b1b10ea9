-- A guest and its device could have produced the state of each loaded function from reset, byte by byte.
--     run step vs p file      the step for each byte, at consecutive places
--     written_run, put_run      writes by the guest, and by the device
--     header_values, blocks_size      how many values the header has, and the blocks of configuration space
--     header_steps, blocks_steps, region_steps, regions_steps      the steps of a function's parts
--     steps d vs file      all steps: a guest writes Command, Cache Line Size, Latency Timer, Interrupt Line and the base
--                          address registers; a device writes Status, its own registers and its regions' bytes
--     LoadsBySteps      from reset these steps give the restored state
use Rattle.std.specs.Prelude.{List, [], ◌∷◌, ◌≡◌, ℕ, ◌+◌, ◌*◌, ◌<◌, take, drop, length, IsTrue, false}
use Rattle.lists.specs.Elements.{Each}
use Rattle.model_registers.specs.{Registers.{Place, config, block, after, File, write, all_bytes}, Declarations.{registers_of, Region, ConfigBlock, Endpoint}, DeclarationRules.IsLawfulEndpoint, EndpointTable.{base_register, endpoint_reset}, DeviceBytes.set_value}
use Rattle.model_images.specs.Images.{SavedFunction, restored, fits_declaration}

abbrev pub run : (ℕ → Place → File → File) → List ℕ → Place → File → File
run step [] p file = file
run step (v ∷ vs) p file = run step vs (after p) (step v p file)

abbrev pub written_run : List ℕ → Place → File → File
written_run vs p file = run (write (all_bytes 1)) vs p file

abbrev pub put_run : List ℕ → Place → File → File
put_run vs p file = run set_value vs p file

-- ---- the parts of a function, each with its own part of the values

-- the cells of the header without base address registers
abbrev pub header_values : ℕ
header_values = 23

abbrev pub header_steps : List ℕ → File → File
header_steps vs file =
    written_run (take 1 (drop 19 vs)) (config 0x3c) (written_run (take 2 (drop 12 vs)) (config 0x0c)
    (put_run (take 2 (drop 6 vs)) (config 0x06) (written_run (take 2 (drop 4 vs)) (config 0x04) file)))

abbrev pub blocks_steps : List ConfigBlock → List ℕ → File → File
blocks_steps [] vs file = file
blocks_steps (b ∷ bs) vs file =
    blocks_steps bs (drop (length b.cells) vs) (put_run (take (length b.cells) vs) (config b.offset) file)

abbrev pub blocks_size : List ConfigBlock → ℕ
blocks_size [] = 0
blocks_size (b ∷ bs) = length b.cells + blocks_size bs

-- the bytes of a region's base address registers
abbrev pub base_size : Region → ℕ
base_size r = 4 * registers_of r.kind

abbrev pub region_steps : Region → List ℕ → File → File
region_steps r vs file =
    put_run (take (length r.cells) (drop (base_size r) vs)) (block r.index 0)
    (written_run (take (base_size r) vs) (base_register r.index) file)

abbrev pub regions_steps : List Region → List ℕ → File → File
regions_steps [] vs file = file
regions_steps (r ∷ rs) vs file = regions_steps rs (drop (base_size r + length r.cells) vs) (region_steps r vs file)

abbrev pub steps : Endpoint → List ℕ → File → File
steps d vs file =
    regions_steps d.regions (drop (header_values + blocks_size d.blocks) vs)
    (blocks_steps d.blocks (drop header_values vs) (header_steps vs file))

-- ---- both give the same state

abbrev pub LoadsBySteps : Type 0
LoadsBySteps = (s : SavedFunction) → IsLawfulEndpoint s.decl → Each (λ v. v < 256) s.values → IsTrue (fits_declaration s)
    → steps s.decl s.values (endpoint_reset s.decl false) ≡ (restored s).file
