-- Writes of words to the cells of one function: each of joined parts takes its own.
use Rattle.std.proofs.Common.{◌≡◌, List, [], ◌∷◌, ◌++◌, refl, ap, ◌∙◌}
use Rattle.model_registers.{specs.{Registers.{config, File, write}, ByteEnables.lanes}, proofs.Files.joined_write}
use Rattle.window_packing.specs.WordWrites.{WordWrite}

abbrev pub written_file : WordWrite → File → File
written_file w file = write (lanes w.enables) w.value (config w.offset) file

abbrev pub file_after : List WordWrite → File → File
file_after [] file = file
file_after (w ∷ ws) file = file_after ws (written_file w file)

pub joined_after : (ws : List WordWrite) (xs ys : File) → file_after ws (xs ++ ys) ≡ file_after ws xs ++ file_after ws ys
joined_after [] xs ys = refl
joined_after (w ∷ ws) xs ys = ap (file_after ws) (joined_write (lanes w.enables) w.value (config w.offset) xs ys) ∙ joined_after ws (written_file w xs) (written_file w ys)

pub after_joined : (vs ws : List WordWrite) (file : File) → file_after (vs ++ ws) file ≡ file_after ws (file_after vs file)
after_joined [] ws file = refl
after_joined (v ∷ vs) ws file = after_joined vs ws (written_file v file)
