-- The text of a path, part by part.
use Rattle.std.{proofs.Common.{◌≡◌, [], ◌∷◌, ◌++◌, sym, ap, ◌∙◌, append-nil, codes}, specs.List.flat_map}
use Rattle.model_board.specs.Paths.{Part, Path}
use Rattle.model_guests.specs.{Text.Text, PathTexts.{part_text, path_text}}

abbrev pub after_slash : Part → Text
after_slash p = codes "/" ++ part_text p

pub path_text_is : (p : Part) (ps : Path) → path_text (p ∷ ps) ≡ part_text p ++ flat_map after_slash ps
path_text_is p [] = sym (append-nil (part_text p))
path_text_is p (q ∷ qs) = ap (λ t. part_text p ++ (47 ∷ t)) (path_text_is q qs)

pub from_first : (whole : Path) (p : Part) (ps : Path) → whole ≡ p ∷ ps → part_text p ++ flat_map after_slash ps ≡ path_text whole
from_first whole p ps e = sym (path_text_is p ps) ∙ ap path_text (sym e)
