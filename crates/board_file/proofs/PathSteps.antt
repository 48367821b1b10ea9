-- One more part of a path.
use Rattle.std.proofs.Common.{◌≡◌, ℕ, suc, ◌≤◌, length, get_or, drop, arith, ◌∷◌, List, Option, Some, is_some, option_map, IfSome, ◌++◌, [], append_assoc}
use Rattle.model_board.specs.Paths.{Part, Path}
use Rattle.board_file.specs.PathTexts.{parse_leading_part, parts_after}

pub one_more : (room r : ℕ) (text : List ℕ) (found : Part × List ℕ) → 1 ≤ length text → room ≡ suc r → get_or text 0 0 ≡ 47 → parse_leading_part (drop 1 text) ≡ Some found
    → parts_after room text ≡ option_map (λ ps. found.0 ∷ ps) (parts_after r found.1)
one_more room r text found some h k e = grind arith

pub some_map : {A B : Type 0} (f : A → B) (o : Option A) → is_some (option_map f o) ≡ is_some o
some_map f o = grind arith

-- what is appended after one part is appended with it
pub pushed_after : (part : Part) (o : Option Path) (p q r : Path) → q ≡ p ++ part ∷ [] → IfSome o (λ ps. r ≡ q ++ ps) → IfSome (option_map (λ ps. part ∷ ps) o) (λ ps. r ≡ p ++ ps)
pushed_after part o p q r e h = grind (arith, append_assoc)
