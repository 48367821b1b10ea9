-- The lines of a text, one after the other.
use Rattle.std.proofs.{Common.{◌≡◌, ◌++◌, List, [], ◌∷◌, map, append_assoc, arith}, lemmas.List.map-append}
use Rattle.model_guests.{specs.Text.{Text, ended, text_of_lines}, proofs.WrittenLines.text_of_lines-append}
use Rattle.model_lines.specs.WhyText.{why_line}

pub text_whole : (before after : List Text) (head zero one two three : Text) → zero ≡ [] → one ≡ zero ++ text_of_lines (map why_line before) → two ≡ one ++ ended (why_line head)
    → three ≡ two ++ text_of_lines (map why_line after) → three ≡ text_of_lines (map why_line (before ++ head ∷ after))
text_whole before after head zero one two three z e f g = grind (arith, append_assoc, map-append, text_of_lines-append)
