-- Appending to a text.
--     Adds old new x      the new text is the old one followed by x
use Rattle.std.specs.Prelude.{◌≡◌, ◌++◌, ℕ, List, String, string_bytes}

abbrev pub Adds : {Z : Type 0} → (old new : String Z) → List ℕ → Type 0
Adds old new x = string_bytes new ≡ string_bytes old ++ x
