-- Lines of a text.
--     line_of      the number of the line in which an offset lies: one more than the line feeds before it
--     first_line      that of the line in which a part of the text begins
use Rattle.std.specs.Prelude.{ℕ, ◌+◌, ◌==◌, Bool, List, take, count_by}
use Rattle.diagnostics.specs.declared.scanning.Extent.{Extent}

-- 10 is a line feed
abbrev pub is_line_feed : ℕ → Bool
is_line_feed b = b == 10

abbrev pub line_of : ℕ → List ℕ → ℕ
line_of offset text = 1 + count_by is_line_feed (take offset text)

abbrev pub first_line : List ℕ → Extent → ℕ
first_line text e = line_of e.start text
