-- Copying bytes into a buffer.
--     put at xs bytes      the bytes with xs in place of those from an index on
use Rattle.std.specs.Prelude.{List, ℕ, ◌+◌, ◌++◌, length, take, drop}

abbrev pub put : ℕ → List ℕ → List ℕ → List ℕ
put at xs bytes = take at bytes ++ (xs ++ drop (at + length xs) bytes)
