-- Files that are put together of parts: what a change of one part leaves of the others.
use Rattle.std.proofs.Common.{◌≡◌, ℕ, zero, suc, ◌+◌, ◌*◌, ◌/◌, ◌%◌, ◌<◌, ◌≤◌, ◌⊎◌, inr, Bool, true, false, cond, List, [], ◌∷◌, ◌++◌, length, refl, ap, ◌∙◌, arith, append_assoc}
use Rattle.model_registers.{specs.{Cell.{Cell, written}, Registers.{Place, config, place_eq, after, File, cell_at, changed, read, write, field}}, proofs.RegisterFiles.{above, below}}

-- a change is made in each part
pub changed_append : (f : Cell → Cell) (p : Place) (xs ys : File) → changed f p (xs ++ ys) ≡ changed f p xs ++ changed f p ys
changed_append f p [] ys = refl
changed_append f p (x ∷ xs) ys = ap (λ (es : File). cond (place_eq x.place p) (record x { cell = f x.cell }) x ∷ es) (changed_append f p xs ys)

pub write_append : (ons : List Bool) (x : ℕ) (p : Place) (xs ys : File) → write ons x p (xs ++ ys) ≡ write ons x p xs ++ write ons x p ys
write_append [] x p xs ys = refl
write_append (true ∷ ons) x p xs ys = grind (arith, write_append ons (x / 256) (after p) (changed (written (x % 256)) p xs) (changed (written (x % 256)) p ys), changed_append)
write_append (false ∷ ons) x p xs ys = write_append ons (x / 256) (after p) xs ys

-- a place outside a register
abbrev pub IsOutside : ℕ → ℕ → ℕ → Type 0
IsOutside q a w = (q < a) ⊎ (a + w ≤ q)

outside_rest : (q a w : ℕ) → IsOutside q a (suc w) → IsOutside q (a + 1) w
outside_rest q a w h = grind arith

pub change_outside : (f : Cell → Cell) (w a q v m c : ℕ) → IsOutside q a w → changed f (config q) (field (config a) w v m c) ≡ field (config a) w v m c
change_outside f zero a q v m c h = refl
change_outside f (suc w) a q v m c h = grind (arith, above, below, change_outside f w (a + 1) q (v / 256) (m / 256) (c / 256), outside_rest)

pub cell_outside : (w a q v m c : ℕ) (rest : File) → IsOutside q a w → cell_at (field (config a) w v m c ++ rest) (config q) ≡ cell_at rest (config q)
cell_outside zero a q v m c rest h = refl
cell_outside (suc w) a q v m c rest h = grind (arith, above, below, cell_outside w (a + 1) q (v / 256) (m / 256) (c / 256) rest, outside_rest)

-- an access of n bytes at q that meets no byte of a register
abbrev pub IsApart : ℕ → ℕ → ℕ → ℕ → Type 0
IsApart n q a w = (q + n ≤ a) ⊎ (a + w ≤ q)

apart_rest : (n q a w : ℕ) → IsApart (suc n) q a w → IsApart n (q + 1) a w
apart_rest n q a w h = grind arith

pub write_apart : (ons : List Bool) (x q w a v m c : ℕ) → IsApart (length ons) q a w → write ons x (config q) (field (config a) w v m c) ≡ field (config a) w v m c
write_apart [] x q w a v m c h = refl
write_apart (true ∷ ons) x q w a v m c h = grind (arith, write_apart ons (x / 256) (q + 1) w a v m c, change_outside, apart_rest)
write_apart (false ∷ ons) x q w a v m c h = write_apart ons (x / 256) (q + 1) w a v m c (apart_rest (length ons) q a w h)

pub read_apart : (ons : List Bool) (q w a v m c : ℕ) (rest : File) → IsApart (length ons) q a w → read (field (config a) w v m c ++ rest) (config q) ons ≡ read rest (config q) ons
read_apart [] q w a v m c rest h = refl
read_apart (on ∷ ons) q w a v m c rest h = grind (arith, read_apart ons (q + 1) w a v m c rest, cell_outside, apart_rest)

pub write_none : (ons : List Bool) (x : ℕ) (p : Place) → write ons x p [] ≡ []
write_none [] x p = refl
write_none (true ∷ ons) x p = write_none ons (x / 256) (after p)
write_none (false ∷ ons) x p = write_none ons (x / 256) (after p)

pub read_none : (ons : List Bool) (p : Place) → read [] p ons ≡ 0
read_none [] p = refl
read_none (true ∷ ons) p = ap (λ n. 0 + 256 * n) (read_none ons (after p))
read_none (false ∷ ons) p = ap (λ n. 0 + 256 * n) (read_none ons (after p))

-- no cell of the file stands at lo or above
abbrev pub IsBelow : File → ℕ → Type 0
IsBelow file lo = (rest : File) (q : ℕ) → lo ≤ q → cell_at (file ++ rest) (config q) ≡ cell_at rest (config q)

pub read_above : (file : File) (lo : ℕ) → IsBelow file lo → (ons : List Bool) (rest : File) (q : ℕ) → lo ≤ q → read (file ++ rest) (config q) ons ≡ read rest (config q) ons
read_above file lo below [] rest q h = refl
read_above file lo below (on ∷ ons) rest q h = grind (arith, read_above file lo below ons rest (q + 1))

pub field_below : (w a v m c lo : ℕ) → a + w ≤ lo → IsBelow (field (config a) w v m c) lo
field_below w a v m c lo h rest q above = cell_outside w a q v m c rest (inr (omega arith))

pub below_append : (one two : File) (lo hi : ℕ) → lo ≤ hi → IsBelow one lo → IsBelow two hi → IsBelow (one ++ two) hi
below_append one two lo hi le b1 b2 rest q h = ap (λ (f : File). cell_at f (config q)) (append_assoc one two rest) ∙ b1 (two ++ rest) q (omega arith) ∙ b2 rest q h
