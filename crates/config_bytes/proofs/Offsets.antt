-- Lists of offsets with cells: that no two stand at one offset, and the files that they are.
use Rattle.std.proofs.Common.{◌≢◌, ℕ, ◌+◌, ◌<◌, ◌≤◌, List, [], ◌∷◌, ◌++◌, refl, ap, arith}
use Rattle.lists.specs.Elements.{Each}
use Rattle.model_registers.specs.{Cell.Cell, Registers.{config, File}}
use Rattle.config_bytes.specs.{CellFile.HasDistinctOffsets, OffsetLaws.{FileOfAppend, FileOfOffsets, WithinWider, WithinAppend, WithinOffsets, DistinctAppend, DistinctPush, DistinctOffsets}}

pub file_of-append : FileOfAppend
file_of-append [] ys = refl
file_of-append (c ∷ cs) ys = ap (λ (file : File). record { place = config c.0; cell = c.1 } ∷ file) (file_of-append cs ys)

pub file_of-offsets_from : FileOfOffsets
file_of-offsets_from a [] = refl
file_of-offsets_from a (c ∷ cs) = ap (λ (file : File). record { place = config a; cell = c } ∷ file) (file_of-offsets_from (a + 1) cs)

pub each_append : (P : ℕ × Cell → Type 0) (xs ys : List (ℕ × Cell)) → Each P xs → Each P ys → Each P (xs ++ ys)
each_append P [] ys p q = q
each_append P (c ∷ cs) ys p q = (p.0, each_append P cs ys p.1 q)

pub each_weaker : (P Q : ℕ × Cell → Type 0) → ((c : ℕ × Cell) → P c → Q c) → (cs : List (ℕ × Cell)) → Each P cs → Each Q cs
each_weaker P Q h [] p = tt
each_weaker P Q h (c ∷ cs) p = (h c p.0, each_weaker P Q h cs p.1)

pub IsWithin-wider : WithinWider
IsWithin-wider a b c d cs low high h = each_weaker (λ e. (a ≤ e.0) × (e.0 < b)) (λ e. (c ≤ e.0) × (e.0 < d)) (λ e p. (omega (arith, p.0), omega (arith, p.1))) cs h

pub IsWithin-append : WithinAppend
IsWithin-append a b xs ys = each_append (λ e. (a ≤ e.0) × (e.0 < b)) xs ys

pub IsWithin-offsets_from : WithinOffsets
IsWithin-offsets_from a [] = tt
IsWithin-offsets_from a (c ∷ cs) = grind (arith, IsWithin-offsets_from (a + 1) cs, IsWithin-wider)

-- ---- distinct offsets

distinct-join : (xs ys : List (ℕ × Cell)) → Each (λ c. Each (λ d. c.0 ≢ d.0) ys) xs → HasDistinctOffsets xs → HasDistinctOffsets ys → HasDistinctOffsets (xs ++ ys)
distinct-join [] ys across p q = q
distinct-join (c ∷ cs) ys across p q = (each_append (λ d. c.0 ≢ d.0) cs ys p.0 across.0, distinct-join cs ys across.1 p.1 q)

pub HasDistinctOffsets-append : DistinctAppend
HasDistinctOffsets-append a b c d xs ys parted below above p q = grind (arith, each_weaker, distinct-join)

-- one more offset, which none of them is
pub HasDistinctOffsets-push : DistinctPush
HasDistinctOffsets-push cs c new p = distinct-join cs (c ∷ []) (each_weaker (λ d. d.0 ≢ c.0) (λ d. Each (λ e. d.0 ≢ e.0) (c ∷ [])) (λ d h. (h, tt)) cs new) p (tt, tt)

pub HasDistinctOffsets-offsets_from : DistinctOffsets
HasDistinctOffsets-offsets_from a [] = tt
HasDistinctOffsets-offsets_from a (c ∷ cs) = grind (arith, each_weaker, IsWithin-offsets_from, HasDistinctOffsets-offsets_from (a + 1) cs)
