-- What a run writes along lines and pieces, and where it ends early.
use Rattle.std.{proofs.{Common.{◌≡◌, true, false, [], ◌∷◌, ◌++◌, refl, ap, append_assoc, arith}, lemmas.Bool.and_from}, specs.{List.list_any, Io.StartsWith}}
use Rattle.model_guests.{specs.{Text.{Text, ends_line}, LineRuns.{Protocol, StoppedIsBeginning, CutIsBeginning, OutputAlong, AfterAlong, LinesOfPieces}, WorldLaws.LongLinesAlike}, proofs.{Names.lacks, OutputLines.{first_line, one_more}}}

pub after_along : {S : Type 0} (p : Protocol S) → AfterAlong p
after_along p s [] ms = refl
after_along p s (l ∷ ls) ms = after_along p (p.next s l) ls ms

pub output_along : {S : Type 0} (p : Protocol S) → OutputAlong p
output_along p s [] ms = refl
output_along p s (l ∷ ls) ms = grind (arith, output_along p (p.next s l) ls ms, append_assoc)

-- ---- lines

lacks_end : (line : Text) → list_any ends_line line ≡ false → lacks 10 line ≡ true
lacks_end [] h = refl
lacks_end (c ∷ cs) h = grind (arith, lacks_end cs, and_from)

pub lines_of_pieces : LinesOfPieces
lines_of_pieces [] none rest = refl
lines_of_pieces (l ∷ ls) none rest = grind (arith, lines_of_pieces ls, append_assoc, one_more, first_line, lacks_end)

pub long_lines_alike : LongLinesAlike
long_lines_alike w l m long_l long_m = grind arith

-- ---- beginnings

starts : (xs ys : Text) → StartsWith (xs ++ ys) xs
starts [] ys = refl
starts (x ∷ xs) ys = ap (λ (t : Text). x ∷ t) (starts xs ys)

pub starts_after : (xs ys zs : Text) → StartsWith ys zs → StartsWith (xs ++ ys) (xs ++ zs)
starts_after [] ys zs h = h
starts_after (x ∷ xs) ys zs h = ap (λ (t : Text). x ∷ t) (starts_after xs ys zs h)

starts_more : (xs ys zs : Text) → StartsWith xs zs → StartsWith (xs ++ ys) zs
starts_more xs ys [] h = refl
starts_more [] ys (z ∷ zs) h = cc
starts_more (x ∷ xs) ys (z ∷ zs) h = grind (arith, starts_more xs ys zs)

pub stopped_is_beginning : {S : Type 0} (p : Protocol S) → StoppedIsBeginning p
stopped_is_beginning p s ls old new end h = grind (arith, output_along, starts_after, starts_more)

pub cut_is_beginning : {S : Type 0} (p : Protocol S) → CutIsBeginning p
cut_is_beginning p s old_rest new_rest old new end h = grind (arith, lines_of_pieces, output_along, starts)
