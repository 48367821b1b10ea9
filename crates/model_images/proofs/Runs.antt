-- Runs of bytes over a file: each run changes its own segment, and leaves what stands elsewhere.
use Rattle.std.{proofs.Common.{◌≡◌, ℕ, zero, suc, ◌<◌, ◌≤◌, true, List, [], ◌∷◌, ◌++◌, length, refl, sym, ap, ◌∙◌, subst, arith}, specs.Prelude.{take, drop, flat_map}}
use Rattle.lists.{specs.Elements.{Each, EachPair}, proofs.{EachLemmas.each_parts, Tests.{left_true, right_true}}}
use Rattle.model_registers.{specs.{Cell.Cell, Registers.{Place, after, PlacedCell, File, changed}, DeviceBytes.with_value, CopiedFiles.places_of}, proofs.RegisterFiles.{place_turned, self}}
use Rattle.model_guests.proofs.DistinctPlaces.{Apart, places_append}
use Rattle.model_images.{specs.{Images.{with_values, can_hold, fit_cells}, StepLaws.{run, written_run, put_run}}, proofs.Settling.{Way, keeps, writes, puts, becomes, Settles, from}}

abbrev ApartFrom : List Place → Place → Type 0
ApartFrom qs p = Each (Apart p) qs

-- no place of the first file is among these
abbrev FileApart : File → List Place → Type 0
FileApart file qs = Each (λ (e : PlacedCell). ApartFrom qs e.place) file

abbrev pub AreBytes : List ℕ → Type 0
AreBytes vs = Each (λ v. v < 256) vs

abbrev changing : (ℕ → Cell → Cell) → List ℕ → Place → File → File
changing g vs p file = run (λ v q (f : File). changed (g v) q f) vs p file

-- ---- what stands elsewhere

entry_stays : (g : ℕ → Cell → Cell) (vs : List ℕ) (p : Place) (n : ℕ) (e : PlacedCell) (es : File) → length vs ≤ n → ApartFrom (from p n) e.place
    → changing g vs p (e ∷ es) ≡ e ∷ changing g vs p es
entry_stays g [] p n e es more apart = refl
entry_stays g (v ∷ vs) p zero e es more apart = absurd (omega (arith, more))
entry_stays g (v ∷ vs) p (suc n) e es more apart = grind (arith, entry_stays g vs (after p) n e (changed (g v) p es))

prefix_stays : (g : ℕ → Cell → Cell) (vs : List ℕ) (p : Place) (n : ℕ) (es file : File) → length vs ≤ n → FileApart es (from p n) → changing g vs p (es ++ file) ≡ es ++ changing g vs p file
prefix_stays g vs p n [] file more apart = refl
prefix_stays g vs p n (e ∷ es) file more apart = entry_stays g vs p n e (es ++ file) more apart.0 ∙ ap (λ (x : File). e ∷ x) (prefix_stays g vs p n es file more apart.1)

-- ---- a segment and what stands after it

change_none : (f : Cell → Cell) (p : Place) (es : File) → ApartFrom (places_of es) p → changed f p es ≡ es
change_none f p [] apart = refl
change_none f p (e ∷ es) apart = grind (arith, place_turned, change_none f p es apart.1)

change_first : (f : Cell → Cell) (p : Place) (e : PlacedCell) (es : File) → e.place ≡ p → ApartFrom (places_of es) e.place → changed f p (e ∷ es) ≡ record e { cell = f e.cell } ∷ es
change_first f p e es at apart = grind (arith, change_none, self)

segment_changes : (way : Way) (vs : List ℕ) (p : Place) (es file : File) → places_of es ≡ from p (length vs) → Each (Settles way) es → EachPair Apart (places_of (es ++ file)) → fit_cells es vs ≡ true → AreBytes vs
    → changing (becomes way) vs p (es ++ file) ≡ with_values vs es ++ file
segment_changes way [] p [] file at settles apart fits low = refl
segment_changes way (v ∷ vs) p (e ∷ es) file at settles apart fits low =
    let here : e.place ≡ p = cc in
    let more : places_of es ≡ from (after p) (length vs) = cc in
    let holds : can_hold e v ≡ true = left_true (can_hold e v) (fit_cells es vs) fits in
    let rest : fit_cells es vs ≡ true = right_true (can_hold e v) (fit_cells es vs) fits in
    let alone : ApartFrom (from (after p) (length vs)) e.place =
    subst (λ qs. ApartFrom qs e.place) more (each_parts (Apart e.place) (places_of es) (places_of file) (subst (λ qs. ApartFrom qs e.place) (places_append es file) apart.0)).0 in
    ap (changing (becomes way) vs (after p)) (change_first (becomes way v) p e (es ++ file) here apart.0)
    ∙ ap (λ (c : Cell). changing (becomes way) vs (after p) (record e { cell = c } ∷ (es ++ file))) (settles.0 v low.0 holds)
    ∙ entry_stays (becomes way) vs (after p) (length vs) (record e { cell = with_value v e.cell }) (es ++ file) (omega arith) alone
    ∙ ap (λ (x : File). record e { cell = with_value v e.cell } ∷ x) (segment_changes way vs (after p) es file more settles.1 apart.1 rest low.1)
segment_changes way vs p es file at settles apart fits low = cc

segment_keeps : (vs : List ℕ) (es : File) → Each (Settles keeps) es → fit_cells es vs ≡ true → AreBytes vs → es ≡ with_values vs es
segment_keeps [] [] settles fits low = refl
segment_keeps (v ∷ vs) (e ∷ es) settles fits low = grind (arith, left_true, right_true, segment_keeps vs es settles.1 (right_true (can_hold e v) (fit_cells es vs) fits) low.1)
segment_keeps vs es settles fits low = cc

-- ---- by each way

abbrev pub way_run : Way → List ℕ → Place → File → File
way_run keeps vs p file = file
way_run writes vs p file = written_run vs p file
way_run puts vs p file = put_run vs p file

way_stays : (way : Way) (vs : List ℕ) (p : Place) (n : ℕ) (es file : File) → length vs ≤ n → FileApart es (from p n) → way_run way vs p (es ++ file) ≡ es ++ way_run way vs p file
way_stays keeps vs p n es file more apart = refl
way_stays writes vs p n es file more apart = prefix_stays (becomes writes) vs p n es file more apart
way_stays puts vs p n es file more apart = prefix_stays (becomes puts) vs p n es file more apart

way_changes : (way : Way) (vs : List ℕ) (p : Place) (es file : File) → places_of es ≡ from p (length vs) → Each (Settles way) es → EachPair Apart (places_of (es ++ file)) → fit_cells es vs ≡ true → AreBytes vs
    → way_run way vs p (es ++ file) ≡ with_values vs es ++ file
way_changes keeps vs p es file at settles apart fits low = ap (λ (x : File). x ++ file) (segment_keeps vs es settles fits low)
way_changes writes vs p es file at settles apart fits low = segment_changes writes vs p es file at settles apart fits low
way_changes puts vs p es file at settles apart fits low = segment_changes puts vs p es file at settles apart fits low

-- ---- segments one after the other, each with its own part of the values

pub record Segment : Type 0 where
  pub way : Way
  pub first : Place
  pub count : ℕ
  pub file : File

pub record IsSegment (s : Segment) : Type 0 where
  pub places : places_of s.file ≡ from s.first s.count
  pub settles : Each (Settles s.way) s.file

abbrev pub cells_of : List Segment → File
cells_of ss = flat_map (λ (s : Segment). s.file) ss

abbrev pub segment_steps : List Segment → List ℕ → File → File
segment_steps [] vs file = file
segment_steps (s ∷ ss) vs file = segment_steps ss (drop s.count vs) (way_run s.way (take s.count vs) s.first file)

take_length : (n : ℕ) (vs : List ℕ) → length (take n vs) ≤ n
take_length (suc n) (v ∷ vs) = omega (arith, take_length n vs)
take_length n vs = omega arith

-- before the segments
steps_stay : (ss : List Segment) (vs : List ℕ) (es file : File) → Each IsSegment ss → FileApart es (places_of (cells_of ss)) → segment_steps ss vs (es ++ file) ≡ es ++ segment_steps ss vs file
steps_stay [] vs es file are apart = refl
steps_stay (s ∷ ss) vs es file are apart =
    let own = parts es apart in
    ap (segment_steps ss (drop s.count vs)) (way_stays s.way (take s.count vs) s.first s.count es file (take_length s.count vs) own.0)
    ∙ steps_stay ss (drop s.count vs) es (way_run s.way (take s.count vs) s.first file) are.1 own.1
  where
    parts : (ds : File) → FileApart ds (places_of (s.file ++ cells_of ss)) → FileApart ds (from s.first s.count) × FileApart ds (places_of (cells_of ss))
    parts [] h = (tt, tt)
    parts (d ∷ ds) h =
        let two = each_parts (Apart d.place) (places_of s.file) (places_of (cells_of ss)) (subst (λ qs. ApartFrom qs d.place) (places_append s.file (cells_of ss)) h.0) in
        let rest = parts ds h.1 in
        ((subst (λ qs. ApartFrom qs d.place) are.0.places two.0, rest.0), (two.1, rest.1))

record IsSplit (es file : File) (n : ℕ) (vs : List ℕ) : Type 0 where
  count : length (take n vs) ≡ n
  fits : fit_cells es (take n vs) ≡ true
  fits_rest : fit_cells file (drop n vs) ≡ true
  low : AreBytes (take n vs)
  low_rest : AreBytes (drop n vs)
  values : with_values vs (es ++ file) ≡ with_values (take n vs) es ++ with_values (drop n vs) file

split : (p : Place) (n : ℕ) (es file : File) (vs : List ℕ) → places_of es ≡ from p n → fit_cells (es ++ file) vs ≡ true → AreBytes vs → IsSplit es file n vs
split p zero [] file vs at fits low = record { count = refl; fits = refl; fits_rest = fits; low = tt; low_rest = low; values = refl }
split p (suc n) (e ∷ es) file (v ∷ vs) at fits low = grind (arith, left_true, right_true, split (after p) n es file vs)
split p n es file vs at fits low = cc

-- values change no place
places_with : (vs : List ℕ) (es : File) → places_of (with_values vs es) ≡ places_of es
places_with vs [] = refl
places_with [] (e ∷ es) = refl
places_with (v ∷ vs) (e ∷ es) = ap (λ (ps : List Place). e.place ∷ ps) (places_with vs es)

file_apart : (es : File) (qs : List Place) → Each (ApartFrom qs) (places_of es) → FileApart es qs
file_apart [] qs h = tt
file_apart (e ∷ es) qs h = (h.0, file_apart es qs h.1)

crossing : (ps qs : List Place) → EachPair Apart (ps ++ qs) → Each (ApartFrom qs) ps
crossing [] qs h = tt
crossing (p ∷ ps) qs h = ((each_parts (Apart p) ps qs h.0).1, crossing ps qs h.1)

pub steps_settle : (ss : List Segment) (vs : List ℕ) → Each IsSegment ss → EachPair Apart (places_of (cells_of ss)) → fit_cells (cells_of ss) vs ≡ true → AreBytes vs
    → segment_steps ss vs (cells_of ss) ≡ with_values vs (cells_of ss)
steps_settle [] vs are apart fits low = refl
steps_settle (s ∷ ss) vs are apart fits low =
    let rest : File = cells_of ss in
    let own : List ℕ = take s.count vs in
    let left : List ℕ = drop s.count vs in
    let parts = split s.first s.count s.file rest vs are.0.places fits low in
    let at : places_of s.file ≡ from s.first (length own) = are.0.places ∙ ap (from s.first) (sym parts.count) in
    let two : EachPair Apart (places_of s.file ++ places_of rest) = subst (EachPair Apart) (places_append s.file rest) apart in
    let across : FileApart (with_values own s.file) (places_of rest) =
    file_apart (with_values own s.file) (places_of rest) (subst (Each (ApartFrom (places_of rest))) (sym (places_with own s.file)) (crossing (places_of s.file) (places_of rest) two)) in
    ap (segment_steps ss left) (way_changes s.way own s.first s.file rest at are.0.settles apart parts.fits parts.low)
    ∙ steps_stay ss left (with_values own s.file) rest are.1 across
    ∙ ap (λ (x : File). with_values own s.file ++ x) (steps_settle ss left are.1 (later (places_of s.file) (places_of rest) two) parts.fits_rest parts.low_rest)
    ∙ sym parts.values
  where
    later : (ps qs : List Place) → EachPair Apart (ps ++ qs) → EachPair Apart qs
    later [] qs h = h
    later (p ∷ ps) qs h = later ps qs h.1
