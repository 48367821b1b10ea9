-- The file that agrees with a guest's file: what it holds, that it is the only one, and how it changes.
use Rattle.std.{proofs.{Common.{◌≡◌, ◌/◌, Bool, true, false, cond, List, [], ◌∷◌, refl, arith}, lemmas.Bool.Decides.nat_tests}, specs.{Prelude.IsFalse, List.list_any}}
use Rattle.lists.{specs.Elements.Each, proofs.Members.each_from}
use Rattle.model_registers.{specs.{Cell.{Cell, no_cell}, Registers.{Place, place_eq, after, PlacedCell, File, cell_at, changed}, OwnCopies.is_own, CopiedFiles.{agreed_file, places_of}}, proofs.{RegisterFiles.{change_at_place, place_same, place_turned}, ConstantCells.{raised_none, no_cell_stays}}}
use Rattle.model_guests.{proofs.DistinctPlaces.HasDistinctPlaces, specs.{AgreedLaws.{HoldsFile, ShowsFile}, ChangeLaws.{WritesAlike, RaisesAlike}}}

-- ---- places

pub place_self : (p : Place) → place_eq p p ≡ true
place_self p = grind (arith, nat_tests)

-- ---- what the agreed file holds

pub agreed_places : (left own : File) → places_of (agreed_file left own) ≡ places_of left
agreed_places [] own = refl
agreed_places (e ∷ es) own = grind (arith, agreed_places es own)

-- a place of the guest's copies
pub agreed_kept : (left own : File) (p : Place) → is_own p ≡ true → cell_at (agreed_file left own) p ≡ cell_at left p
agreed_kept [] own p h = refl
agreed_kept (e ∷ es) own p h = grind (arith, agreed_kept es own p h, place_same)

abbrev pub stands : Place → List Place → Bool
stands p ps = list_any (λ q. place_eq q p) ps

pub absent : (file : File) (p : Place) → stands p (places_of file) ≡ false → cell_at file p ≡ no_cell
absent [] p h = refl
absent (e ∷ es) p h = grind (arith, absent es p)

-- every other place
pub agreed_where : (left own : File) (p : Place) → is_own p ≡ false → cell_at (agreed_file left own) p ≡ cond (stands p (places_of left)) (cell_at own p) no_cell
agreed_where [] own p h = refl
agreed_where (e ∷ es) own p h = grind (arith, agreed_where es own p h, place_same e.place p)

pub agreed_common : (left own : File) (p : Place) → places_of own ≡ places_of left → is_own p ≡ false → cell_at (agreed_file left own) p ≡ cell_at own p
agreed_common left own p same h = grind (arith, agreed_where, absent)

pub agreed_holds : (left own : File) → places_of own ≡ places_of left → HoldsFile left own (agreed_file left own)
agreed_holds left own same = grind (arith, agreed_places, agreed_kept, agreed_common)

-- a guest reads there what it holds
pub shows_file : ShowsFile
shows_file left own same p [] = refl
shows_file left own same p (on ∷ ons) = grind (arith, shows_file left own same (after p) ons, agreed_common)

-- ---- no other file holds that

tail_cells : (e d : PlacedCell) (es ds : File) → e.place ≡ d.place → (ps : List Place) → Each (λ p. IsFalse (place_eq e.place p)) ps
    → Each (λ p. cell_at (e ∷ es) p ≡ cell_at (d ∷ ds) p) ps → Each (λ p. cell_at es p ≡ cell_at ds p) ps
tail_cells e d es ds same [] apart cells = tt
tail_cells e d es ds same (p ∷ ps) apart cells = grind (arith, tail_cells e d es ds same ps)

-- files with the same places, none twice, and with the same cells there
pub same_files : (f g : File) → places_of f ≡ places_of g → HasDistinctPlaces f → Each (λ p. cell_at f p ≡ cell_at g p) (places_of f) → f ≡ g
same_files [] [] same distinct cells = refl
same_files [] (d ∷ ds) same distinct cells = cc
same_files (e ∷ es) [] same distinct cells = cc
same_files (e ∷ es) (d ∷ ds) same distinct cells = grind (arith, place_self, same_files es ds, tail_cells e d es ds)

pub only_file : (left own now : File) → HasDistinctPlaces left → HoldsFile left own now → now ≡ agreed_file left own
only_file left own now distinct holds = grind (arith, same_files, agreed_places, each_from, agreed_kept, agreed_where, absent)

-- ---- changes

pub own_change : (f : Cell → Cell) → f no_cell ≡ no_cell → (p : Place) → is_own p ≡ true → (left own : File) → agreed_file left (changed f p own) ≡ agreed_file left own
own_change f none p h [] own = refl
own_change f none p h (e ∷ es) own = grind (arith, own_change f none p h es own, change_at_place, place_same)

pub board_change : (f : Cell → Cell) → f no_cell ≡ no_cell → (p : Place) → is_own p ≡ false → (left own : File) → agreed_file left (changed f p own) ≡ changed f p (agreed_file left own)
board_change f none p h [] own = refl
board_change f none p h (e ∷ es) own = grind (arith, board_change f none p h es own, place_same, place_turned, change_at_place)

pub writes_alike : WritesAlike
writes_alike [] v p left own = refl
writes_alike (on ∷ ons) v p left own = grind (arith, writes_alike ons (v / 256) (after p) left, own_change, no_cell_stays, board_change)

pub raises_alike : RaisesAlike
raises_alike m p left own = grind (arith, own_change, raised_none, board_change)
