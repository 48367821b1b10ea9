-- Guests stay seated.
use Rattle.std.{proofs.Common.{◌≡◌, ℕ, zero, suc, ◌/◌, ◌%◌, Bool, cond, List, [], ◌∷◌, length, Some, None, Option, refl, ap, ap₂, ◌∙◌, arith}, specs.{Prelude.{slice_set, IsFalse}, Str.bytes_eq}}
use Rattle.lists.specs.Elements.{Each, EachPair}
use Rattle.model_registers.specs.{Cell.{Cell, written}, Registers.{Place, after, File, changed, write}, Decoding.Function, CopiedFiles.shape_of}
use Rattle.model_board.specs.{Paths.Path, Board.Board}
use Rattle.model_guests.{specs.{Accesses.Event, Slots.{Slots, slot_at, reset_function, with_file}, Lone.{LoneGuest, changed_by}, Text.Text, Guests.{GuestNow, GuestsNow, path_in, with_guest}, Seated.{AreSeats, IsSeat, SeatedAfterEvents}}, proofs.GuestsByName.{path_at, Keeps, one, one_name, named_with}}

-- ---- a change of values leaves the shape

abbrev bare : Cell → Cell
bare c = record c { value = 0 }

pub changed_shape : (f : Cell → Cell) → ((c : Cell) → bare (f c) ≡ bare c) → (p : Place) (file : File) → shape_of (changed f p file) ≡ shape_of file
changed_shape f keeps p [] = refl
changed_shape f keeps p (e ∷ es) = grind (arith, changed_shape f keeps p es)

pub written_shape : (ons : List Bool) (v : ℕ) (p : Place) (file : File) → shape_of (write ons v p file) ≡ shape_of file
written_shape [] v p file = refl
written_shape (on ∷ ons) v p file = grind (arith, written_shape ons (v / 256) (after p) (cond on (changed (written (v % 256)) p file) file), changed_shape)

-- ---- one guest's slots

pub seats_at : (b : Board) (qs : List (Option Path)) (fs : Slots) (n : ℕ) → AreSeats b qs fs → IsSeat b (path_at qs n) (slot_at fs n)
seats_at b [] f n h = grind arith
seats_at b (q ∷ qs) [] n h = absurd h
seats_at b (q ∷ qs) (f ∷ fs) zero h = h.0
seats_at b (q ∷ qs) (f ∷ fs) (suc n) h = seats_at b qs fs n h.1

-- as many slots as paths
pub as_many : (b : Board) (qs : List (Option Path)) (fs : Slots) → AreSeats b qs fs → length fs ≡ length qs
as_many b [] f h = grind arith
as_many b (q ∷ qs) [] h = absurd h
as_many b (q ∷ qs) (f ∷ fs) h = ap suc (as_many b qs fs h.1)

pub seats_set : (b : Board) (qs : List (Option Path)) (fs : Slots) (n : ℕ) (q : Option Path) (f : Option Function) → AreSeats b qs fs → IsSeat b q f → AreSeats b (slice_set qs n q) (slice_set fs n f)
seats_set b [] g n q f h k = grind arith
seats_set b (p ∷ ps) [] n q f h k = absurd h
seats_set b (p ∷ ps) (g ∷ gs) zero q f h k = (k, h.1)
seats_set b (p ∷ ps) (g ∷ gs) (suc n) q f h k = (h.0, seats_set b ps gs n q f h.1 k)

seats_put : (b : Board) (qs : List (Option Path)) (fs : Slots) (n : ℕ) (f : Function) (file : File) → shape_of file ≡ shape_of f.file → slot_at fs n ≡ Some f → AreSeats b qs fs
    → AreSeats b qs (slice_set fs n (Some (record f { file = file })))
seats_put b [] g n f file same at h = grind arith
seats_put b (q ∷ qs) [] n f file same at h = absurd h
seats_put b (q ∷ qs) (g ∷ gs) zero f file same at h = grind arith
seats_put b (q ∷ qs) (g ∷ gs) (suc n) f file same at h = (h.0, seats_put b qs gs n f file same at h.1)

pub with_file_seats : (b : Board) (qs : List (Option Path)) (change : File → File) → ((file : File) → shape_of (change file) ≡ shape_of file) → (n : ℕ) (slots : Slots)
    → AreSeats b qs slots → AreSeats b qs (with_file change n slots)
with_file_seats b qs change stay n slots h = grind (arith, seats_put)

changed_seats : (b : Board) (qs : List (Option Path)) (g : LoneGuest) (e : Event) → AreSeats b qs g.slots → AreSeats b qs (changed_by g e).slots
changed_seats b qs g e h = grind (arith, with_file_seats, changed_shape, written_shape)

-- ---- all guests, after a change of one

pub names_stay : (g : GuestNow → GuestNow) → Keeps g → (n : Text) (s : GuestsNow) → EachPair (λ (t u : GuestNow). IsFalse (bytes_eq t.name u.name)) s
    → EachPair (λ (t u : GuestNow). IsFalse (bytes_eq t.name u.name)) (with_guest g n s)
names_stay g keeps n [] h = tt
names_stay g keeps n (t ∷ ts) h = (later ts h.0, names_stay g keeps n ts h.1)
  where
    later : (us : GuestsNow) → Each (λ (u : GuestNow). IsFalse (bytes_eq t.name u.name)) us → Each (λ (u : GuestNow). IsFalse (bytes_eq (one g n t).name u.name)) (with_guest g n us)
    later [] h = tt
    later (u ∷ us) h = (ap₂ bytes_eq (one_name g keeps n t) (one_name g keeps n u) ∙ h.0, later us h.1)

pub guests_stay : (P : GuestNow → Type 0) (g : GuestNow → GuestNow) → ((t : GuestNow) → P t → P (g t)) → (n : Text) (s : GuestsNow) → Each P s → Each P (with_guest g n s)
guests_stay P g stays n [] h = tt
guests_stay P g stays n (t ∷ ts) h = grind (arith, guests_stay P g stays n ts)

-- paths stay where the change leaves them
pub paths_stay : (g : GuestNow → GuestNow) → Keeps g → ((t : GuestNow) → (g t).paths ≡ t.paths) → (n a : Text) (k : ℕ) (s : GuestsNow) → path_in (with_guest g n s) a k ≡ path_in s a k
paths_stay g keeps same n a k s = grind (arith, named_with)

pub seated_after_events : SeatedAfterEvents
seated_after_events b s seated name e = grind (arith, names_stay, guests_stay, paths_stay, changed_seats)

-- ---- one seat

pub no_path : (b : Board) (q : Option Path) (o : Option Function) → IsSeat b q o → o ≡ None → q ≡ None
no_path b q o h e = grind arith

pub some_path : (b : Board) (q : Option Path) (f : Function) → IsSeat b q (Some f) → (p : Path) × (q ≡ Some p)
some_path b q f h = grind arith

pub at_reset_there : (b : Board) (p : Option Path) (f : Function) → IsSeat b p (Some f) → IsSeat b p (reset_function (Some f.decl))
at_reset_there b p f h = grind arith
