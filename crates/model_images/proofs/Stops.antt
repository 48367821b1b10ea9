-- A refusal that isn't for too few bytes stays, whatever follows; so there is one place at which bytes stop to fit.
use Rattle.std.{proofs.{Common.{◌≡◌, ◌<◌, ◌≤◌, ◌⊎◌, inl, inr, ℕ, zero, suc, true, false, List, [], ◌∷◌, ◌++◌, Some, None, Option, Ok, Err, refl, sym, ap, ◌∙◌, append_assoc, arith}, lemmas.Bool.cases_lt}, specs.Prelude.{take, ◌==◌}}
use Rattle.model_registers.specs.{Registers.File, EndpointTable.endpoint_reset, Decoding.Function}
use Rattle.model_guests.specs.{Slots.Slots, Lone.LoneGuest}
use Rattle.model_images.{specs.{Layouts.{Parsed, le_bytes, parse_number}, ImageBytes.{magic, version, declaration_bytes}, LoadedBytes.{Left, then_read, after_version, after_beginning, after_bytes, after_values, after_slot, after_slots, after_number, after_latch, after_image, fault_of, load_fault}, Stops.{StopsAt, is_told, OneStop}}, proofs.{LoadedBytes.latch_taken, TakenBytes.latch_there}}

-- what is left is followed by what follows, and a refusal stays
record IsSteady (read : List ℕ → Left) : Type 0 where
  ahead : (bytes rest more : List ℕ) → read bytes ≡ Ok rest → read (bytes ++ more) ≡ Ok (rest ++ more)
  stays : (bytes more : List ℕ) (k : ℕ) → (k == 905) ≡ false → read bytes ≡ Err k → read (bytes ++ more) ≡ Err k

then_steady : (first next : List ℕ → Left) → IsSteady first → IsSteady next → IsSteady (λ bytes. then_read next (first bytes))
then_steady first next a b = record { ahead = ahead; stays = stays }
  where
    ahead : (bytes rest more : List ℕ) → then_read next (first bytes) ≡ Ok rest → then_read next (first (bytes ++ more)) ≡ Ok (rest ++ more)
    ahead bytes rest more h = of (first bytes) refl h
      where
        of : (l : Left) → first bytes ≡ l → then_read next l ≡ Ok rest → then_read next (first (bytes ++ more)) ≡ Ok (rest ++ more)
        of (Ok left) e k = ap (then_read next) (a.ahead bytes left more e) ∙ b.ahead left rest more k
        of (Err n) e k = cc

    stays : (bytes more : List ℕ) (k : ℕ) → (k == 905) ≡ false → then_read next (first bytes) ≡ Err k → then_read next (first (bytes ++ more)) ≡ Err k
    stays bytes more k other h = of (first bytes) refl h
      where
        of : (l : Left) → first bytes ≡ l → then_read next l ≡ Err k → then_read next (first (bytes ++ more)) ≡ Err k
        of (Ok left) e i = ap (then_read next) (a.ahead bytes left more e) ∙ b.stays left more k other i
        of (Err n) e i = ap (then_read next) (a.stays bytes more k other (e ∙ i))

bytes_steady : (k : ℕ) (xs : List ℕ) → IsSteady (after_bytes k xs)
bytes_steady k xs = record { ahead = ahead xs; stays = stays xs }
  where
    ahead : (xs bytes rest more : List ℕ) → after_bytes k xs bytes ≡ Ok rest → after_bytes k xs (bytes ++ more) ≡ Ok (rest ++ more)
    ahead [] bytes rest more h = grind arith
    ahead (x ∷ xs) [] rest more h = cc
    ahead (x ∷ xs) (b ∷ bytes) rest more h = grind (arith, ahead xs bytes rest more)

    stays : (xs bytes more : List ℕ) (n : ℕ) → (n == 905) ≡ false → after_bytes k xs bytes ≡ Err n → after_bytes k xs (bytes ++ more) ≡ Err n
    stays [] bytes more n other h = cc
    stays (x ∷ xs) [] more n other h = grind arith
    stays (x ∷ xs) (b ∷ bytes) more n other h = grind (arith, stays xs bytes more n other)

values_steady : (file : File) → IsSteady (after_values file)
values_steady file = record { ahead = ahead file; stays = stays file }
  where
    ahead : (file : File) (bytes rest more : List ℕ) → after_values file bytes ≡ Ok rest → after_values file (bytes ++ more) ≡ Ok (rest ++ more)
    ahead [] bytes rest more h = grind arith
    ahead (e ∷ es) [] rest more h = cc
    ahead (e ∷ es) (b ∷ bytes) rest more h = grind (arith, ahead es bytes rest more)

    stays : (file : File) (bytes more : List ℕ) (n : ℕ) → (n == 905) ≡ false → after_values file bytes ≡ Err n → after_values file (bytes ++ more) ≡ Err n
    stays [] bytes more n other h = cc
    stays (e ∷ es) [] more n other h = grind arith
    stays (e ∷ es) (b ∷ bytes) more n other h = grind (arith, stays es bytes more n other)

latch_number : (o : Option (Parsed ℕ)) (k : ℕ) → after_number o ≡ Err k → k ≡ 905
latch_number o k h = grind arith

latch_steady : IsSteady after_latch
latch_steady = record { ahead = ahead; stays = λ bytes more k other h. let none = latch_number (parse_number 4 bytes) k h in grind arith }
  where
    ahead : (bytes rest more : List ℕ) → after_latch bytes ≡ Ok rest → after_latch (bytes ++ more) ≡ Ok (rest ++ more)
    ahead bytes rest more h =
        let l = latch_there bytes rest h in
        ap after_latch (ap (λ (xs : List ℕ). xs ++ more) l.1 ∙ append_assoc (le_bytes 4 l.0) rest more) ∙ latch_taken l.0 (rest ++ more) l.2 l.3

beginning_steady : IsSteady (after_beginning magic version)
beginning_steady = then_steady (after_bytes 905 (le_bytes 4 magic)) (after_version version) (bytes_steady 905 (le_bytes 4 magic)) (bytes_steady 908 (le_bytes 4 version))

slot_steady : (f : Option Function) → IsSteady (after_slot f)
slot_steady None = bytes_steady 906 (0 ∷ [])
slot_steady (Some f) = then_steady (after_bytes 906 (1 ∷ declaration_bytes f.decl)) (after_values (endpoint_reset f.decl false)) (bytes_steady 906 (1 ∷ declaration_bytes f.decl)) (values_steady (endpoint_reset f.decl false))

slots_stay : (fs : Slots) (bytes more : List ℕ) (k : ℕ) → (k == 905) ≡ false → after_slots fs bytes ≡ Err k → after_slots fs (bytes ++ more) ≡ Err k
slots_stay [] bytes more k other h = grind arith
slots_stay (f ∷ fs) bytes more k other h = of (λ left. slots_stay fs left more k other) (after_slot f bytes) refl h
  where
    of : ((left : List ℕ) → after_slots fs left ≡ Err k → after_slots fs (left ++ more) ≡ Err k) → (l : Left) → after_slot f bytes ≡ l → then_read (after_slots fs) l ≡ Err k → then_read (after_slots fs) (after_slot f (bytes ++ more)) ≡ Err k
    of next (Ok left) e i = ap (then_read (after_slots fs)) ((slot_steady f).ahead bytes left more e) ∙ next left i
    of next (Err n) e i = ap (then_read (after_slots fs)) ((slot_steady f).stays bytes more k other (e ∙ i))

image_stays : (g : LoneGuest) (bytes more : List ℕ) (k : ℕ) → (k == 905) ≡ false → after_image g bytes ≡ Err k → after_image g (bytes ++ more) ≡ Err k
image_stays g bytes more k other h = of (opening bytes) refl h
  where
    opening : List ℕ → Left
    opening xs = then_read after_latch (after_beginning magic version xs)

    steady : IsSteady opening
    steady = then_steady (after_beginning magic version) after_latch beginning_steady latch_steady

    of : (l : Left) → opening bytes ≡ l → then_read (after_slots g.slots) l ≡ Err k → then_read (after_slots g.slots) (opening (bytes ++ more)) ≡ Err k
    of (Ok left) e i = ap (then_read (after_slots g.slots)) (steady.ahead bytes left more e) ∙ slots_stay g.slots left more k other i
    of (Err n) e i = ap (then_read (after_slots g.slots)) (steady.stays bytes more k other (e ∙ i))

fault_stays : (g : LoneGuest) (bytes more : List ℕ) → is_told (load_fault g bytes) ≡ true → load_fault g (bytes ++ more) ≡ load_fault g bytes
fault_stays g bytes more told = of (after_image g bytes) refl told
  where
    of : (l : Left) → after_image g bytes ≡ l → is_told (fault_of l) ≡ true → load_fault g (bytes ++ more) ≡ load_fault g bytes
    of (Ok rest) e t = cc
    of (Err k) e t = let other : (k == 905) ≡ false = grind arith in ap fault_of (image_stays g bytes more k other e ∙ sym e)

-- ---- one place

taken_more : (i m : ℕ) (xs : List ℕ) → i ≤ m → (more : List ℕ) × (take m xs ≡ take i xs ++ more)
taken_more zero m xs h = (take m xs, refl)
taken_more (suc i) zero xs h = absurd (omega arith)
taken_more (suc i) (suc m) [] h = ([], refl)
taken_more (suc i) (suc m) (x ∷ xs) h = let t = taken_more i m xs (omega arith) in (t.0, ap (λ (ys : List ℕ). x ∷ ys) t.1)

none_later : (g : LoneGuest) (bytes : List ℕ) (n m : ℕ) → is_told (load_fault g bytes) ≡ true → StopsAt g bytes n → StopsAt g bytes m → n < m → ⊥
none_later g bytes n m told a b less =
    let t = taken_more (suc n) m bytes (omega arith) in
    let first : is_told (load_fault g (take (suc n) bytes)) ≡ true = ap is_told a.there ∙ told in
    b.before (ap (load_fault g) t.1 ∙ fault_stays g (take (suc n) bytes) t.0 first ∙ a.there)

pub one_stop : OneStop
one_stop g bytes n m told a b = of (cases_lt n m) (cases_lt m n)
  where
    of : (n < m) ⊎ (m ≤ n) → (m < n) ⊎ (n ≤ m) → n ≡ m
    of (inl less) o = absurd (none_later g bytes n m told a b less)
    of (inr more) (inl less) = absurd (none_later g bytes m n told b a less)
    of (inr more) (inr most) = omega arith
