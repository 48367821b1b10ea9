-- A guest's line is of the form that its first word after the name tells.
use Rattle.std.{proofs.{Common.{◌≡◌, ℕ, ◌^◌, ◌==◌, Bool, true, false, cond, List, [], ◌∷◌, Option, Some, None, option_map, length, codes, refl, sym, ap, ◌∙◌, subst, arith}, lemmas.{Bool.Decides.nat_tests, Slice.Eq.bytes_eq-Decides}}, specs.{Option.option_and_then, Str.bytes_eq}}
use Rattle.lists.specs.Elements.{first_of_two}
use Rattle.model_guests.specs.{Accesses.{Event, access, Target, configuration, port, address, reads, writes}, Text.Text, Numbers.{below, number_of}, Grammar.{event_of, given}}
use Rattle.lines.specs.{Cursors.{Numbered, numbered}, Forms.{Placed, placed, Operated, operated, ended, accessed}}

-- W at the end
abbrev reads_at : Target → List Text → Option Event
reads_at target ws = option_and_then (λ (w : Numbered).
    ended w.rest (access (record { target = target; width = w.number; op = reads }))) (numbered ws)

-- W V at the end
abbrev writes_at : Target → List Text → Option Event
writes_at target ws = option_and_then (λ (w : Numbered). option_and_then (λ (v : Numbered). option_and_then (λ (n : ℕ).
    ended v.rest (access (record { target = target; width = w.number; op = writes n })))
    (below (2 ^ 32) (Some v.number))) (numbered w.rest)) (numbered ws)

-- a number that was read, with the words after it
abbrev numbered_by : Option ℕ → List Text → Option Numbered
numbered_by o ws = option_map (λ (n : ℕ). record { number = n; rest = ws }) o

abbrev placed_by : (ℕ → Target) → Option ℕ → List Text → Option Placed
placed_by f o ws = option_map (λ (a : Numbered). record { target = f a.number; rest = a.rest }) (numbered_by o ws)

abbrev read_after : Option Placed → Option Event
read_after p = option_and_then (λ (x : Placed). reads_at x.target x.rest) p

abbrev written_after : Option Placed → Option Event
written_after p = option_and_then (λ (x : Placed). writes_at x.target x.rest) p

alone : (o : Option Event) → first_of_two o None ≡ o
alone o = grind arith

-- ---- reads at a port or an address

read_no_width : (f : ℕ → Target) (o : Option ℕ) → None ≡ read_after (placed_by f o [])
read_no_width f o = grind arith

read_width : (f : ℕ → Target) (o : Option ℕ) (w : Text)
    → given o (λ n. given (number_of w) (λ width. Some (access (record { target = f n; width = width; op = reads }))))
    ≡ read_after (placed_by f o (w ∷ []))
read_width f None w = refl
read_width f (Some n) w = grind arith

read_many : (f : ℕ → Target) (o : Option ℕ) (w c : Text) (cs : List Text)
    → None ≡ read_after (placed_by f o (w ∷ c ∷ cs))
read_many f None w c cs = refl
read_many f (Some n) w c cs = grind arith

reads_address : (ws : List Text) → event_of ((109 ∷ 114 ∷ []) ∷ ws) ≡ read_after (placed 109 ws)
reads_address [] = refl
reads_address (a ∷ []) = read_no_width address (number_of a)
reads_address (a ∷ b ∷ []) = read_width address (number_of a) b
reads_address (a ∷ b ∷ c ∷ []) = read_many address (number_of a) b c []
reads_address (a ∷ b ∷ c ∷ d ∷ []) = read_many address (number_of a) b c (d ∷ [])
reads_address (a ∷ b ∷ c ∷ d ∷ e ∷ ws) = read_many address (number_of a) b c (d ∷ e ∷ ws)

reads_port : (ws : List Text) → event_of ((105 ∷ 114 ∷ []) ∷ ws) ≡ read_after (placed 105 ws)
reads_port [] = refl
reads_port (a ∷ []) = read_no_width port (number_of a)
reads_port (a ∷ b ∷ []) = alone _ ∙ read_width port (number_of a) b
reads_port (a ∷ b ∷ c ∷ []) = read_many port (number_of a) b c []
reads_port (a ∷ b ∷ c ∷ d ∷ []) = read_many port (number_of a) b c (d ∷ [])
reads_port (a ∷ b ∷ c ∷ d ∷ e ∷ ws) = read_many port (number_of a) b c (d ∷ e ∷ ws)

-- ---- reads at configuration space

abbrev slot_by : Option ℕ → Option ℕ → List Text → Option Placed
slot_by o q ws = option_and_then (λ (s : ℕ). placed_by (configuration s) q ws) o

abbrev slot_in : Option Numbered → Option Placed
slot_in a = option_and_then (λ (s : Numbered). option_map (λ (o : Numbered).
    record { target = configuration s.number o.number; rest = o.rest }) (numbered s.rest)) a

no_offset : (o : Option ℕ) → None ≡ slot_in (numbered_by o [])
no_offset o = grind arith

in_slot : (f : Option Placed → Option Event) (o : Option ℕ) (b : Text) (ws : List Text)
    → f (slot_by o (number_of b) ws) ≡ f (slot_in (numbered_by o (b ∷ ws)))
in_slot f o b ws = ap f (grind arith)

read_slot_no_width : (o q : Option ℕ) → None ≡ read_after (slot_by o q [])
read_slot_no_width o q = grind (arith, read_no_width)

read_slot_width : (o q : Option ℕ) (w : Text)
    → given o (λ s. given q (λ n. given (number_of w) (λ width.
    Some (access (record { target = configuration s n; width = width; op = reads })))))
    ≡ read_after (slot_by o q (w ∷ []))
read_slot_width None q w = refl
read_slot_width (Some s) q w = read_width (configuration s) q w

read_slot_many : (o q : Option ℕ) (w c : Text) (cs : List Text) → None ≡ read_after (slot_by o q (w ∷ c ∷ cs))
read_slot_many o q w c cs = grind (arith, read_many)

reads_slot : (ws : List Text) → event_of ((99 ∷ 114 ∷ []) ∷ ws) ≡ read_after (placed 99 ws)
reads_slot [] = refl
reads_slot (a ∷ []) = ap read_after (no_offset (number_of a))
reads_slot (a ∷ b ∷ []) = read_slot_no_width (number_of a) (number_of b) ∙ in_slot read_after (number_of a) b []
reads_slot (a ∷ b ∷ c ∷ []) = alone _ ∙ read_slot_width (number_of a) (number_of b) c ∙ in_slot read_after (number_of a) b (c ∷ [])
reads_slot (a ∷ b ∷ c ∷ d ∷ []) = read_slot_many (number_of a) (number_of b) c d [] ∙ in_slot read_after (number_of a) b (c ∷ d ∷ [])
reads_slot (a ∷ b ∷ c ∷ d ∷ e ∷ ws) = read_slot_many (number_of a) (number_of b) c d (e ∷ ws) ∙ in_slot read_after (number_of a) b (c ∷ d ∷ e ∷ ws)

-- ---- writes

nothing_then : (s : Option ℕ) → ◌≡◌ {A = Option Event} None (option_and_then (λ (n : ℕ). None) s)
nothing_then s = grind arith

abbrev written : Target → ℕ → ℕ → Event
written t w n = access (record { target = t; width = w; op = writes n })

abbrev with_width : Target → Option ℕ → List Text → Option Event
with_width t q ws = option_and_then (λ (w : Numbered). option_and_then (λ (v : Numbered).
    option_and_then (λ (n : ℕ). ended v.rest (written t w.number n)) (below (2 ^ 32) (Some v.number)))
    (numbered w.rest)) (numbered_by q ws)

write_end : (t : Target) (q : Option ℕ) (v : Text)
    → given (below (2 ^ 32) (number_of v)) (λ n. given q (λ w. Some (written t w n))) ≡ with_width t q (v ∷ [])
write_end t None v = sym (nothing_then (below (2 ^ 32) (number_of v)))
write_end t (Some w) v = grind arith

write_more : (t : Target) (q : Option ℕ) (v c : Text) (cs : List Text) → None ≡ with_width t q (v ∷ c ∷ cs)
write_more t None v c cs = refl
write_more t (Some w) v c cs = grind (arith, nothing_then)

write_place : (f : ℕ → Target) (o : Option ℕ) → None ≡ written_after (placed_by f o [])
write_place f o = grind arith

write_width : (f : ℕ → Target) (o : Option ℕ) (w : Text) → None ≡ written_after (placed_by f o (w ∷ []))
write_width f None w = refl
write_width f (Some n) w = grind arith

write_whole : (f : ℕ → Target) (o : Option ℕ) (w v : Text)
    → given (below (2 ^ 32) (number_of v)) (λ n. given o (λ k. given (number_of w) (λ width. Some (written (f k) width n))))
    ≡ written_after (placed_by f o (w ∷ v ∷ []))
write_whole f None w v = sym (nothing_then (below (2 ^ 32) (number_of v)))
write_whole f (Some k) w v = write_end (f k) (number_of w) v

write_many : (f : ℕ → Target) (o : Option ℕ) (w v c : Text) (cs : List Text)
    → None ≡ written_after (placed_by f o (w ∷ v ∷ c ∷ cs))
write_many f None w v c cs = refl
write_many f (Some k) w v c cs = write_more (f k) (number_of w) v c cs

writes_address : (ws : List Text) → event_of ((109 ∷ 119 ∷ []) ∷ ws) ≡ written_after (placed 109 ws)
writes_address [] = refl
writes_address (a ∷ []) = write_place address (number_of a)
writes_address (a ∷ b ∷ []) = write_width address (number_of a) b
writes_address (a ∷ b ∷ c ∷ []) = write_whole address (number_of a) b c
writes_address (a ∷ b ∷ c ∷ d ∷ []) = write_many address (number_of a) b c d []
writes_address (a ∷ b ∷ c ∷ d ∷ e ∷ ws) = write_many address (number_of a) b c d (e ∷ ws)

writes_port : (ws : List Text) → event_of ((105 ∷ 119 ∷ []) ∷ ws) ≡ written_after (placed 105 ws)
writes_port [] = refl
writes_port (a ∷ []) = write_place port (number_of a)
writes_port (a ∷ b ∷ []) = write_width port (number_of a) b
writes_port (a ∷ b ∷ c ∷ []) = alone _ ∙ write_whole port (number_of a) b c
writes_port (a ∷ b ∷ c ∷ d ∷ []) = write_many port (number_of a) b c d []
writes_port (a ∷ b ∷ c ∷ d ∷ e ∷ ws) = write_many port (number_of a) b c d (e ∷ ws)

write_slot_place : (o q : Option ℕ) → None ≡ written_after (slot_by o q [])
write_slot_place o q = grind (arith, write_place)

write_slot_width : (o q : Option ℕ) (w : Text) → None ≡ written_after (slot_by o q (w ∷ []))
write_slot_width o q w = grind (arith, write_width)

write_slot_whole : (o q : Option ℕ) (w v : Text)
    → given (below (2 ^ 32) (number_of v)) (λ n. given o (λ s. given q (λ k. given (number_of w) (λ width.
    Some (written (configuration s k) width n)))))
    ≡ written_after (slot_by o q (w ∷ v ∷ []))
write_slot_whole None q w v = sym (nothing_then (below (2 ^ 32) (number_of v)))
write_slot_whole (Some s) q w v = write_whole (configuration s) q w v

write_slot_many : (o q : Option ℕ) (w v c : Text) (cs : List Text)
    → None ≡ written_after (slot_by o q (w ∷ v ∷ c ∷ cs))
write_slot_many o q w v c cs = grind (arith, write_many)

writes_slot : (ws : List Text) → event_of ((99 ∷ 119 ∷ []) ∷ ws) ≡ written_after (placed 99 ws)
writes_slot [] = refl
writes_slot (a ∷ []) = ap written_after (no_offset (number_of a))
writes_slot (a ∷ b ∷ []) = write_slot_place (number_of a) (number_of b) ∙ in_slot written_after (number_of a) b []
writes_slot (a ∷ b ∷ c ∷ []) = write_slot_width (number_of a) (number_of b) c ∙ in_slot written_after (number_of a) b (c ∷ [])
writes_slot (a ∷ b ∷ c ∷ d ∷ []) = alone _ ∙ write_slot_whole (number_of a) (number_of b) c d ∙ in_slot written_after (number_of a) b (c ∷ d ∷ [])
writes_slot (a ∷ b ∷ c ∷ d ∷ e ∷ ws) = write_slot_many (number_of a) (number_of b) c d e ws ∙ in_slot written_after (number_of a) b (c ∷ d ∷ e ∷ ws)

-- ---- a first word that is no form's

-- no word tells a form
none_is : (r m cr iw mw cw raise : Bool) (f g h i j k l : Option Event)
    → r ≡ false → m ≡ false → cr ≡ false → iw ≡ false → mw ≡ false → cw ≡ false → raise ≡ false
    → (None ≡ first_of_two (cond r f None) (cond m g None))
    × (None ≡ first_of_two (cond cr h None) (first_of_two (cond iw i None) (cond mw j None)))
    × (None ≡ first_of_two (cond cw k None) (cond raise l None))
none_is r m cr iw mw cw raise f g h i j k l a b c d e x y = grind arith

-- a word that is none of these
pub record IsOther (op : Text) : Type 0 where
  pub ir : bytes_eq op (codes "ir") ≡ false
  pub mr : bytes_eq op (codes "mr") ≡ false
  pub cr : bytes_eq op (codes "cr") ≡ false
  pub iw : bytes_eq op (codes "iw") ≡ false
  pub mw : bytes_eq op (codes "mw") ≡ false
  pub cw : bytes_eq op (codes "cw") ≡ false
  pub raise : bytes_eq op (codes "raise") ≡ false

pub no_form : (op : Text) (ws : List Text) → IsOther op → None ≡ event_of (op ∷ ws)
no_form op ws h = grind (arith, none_is)

pub unlike : (a b : Text) → (length a ≡ length b → ⊥) → bytes_eq a b ≡ false
unlike a b h = grind (arith, bytes_eq-Decides)

-- a word of another length than two is no access
pub other_length : (op : Text) → (length op ≡ 2 → ⊥) → bytes_eq op (codes "raise") ≡ false → IsOther op
other_length op h r = grind (arith, unlike)

-- two letters
letters : (s k x y : ℕ) → ((s ≡ x) × (k ≡ y) → ⊥) → bytes_eq (s ∷ k ∷ []) (x ∷ y ∷ []) ≡ false
letters s k x y h = grind (arith, nat_tests)

other_kind : (s k : ℕ) → (k ≡ 114 → ⊥) → (k ≡ 119 → ⊥) → IsOther (s ∷ k ∷ [])
other_kind s k r w = grind (arith, letters, unlike)

other_space : (s k : ℕ) → (s ≡ 109 → ⊥) → (s ≡ 105 → ⊥) → (s ≡ 99 → ⊥) → IsOther (s ∷ k ∷ [])
other_space s k m i c = grind (arith, letters, unlike)

-- ---- all accesses

is_place : (s n : ℕ) → (s == n) ≡ true → n ≡ s
is_place s n h = grind (arith, nat_tests)

is_no_place : (s n : ℕ) → (s == n) ≡ false → s ≡ n → ⊥
is_no_place s n h e = grind (arith, nat_tests)

of_space : (P : ℕ → Type 0) → P 109 → P 105 → P 99
    → ((s : ℕ) → (s ≡ 109 → ⊥) → (s ≡ 105 → ⊥) → (s ≡ 99 → ⊥) → P s) → (s : ℕ) → P s
of_space P m i c other s = grind (arith, is_place, is_no_place)

not_placed : (s : ℕ) (ws : List Text) → (s ≡ 109 → ⊥) → (s ≡ 105 → ⊥) → (s ≡ 99 → ⊥) → placed s ws ≡ None
not_placed s ws m i c = grind (arith, nat_tests)

reads_are : (s : ℕ) (ws : List Text) → event_of ((s ∷ 114 ∷ []) ∷ ws) ≡ read_after (placed s ws)
reads_are s ws = of_space (λ (n : ℕ). event_of ((n ∷ 114 ∷ []) ∷ ws) ≡ read_after (placed n ws))
    (reads_address ws) (reads_port ws) (reads_slot ws)
    (λ n m i c. sym (no_form (n ∷ 114 ∷ []) ws (other_space n 114 m i c)) ∙ ap read_after (sym (not_placed n ws m i c))) s

writes_are : (s : ℕ) (ws : List Text) → event_of ((s ∷ 119 ∷ []) ∷ ws) ≡ written_after (placed s ws)
writes_are s ws = of_space (λ (n : ℕ). event_of ((n ∷ 119 ∷ []) ∷ ws) ≡ written_after (placed n ws))
    (writes_address ws) (writes_port ws) (writes_slot ws)
    (λ n m i c. sym (no_form (n ∷ 119 ∷ []) ws (other_space n 119 m i c)) ∙ ap written_after (sym (not_placed n ws m i c))) s

abbrev done_with : Target → ℕ → Option Operated → Option Event
done_with t w o = option_and_then (λ (x : Operated). ended x.rest (access (record { target = t; width = w; op = x.op }))) o

written_with : (t : Target) (w : ℕ) (q : Option Numbered)
    → option_and_then (λ (v : Numbered). option_and_then (λ (n : ℕ). ended v.rest (written t w n)) (below (2 ^ 32) (Some v.number))) q
    ≡ done_with t w (option_and_then (λ (v : Numbered). option_map (λ (n : ℕ). record { op = writes n; rest = v.rest })
    (below (2 ^ 32) (Some v.number))) q)
written_with t w None = refl
written_with t w (Some v) = grind arith

written_from : (o : Option Placed)
    → written_after o ≡ option_and_then (λ (p : Placed).
    option_and_then (λ (w : Numbered). done_with p.target w.number (operated 119 w.rest)) (numbered p.rest)) o
written_from None = refl
written_from (Some p) = grind (arith, written_with)

-- a kind that is none
nothing_with : (q : Option Numbered) → ◌≡◌ {A = Option Event} None (option_and_then (λ (w : Numbered). None) q)
nothing_with q = grind arith

not_accessed : (s k : ℕ) (ws : List Text) → (k == 114) ≡ false → (k == 119) ≡ false → None ≡ accessed s k ws
not_accessed s k ws r w = grind (arith, nothing_with)

by_kind : (s k : ℕ) (ws : List Text) (a b : Bool) → (k == 114) ≡ a → (k == 119) ≡ b
    → event_of ((s ∷ k ∷ []) ∷ ws) ≡ accessed s k ws
by_kind s k ws true b x y = grind (arith, is_place, reads_are)
by_kind s k ws false true x y =
    subst (λ (n : ℕ). event_of ((s ∷ n ∷ []) ∷ ws) ≡ accessed s n ws) (is_place k 119 y)
    (writes_are s ws ∙ written_from (placed s ws))
by_kind s k ws false false x y = grind (arith, no_form, other_kind, is_no_place, not_accessed)

-- an access is of the form that its two letters tell
pub accesses_are : (s k : ℕ) (ws : List Text) → event_of ((s ∷ k ∷ []) ∷ ws) ≡ accessed s k ws
accesses_are s k ws = by_kind s k ws (k == 114) (k == 119) refl refl
