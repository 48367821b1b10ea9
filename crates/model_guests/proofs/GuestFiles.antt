-- Slots, paths and names, one by one: which are the same, and what is in a slot after a change.
use Rattle.std.{proofs.Common.{arith, ◌≡◌, ℕ, zero, suc, false, List, [], ◌∷◌, Some, Option, refl, ap}, specs.{Prelude.{map, find, flat_map, slice_get, slice_set, IsFalse}, Option.option_map_or, Str.bytes_eq}}
use Rattle.lists.{specs.Elements.{Each, EachPair}, proofs.{Indices.each_at, EachLemmas.each_parts}}
use Rattle.model_registers.specs.{Registers.File, Decoding.Function}
use Rattle.model_board.specs.Paths.{Path, path_eq}
use Rattle.model_guests.{specs.{Slots.{Slots, slot_at, with_file}, Text.Text, World.Guest}, proofs.Names.{equal_texts, same_text}}

pub slot_set : (slots : Slots) (n : ℕ) (f g : Function) → slot_at slots n ≡ Some f → slot_at (slice_set slots n (Some g)) n ≡ Some g
slot_set [] n f g there = cc
slot_set (s ∷ ss) zero f g there = refl
slot_set (s ∷ ss) (suc n) f g there = slot_set ss n f g there

pub with_file_there : (change : File → File) (n : ℕ) (slots : Slots) (f : Function) → slot_at slots n ≡ Some f → with_file change n slots ≡ slice_set slots n (Some (record f { file = change f.file }))
with_file_there change n slots f there = ap (λ (o : Option Function). option_map_or (λ (g : Function). slice_set slots n (Some (record g { file = change g.file }))) o slots) there

abbrev pub slots_among : List Guest → Text → List Path
slots_among gs name = option_map_or (λ (g : Guest). g.slots) (find (λ g. bytes_eq g.name name) gs) []

abbrev pub NamesApart : List Guest → Type 0
NamesApart gs = EachPair (λ m n. IsFalse (bytes_eq m n)) (map (λ (g : Guest). g.name) gs)

abbrev pub PathsApart : List Guest → Type 0
PathsApart gs = EachPair (λ p q. IsFalse (path_eq p q)) (flat_map (λ (g : Guest). g.slots) gs)

pub other_name : (a b : Text) → bytes_eq a b ≡ false → bytes_eq b a ≡ false
other_name a b h = grind (arith, equal_texts b a, same_text a)

-- what holds of every slot's path holds of a path in a slot
pub of_slot : (P : Path → Type 0) (gs : List Guest) (name : Text) (n : ℕ) (p : Path) → Each P (flat_map (λ (g : Guest). g.slots) gs) → slice_get (slots_among gs name) n ≡ Some p → P p
of_slot P [] name n p all at = cc
of_slot P (g ∷ gs) name n p all at = grind (arith, of_slot P gs name n p, each_parts P g.slots, each_at P g.slots n p)
