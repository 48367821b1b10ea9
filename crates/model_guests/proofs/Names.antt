-- What a lawful name is not: no name of another, no comment, and without colon or line feed.
use Rattle.std.{proofs.{Common.{◌≡◌, ℕ, Bool, true, false, not, List, [], ◌∷◌, ◌++◌, refl, arith, eqb}, lemmas.{Bool.{eqb-true, and_from, not-true, Decides.nat_tests}, Slice.Eq.bytes_eq-Decides}}, specs.{Prelude.{codes, IsTrue}, List.{list_all, starts_with}, Str.bytes_eq}}
use Rattle.lists.{specs.Elements.Each, proofs.Tests.{left_true, right_true}}
use Rattle.model_guests.specs.{Text.Text, Grammar.{is_comment, has_name}, World.{is_name, is_name_byte}}

-- the text is without this byte
abbrev pub lacks : ℕ → Text → Bool
lacks b text = list_all (λ c. not (eqb c b)) text

-- ---- names are made of letters and digits

bytes_lack : (b : ℕ) (cs : Text) → is_name_byte b ≡ false → list_all is_name_byte cs ≡ true → lacks b cs ≡ true
bytes_lack b [] h k = refl
bytes_lack b (c ∷ cs) h k = grind (arith, bytes_lack b cs h, and_from, eqb-true, left_true, right_true)

pub record NameFacts (n : Text) : Type 0 where
  pub no_colon : lacks 58 n ≡ true
  pub one_line : lacks 10 n ≡ true
  pub not_host : bytes_eq n (codes "host") ≡ false
  pub not_nobody : bytes_eq n (codes "?") ≡ false
  pub not_comment : is_comment n ≡ false

pub name_facts : (n : Text) → is_name n ≡ true → NameFacts n
name_facts n h = grind (arith, left_true, and_from, right_true, eqb-true, bytes_lack, not-true)

pub equal_texts : (a b : Text) → bytes_eq a b ≡ true → a ≡ b
equal_texts a b h = (bytes_eq-Decides a b).0 h

pub same_text : (a : Text) → bytes_eq a a ≡ true
same_text a = (bytes_eq-Decides a a).1 refl

-- a name that stands among lawful ones is lawful
pub named_facts : (ns : List Text) (n : Text) → Each (λ m. IsTrue (is_name m)) ns → has_name ns n ≡ true → NameFacts n
named_facts [] n all h = cc
named_facts (m ∷ ns) n all h = grind (arith, named_facts ns n all.1, equal_texts m n, name_facts m all.0)

-- ---- lines that begin with a name

-- a line begins with a name, a colon and a space where its own name is that name
pub begins : (x y r : Text) → lacks 58 x ≡ true → lacks 58 y ≡ true → starts_with eqb ((x ++ codes ": ") ++ r) (y ++ codes ": ") ≡ bytes_eq y x
begins [] [] r h k = refl
begins [] (c ∷ cs) r h k = grind (arith, not-true, left_true)
begins (d ∷ ds) [] r h k = grind (arith, not-true, left_true, nat_tests)
begins (d ∷ ds) (c ∷ cs) r h k = grind (arith, begins ds cs r, right_true)
