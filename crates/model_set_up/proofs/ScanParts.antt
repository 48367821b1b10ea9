-- Parts of a bus in path order: which paths come before the first, the last and the next part.
use Rattle.std.{proofs.{Common.{◌≡◌, ℕ, ◌+◌, ◌*◌, ◌/◌, ◌%◌, ◌≤◌, ◌<◌, ◌⊎◌, inl, inr, Bool, true, false, not, ◌&&◌, ◌||◌, cond, [], ◌∷◌, ◌++◌, refl, sym, ap, ◌∙◌, subst, arith, eqb, rules}, lemmas.Bool.{Decides.nat_tests, ltb-true}}, specs.Prelude.{nat_lt, nat_le}}
use Rattle.lists.{specs.Elements.{Each, IsIn}, proofs.{Tests.{left_true, right_true}, Members.{each_in, any_in}}}
use Rattle.model_board.{specs.{Paths.{Part, Path, part_eq, part_before, path_eq, path_before, is_ancestor_of, last_part, function_zero, devfn_count, IsPart, IsPath}, Board.{Board, Row, stands_at, is_multifunction, IsBoard}}, proofs.{PathOrder.{part_same, part_eq-sym}, PathEnds.{path_self, parent_snoc, last_snoc, path_eq-snoc, snoc_some}}}
use Rattle.model_set_up.{specs.ScanOrder.{nth_part, on, next_devfn_to_probe}, proofs.Partings.{bridge_above, leads_down}}

-- ---- the first part behind a function

no_part_before : (u : Part) → part_before u (nth_part 0) ≡ false
no_part_before u = grind (arith, nat_tests)

-- a, then b or c
either : (u v a b c : Bool) → a ≡ (b || c) → (u || (v && a)) ≡ ((u || (v && b)) || (v && c))
either u v a b c e = grind arith

pub before_first : (x p : Path) → path_before x (on p 0) ≡ (path_before x p || path_eq x p)
before_first [] a = grind arith
before_first (u ∷ x) [] = nothing (part_before u (nth_part 0)) (part_eq u (nth_part 0)) (path_before x []) (no_part_before u) (none x)
  where
    none : (x : Path) → path_before x [] ≡ false
    none [] = refl
    none (u ∷ x) = refl

    nothing : (c d e : Bool) → c ≡ false → e ≡ false → (c || (d && e)) ≡ false
    nothing c d e h k = grind arith
before_first (u ∷ x) (a ∷ p) = either (part_before u a) (part_eq u a) (path_before x (on p 0)) (path_before x p) (path_eq x p) (before_first x p)

pub leads_place : (x p : Path) (q : Part) → is_ancestor_of x (p ++ q ∷ []) ≡ (is_ancestor_of x p || path_eq x p)
leads_place [] a q = grind arith
leads_place (u ∷ x) [] q = nothing (part_eq u q) (is_ancestor_of x []) (none x)
  where
    none : (x : Path) → is_ancestor_of x [] ≡ false
    none [] = refl
    none (u ∷ x) = refl

    nothing : (d e : Bool) → e ≡ false → (d && e) ≡ false
    nothing d e h = grind arith
leads_place (u ∷ x) (a ∷ p) q = either false (part_eq u a) (is_ancestor_of x (p ++ q ∷ [])) (is_ancestor_of x p) (path_eq x p) (leads_place x p q)

-- ---- past the last part of a bus

pub before_last : (x p : Path) → Each IsPart x → path_before x (on p devfn_count) ≡ (path_before x p || path_eq x p || is_ancestor_of p x)
before_last [] a h = grind arith
before_last (u ∷ x) [] h = grind (arith, nat_tests)
before_last (u ∷ x) (a ∷ p) h = grind (arith, before_last x p, part_eq-sym)

-- ---- from one part of a bus to a later one

abbrev index : Part → ℕ
index u = 8 * u.device + u.function

-- the path is at or behind one of the parts m to n of the bus, n not included
abbrev pub is_between : Path → ℕ → ℕ → Path → Bool
is_between [] m n [] = false
is_between [] m n (u ∷ x) = nat_le m (index u) && nat_lt (index u) n
is_between (a ∷ p) m n [] = false
is_between (a ∷ p) m n (u ∷ x) = part_eq u a && is_between p m n x

before_by_index : (u : Part) (n : ℕ) → u.function < 8 → part_before u (nth_part n) ≡ nat_lt (index u) n
before_by_index u n h = search (rules, nat_tests, ltb-true)

between : (i m n : ℕ) → m ≤ n → nat_lt i n ≡ (nat_lt i m || (nat_le m i && nat_lt i n))
between i m n h = grind (arith, nat_tests)

pub before_later : (x p : Path) (m n : ℕ) → m ≤ n → Each IsPart x → path_before x (on p n) ≡ (path_before x (on p m) || is_between p m n x)
before_later [] [] m n h parts = refl
before_later [] (a ∷ p) m n h parts = refl
before_later (u ∷ x) [] m n h parts =
    at_end (part_before u (nth_part n)) (part_eq u (nth_part n)) x (before_by_index u n parts.0.function_fits)
    ∙ between (index u) m n h
    ∙ ap (λ t. t || (nat_le m (index u) && nat_lt (index u) n)) (sym (at_end (part_before u (nth_part m)) (part_eq u (nth_part m)) x (before_by_index u m parts.0.function_fits)))
  where
    at_end : {e : Bool} (c d : Bool) (x : Path) → c ≡ e → (c || (d && path_before x [])) ≡ e
    at_end true d x h = h
    at_end false true [] h = h
    at_end false true (u ∷ x) h = h
    at_end false false x h = h
before_later (u ∷ x) (a ∷ p) m n h parts = either (part_before u a) (part_eq u a) (path_before x (on p n)) (path_before x (on p m)) (is_between p m n x) (before_later x p m n h parts.1)

-- ---- the functions of a board

split_within : (p : Path) (m n : ℕ) (x : Path) → is_between p m n x ≡ true → (u : Part) × (rest : Path) × (x ≡ p ++ u ∷ rest) × (m ≤ index u) × (index u < n)
split_within [] m n u h = grind (arith, left_true, ltb-true, right_true, nat_tests)
split_within (a ∷ p) m n [] h = cc
split_within (a ∷ p) m n (u ∷ x) h = search (rules, part_same, left_true, right_true, split_within p m n x (right_true (part_eq u a) (is_between p m n x) h))

part_in : (p : Path) (u : Part) (rest : Path) → Each IsPart (p ++ u ∷ rest) → IsPart u
part_in [] u rest h = h.0
part_in (a ∷ p) u rest h = part_in p u rest h.1

pub zero_snoc : (p : Path) (u : Part) → function_zero (p ++ u ∷ []) ≡ p ++ record u { function = 0 } ∷ []
zero_snoc [] u = refl
zero_snoc (a ∷ []) u = refl
zero_snoc (a ∷ c ∷ p) u = ap (λ (x : Path). a ∷ x) (zero_snoc (c ∷ p) u)

same_part : (u v : Part) → u.device ≡ v.device → u.function ≡ v.function → u ≡ v
same_part u v p q = λ i. record { device = p i; function = q i }

abbrev device : Path → ℕ
device x = (last_part x).device

module _ (b : Board) (lawful : IsBoard b) where
  pub row_path : (r : Row) → IsIn r b → IsPath r.path
  row_path r m = each_in (λ (s : Row). IsPath s.path) r b lawful.paths m

  -- what stands at or behind a part has a function at that part
  stands_there : (r : Row) → IsIn r b → (p : Path) (u : Part) (rest : Path) → r.path ≡ p ++ u ∷ rest → (s : Row) × IsIn s b × (s.path ≡ p ++ u ∷ [])
  stands_there r m p u [] e = (r, m, e)
  stands_there r m p u (q ∷ rest) e = grind (arith, bridge_above b lawful r (p ++ u ∷ []) m, leads_down p u q rest, snoc_some p u)

  abbrev AtOrBehind : Row → Path → Type 0
  AtOrBehind r p = (path_eq r.path p ≡ true) ⊎ (is_ancestor_of p r.path ≡ true)

  at_or_behind : (r : Row) (p : Path) (u : Part) (rest : Path) → r.path ≡ p ++ u ∷ rest → AtOrBehind r (p ++ u ∷ [])
  at_or_behind r p u [] e = inl (ap (λ (x : Path). path_eq x (p ++ u ∷ [])) e ∙ path_self (p ++ u ∷ []))
  at_or_behind r p u (q ∷ rest) e = inr (subst (λ (x : Path). is_ancestor_of (p ++ u ∷ []) x ≡ true) (sym e) (leads_down p u q rest))

  -- a device in which a further function stands has function 0, which says so
  is_multifunction_here : (p : Path) (n : ℕ) → n % 8 ≡ 0 → (u : Part) → u.device ≡ n / 8 → 0 < u.function → (s : Row) → IsIn s b → s.path ≡ p ++ u ∷ [] → (stands_at b (on p n) && is_multifunction b (on p n)) ≡ true
  is_multifunction_here p n first u dev fn s m e = search (rules, zero_snoc, same_part, each_in, parent_snoc, path_self, nat_tests, last_snoc, path_eq-snoc, any_in)

  -- no function is passed over on the way to the next part
  pub none_passed : (p : Path) (n : ℕ) (r : Row) → IsIn r b → is_between p n (next_devfn_to_probe b p n) r.path ≡ true → AtOrBehind r (on p n)
  none_passed p n r m h = by_test (eqb (n % 8) 0 && not (stands_at b (on p n) && is_multifunction b (on p n))) refl h
    where
      at_place : (u : Part) (rest : Path) → r.path ≡ p ++ u ∷ rest → u.device ≡ n / 8 → u.function ≡ n % 8 → AtOrBehind r (on p n)
      at_place u rest e dev fn = subst (λ (v : Part). AtOrBehind r (p ++ v ∷ [])) (same_part u (nth_part n) dev fn) (at_or_behind r p u rest e)

      part_of : (u : Part) (rest : Path) → r.path ≡ p ++ u ∷ rest → IsPart u
      part_of u rest e = part_in p u rest (subst (λ (x : Path). Each IsPart x) e (row_path r m).parts)

      by_function : (u : Part) (rest : Path) → r.path ≡ p ++ u ∷ rest → n % 8 ≡ 0 → u.device ≡ n / 8 → (t : Bool) → nat_lt 0 u.function ≡ t → not (stands_at b (on p n) && is_multifunction b (on p n)) ≡ true → AtOrBehind r (on p n)
      by_function u rest e first dev t f alone = grind (arith, stands_there, is_multifunction_here, ltb-true, at_place, nat_tests)

      eq_of : (k l : ℕ) → eqb k l ≡ true → k ≡ l
      eq_of k l h = grind (arith, nat_tests)

      by_test : (t : Bool) → (eqb (n % 8) 0 && not (stands_at b (on p n) && is_multifunction b (on p n))) ≡ t → is_between p n (cond t (n + 8) (n + 1)) r.path ≡ true → AtOrBehind r (on p n)
      by_test true e k =
          let s = split_within p n (n + 8) r.path k in
          let first : n % 8 ≡ 0 = eq_of (n % 8) 0 (left_true (eqb (n % 8) 0) (not (stands_at b (on p n) && is_multifunction b (on p n))) e) in
          let dev : s.0.device ≡ n / 8 = omega (arith, s.3, s.4, (part_of s.0 s.1 s.2).function_fits) in
          by_function s.0 s.1 s.2 first dev (nat_lt 0 s.0.function) refl (right_true (eqb (n % 8) 0) (not (stands_at b (on p n) && is_multifunction b (on p n))) e)
      by_test false e k = grind (arith, split_within, part_of, at_place)
