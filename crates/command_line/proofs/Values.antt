-- The first value of an argument, by the rows of a parse.
use Rattle.std.{proofs.Common.{◌≡◌, ◌⊎◌, inl, inr, ℕ, Bool, true, false, cond, List, [], ◌∷◌, Option, Some, None, map, refl, sym, ap, ◌∙◌, arith}, specs.{Prelude.{option_map, option_and_then, find, slice_get, unwrap_or, codes, Box}, Box.box_value, Borrow.Bor, Str.bytes_eq}}
use Rattle.clap.{specs.{declared.parser.matches.{MatchedArg.MatchedArg, Found.Found, ArgMatches.{ArgMatches, TheViews.{out-ArgMatches, out-SubCommand}}, SubCommand.SubCommand}, Walk.{Row, rows_of, row_of, stop_after}, Matches.{first_value, subcommand_name_of}, Simple.{Shape, argument_words, built, entered, names_of, rows_at, subcommand_rows, subcommand_rows_of, subcommand_of}, Faults.is_simple_and_free}, proofs.OnLiterals.clap_on_literals}
use Rattle.command_line.specs.{Words.{pciguest_app, subcommand, value, value_in}, Choices.{is_json, is_all, is_strict, is_flag_set, board_in, IsAskedBy, IsNoCommand}, declared.choice.Choice.{Choice, TheVariants.{Help, Demo, List as Lists, Check, Run, Firmware, Report}}}
use Rattle.model_lines.specs.Reports.{report_named, of_problems, of_readiness}
use Rattle.model_lines.specs.Reports as model

-- the command line is one of which all is known that a parse may answer
pub simple : is_simple_and_free pciguest_app ≡ true
unfolding clap_on_literals
simple = refl

abbrev Entry : Type 0
Entry = Bor (List ℕ) × MatchedArg

first_text : (vals : List (Bor (List ℕ))) → option_map (λ (s : Bor (List ℕ)). s.now) (slice_get vals 0) ≡ slice_get (map (λ (s : Bor (List ℕ)). s.now) vals) 0
first_text [] = refl
first_text (v ∷ vals) = refl

by_entries : (id : List ℕ) (es : List Entry)
    → option_and_then (λ (a : MatchedArg). option_map (λ s. s.now) (slice_get a.vals.items 0)) (option_map (λ (e : Entry). e.1) (find (λ (e : Entry). bytes_eq e.0.now id) es)) ≡ value_in (map row_of es) id
by_entries id [] = refl
by_entries id (e ∷ es) = grind (arith, first_text, by_entries id es)

-- `get_str`, by the rows
pub first_value_is : (f : Found) (id : List ℕ) → first_value f id ≡ value_in (rows_of f) id
first_value_is f id = by_entries id f.entries.items

-- ---- the subcommand of a parse

named_by_rows : {Z : Type 0} (x : Option (Box SubCommand Z)) → option_map (λ b. (out-SubCommand (box_value b)).name.now) x ≡ option_map (λ (p : List ℕ × List Row). p.0) (subcommand_rows x)
named_by_rows None = refl
named_by_rows (Some b) = refl

by_subcommand : (s : Option (List ℕ × List Row)) (name : List ℕ) (rows : List Row)
    → Some name ≡ option_map (λ (p : List ℕ × List Row). p.0) s → Some rows ≡ option_map (λ (p : List ℕ × List Row). p.1) s
    → (option_map (λ (p : List ℕ × List Row). p.0) s ≡ Some name) × ((id : List ℕ) → option_and_then (λ (p : List ℕ × List Row). value_in p.1 id) s ≡ value_in rows id)
by_subcommand None name rows n r = absurd (let wrong : Some name ≡ None = n in cc)
by_subcommand (Some p) name rows n r = (sym n, let same : rows ≡ p.1 = cc in λ id. ap (λ (rs : List Row). value_in rs id) (sym same))

-- what a parse found of a subcommand is what the words say
pub asked : (m : ArgMatches) (words : List (List ℕ)) (name : List ℕ) (f : Found) → subcommand_rows_of m ≡ subcommand_of pciguest_app words
    → Some name ≡ subcommand_name_of m → Some (rows_of f) ≡ option_map (λ p. p.1) (subcommand_rows_of m)
    → (subcommand words ≡ Some name) × ((id : List ℕ) → value words id ≡ first_value f id)
asked m words name f e n r = grind (arith, by_subcommand, named_by_rows, first_value_is)

-- ---- the names of subcommands

one_of : (d l k r f a e : Shape) (t u x v y z w : Bool) (ws : List (List ℕ)) (n : List ℕ)
    → Some n ≡ option_map (λ (q : List ℕ × List Row). q.0) (option_map (λ (s : Shape). rows_at s ws) (cond t (Some d) (cond u (Some l) (cond x (Some k) (cond v (Some r) (cond y (Some f) (cond z (Some a) (cond w (Some e) None))))))))
    → (n ≡ d.name) ⊎ ((n ≡ l.name) ⊎ ((n ≡ k.name) ⊎ ((n ≡ r.name) ⊎ ((n ≡ f.name) ⊎ ((n ≡ a.name) ⊎ (n ≡ e.name))))))
one_of d l k r f a e true u x v y z w ws n h = inl (let same : n ≡ d.name = cc in same)
one_of d l k r f a e false true x v y z w ws n h = inr (inl (let same : n ≡ l.name = cc in same))
one_of d l k r f a e false false true v y z w ws n h = inr (inr (inl (let same : n ≡ k.name = cc in same)))
one_of d l k r f a e false false false true y z w ws n h = inr (inr (inr (inl (let same : n ≡ r.name = cc in same))))
one_of d l k r f a e false false false false true z w ws n h = inr (inr (inr (inr (inl (let same : n ≡ f.name = cc in same)))))
one_of d l k r f a e false false false false false true w ws n h = inr (inr (inr (inr (inr (inl (let same : n ≡ a.name = cc in same))))))
one_of d l k r f a e false false false false false false true ws n h = inr (inr (inr (inr (inr (inr (let same : n ≡ e.name = cc in same))))))
one_of d l k r f a e false false false false false false false ws n h = absurd (let wrong : Some n ≡ None = h in cc)

abbrev IsKnown : List ℕ → Type 0
IsKnown n = (n ≡ codes "demo") ⊎ ((n ≡ codes "list") ⊎ ((n ≡ codes "check") ⊎ ((n ≡ codes "run") ⊎ ((n ≡ codes "firmware") ⊎ ((n ≡ codes "audit") ⊎ (n ≡ codes "ready"))))))

stop_name : (stop : Option (List ℕ × List (List ℕ))) (n : List ℕ)
    → Some n ≡ option_map (λ (q : List ℕ × List Row). q.0) (entered (built pciguest_app) stop) → IsKnown n
unfolding clap_on_literals
stop_name None n h = absurd (let wrong : Some n ≡ None = h in cc)
stop_name (Some p) n h = one_of _ _ _ _ _ _ _ _ _ _ _ _ _ _ p.1 n h

-- of the subcommand that a parse met
pub no_other : (m : ArgMatches) (words : List (List ℕ)) (n : List ℕ) → subcommand_rows_of m ≡ subcommand_of pciguest_app words
    → Some n ≡ subcommand_name_of m → IsNoCommand n → ⊥
no_other m words n read known none =
    by_name (stop_name (stop_after (built pciguest_app).top.rules (names_of (built pciguest_app)) (argument_words pciguest_app words)) n (known ∙ named_by_rows (out-ArgMatches m).subcommand ∙ ap (option_map (λ (p : List ℕ × List Row). p.0)) read))
  where
    named : (r : model.Report) → report_named n ≡ Some r → ⊥
    named r is = absurd (let wrong : Some r ≡ None = sym is ∙ none.report in cc)

    by_name : IsKnown n → ⊥
    by_name (inl is) = none.demo is
    by_name (inr (inl is)) = none.list is
    by_name (inr (inr (inl is))) = none.check is
    by_name (inr (inr (inr (inl is)))) = none.run is
    by_name (inr (inr (inr (inr (inl is))))) = none.firmware is
    by_name (inr (inr (inr (inr (inr (inl is)))))) = named of_problems (ap report_named is)
    by_name (inr (inr (inr (inr (inr (inr is)))))) = named of_readiness (ap report_named is)

-- ---- what the same values ask for

board_alike : {v w : List ℕ → Option (List ℕ)} → ((id : List ℕ) → w id ≡ v id) → board_in w ≡ board_in v
board_alike alike = ap (λ o. unwrap_or o []) (alike (codes "board"))

json_alike : {v w : List ℕ → Option (List ℕ)} → ((id : List ℕ) → w id ≡ v id) → is_json w ≡ is_json v
json_alike alike = ap is_flag_set (alike (codes "json"))

all_alike : {v w : List ℕ → Option (List ℕ)} → ((id : List ℕ) → w id ≡ v id) → is_all w ≡ is_all v
all_alike alike = ap is_flag_set (alike (codes "all"))

strict_alike : {v w : List ℕ → Option (List ℕ)} → ((id : List ℕ) → w id ≡ v id) → is_strict w ≡ is_strict v
strict_alike alike = ap is_flag_set (alike (codes "strict"))

pub asked_alike : {name : List ℕ} {o : Option (List ℕ)} {v w : List ℕ → Option (List ℕ)} → o ≡ Some name
    → ((id : List ℕ) → w id ≡ v id) → (terminal : Bool) (c : Choice) → IsAskedBy (Some name) v terminal c
    → IsAskedBy o w terminal c
asked_alike same alike terminal (Help text) said = said
asked_alike same alike terminal Demo said = same ∙ said
asked_alike same alike terminal (Lists path json) said = (same ∙ said.0, said.1 ∙ sym (board_alike alike), said.2 ∙ sym (json_alike alike))
asked_alike same alike terminal (Check path all plain) said = grind (arith, board_alike, all_alike)
asked_alike same alike terminal (Run path strict) said = (same ∙ said.0, said.1 ∙ sym (board_alike alike), said.2 ∙ sym (strict_alike alike))
asked_alike same alike terminal (Firmware path strict) said = (same ∙ said.0, said.1 ∙ sym (board_alike alike), said.2 ∙ sym (strict_alike alike))
asked_alike same alike terminal (Report report path json strict) said = grind (arith, board_alike, json_alike, strict_alike)
