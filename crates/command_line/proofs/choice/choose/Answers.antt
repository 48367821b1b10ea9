use Rattle.std.proofs.Common.{◌≡◌, ℕ, List, true, map, Bor, ap, subst, refl, [], ◌∙◌}
use Rattle.clap.{specs.{Simple.{App, is_simple, subcommand_of, subcommand_rows_of}, Matches.found_of, Takes.takes, Faults.{fault_of, is_simple_and_free}}, proofs.OnLiterals.clap_on_literals}
use Rattle.command_line.{specs.Words.pciguest_app, proofs.Values.{asked, asked_alike, no_other, simple}}
use Rattle.command_line.proofs.choice.choose.Goals as goal
use Rattle.command_line.proofs.choice.choose.Goals.{In-Ok-try_get_matches_from}

is_one : is_simple pciguest_app ≡ true
unfolding clap_on_literals
is_one = refl

-- the subcommand, as a parse read it
read : (c : In-Ok-try_get_matches_from) → subcommand_rows_of c.in-Ok-try_get_matches_from.matches ≡ subcommand_of pciguest_app (map (λ (w : Bor (List ℕ)). w.now) c.args.words.now)
read c = (c.in-Ok-try_get_matches_from.ensures.matches (ap is_simple c.in-Ok.ensures ∙ is_one)).1 ∙ ap (λ a. subcommand_of a (map (λ (w : Bor (List ℕ)). w.now) c.args.words.now)) c.in-Ok.ensures

pub returns-in-Some-choice_by_name-clause-asked : goal.returns-in-Some-choice_by_name-clause-asked
returns-in-Some-choice_by_name-clause-asked c =
    let rows = read (goal.at.returns-in-Some-choice_by_name-clause-asked c).In-Ok-try_get_matches_from in
    let both = asked c.in-Ok-try_get_matches_from.matches (map (λ (w : Bor (List ℕ)). w.now) c.args.words.now) c.in-Some.name.now (found_of c.in-Some.given.now) rows c.in-Some.ensures.name c.in-Some.ensures.rows in
    asked_alike both.0 both.1 c.args.is_terminal c.in-Some-choice_by_name.choice c.in-Some-choice_by_name.ensures.asked

pub returns-in-Some-choice_by_name-clause-only_taken : goal.returns-in-Some-choice_by_name-clause-only_taken
returns-in-Some-choice_by_name-clause-only_taken c work =
    subst (λ (a : App). fault_of a (map (λ w. w.now) c.args.words.now) ≡ []) c.in-Ok.ensures
    (c.in-Ok-try_get_matches_from.ensures.kinds (ap is_simple_and_free c.in-Ok.ensures ∙ simple))

pub returns-in-Ok-try_get_matches_from-clause-taken : goal.returns-in-Ok-try_get_matches_from-clause-taken
returns-in-Ok-try_get_matches_from-clause-taken c h =
    let rows = read (goal.at.returns-in-Ok-try_get_matches_from-clause-taken c).In-Ok-try_get_matches_from in
    absurd (no_other c.in-Ok-try_get_matches_from.matches (map (λ (w : Bor (List ℕ)). w.now) c.args.words.now) c.in-Some.name.now rows c.in-Some.ensures.name c.in-None.ensures.none)

pub returns-clause-taken : goal.returns-clause-taken
returns-clause-taken c h =
    rw (c.help_or_fault_on_error.ensures.memory (c.in-Err.ensures.passes (ap (λ (a : App). takes a (map (λ w. w.now) c.args.words.now)) c.in-Ok.ensures ∙ h))) refl
