-- The lines of problems and lacks with the last line.
use Rattle.std.proofs.{Common.{◌≡◌, ◌++◌, List, ℕ, map, length, append_assoc, append-nil, arith}, lemmas.List.length-map}
use Rattle.model_guests.{specs.Text.{Text, ended}, proofs.WrittenLines.text_of_lines-append}
use Rattle.model_findings.specs.AuditText.{audit_line, total_text, audit_text}
use Rattle.findings.specs.{Findings.problem_of, declared.problem.Problem.Problem}
use Rattle.findings_render.specs.Lines.{problem_lines}

pub right_to_left : (a b c d e : Text) → a ++ (b ++ (c ++ (d ++ e))) ≡ a ++ b ++ c ++ d ++ e
right_to_left a b c d e = simp append_assoc

pub six_right_to_left : (a b c d e f : Text) → a ++ (b ++ (c ++ (d ++ (e ++ f)))) ≡ a ++ b ++ c ++ d ++ e ++ f
six_right_to_left a b c d e f = simp append_assoc

pub all_right_to_left : (a b c d e f g : Text) → a ++ (b ++ (c ++ (d ++ (e ++ (f ++ g))))) ≡ a ++ b ++ c ++ d ++ e ++ f ++ g
all_right_to_left a b c d e f g = simp append_assoc

abbrev last : ℕ → Text
last n = audit_line (total_text n)

-- the lines of problems with the last line
pub whole_text : (ps : List Problem) (start text : Text) (n : ℕ) → start ≡ problem_lines ps → n ≡ length ps
    → text ≡ start ++ ended (last n) → text ≡ audit_text (map problem_of ps)
whole_text ps start text n s count e = grind (arith, length-map, append-nil, text_of_lines-append)
