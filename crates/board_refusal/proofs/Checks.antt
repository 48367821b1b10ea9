-- The problems of the checks that are left, after those of some checks.
use Rattle.std.proofs.{Common.{◌≡◌, ℕ, ◌+◌, ◌<◌, List, [], ◌++◌, length, get_or, drop, refl, ap, sym, subst, ◌∙◌, append-nil, append_assoc}, lemmas.List.drop_more}
use Rattle.toml.specs.Data.{Members}
use Rattle.board_file.specs.declared.fault.BoardFault.{BoardFault}
use Rattle.board_refusal.specs.{declared.placed_breach.PlacedBreach.PlacedBreach, Telling.{AreOfCheck, AreOfChecks}}

module _ (text : List ℕ) (ms : Members) (checks : List BoardFault) where
  -- with all that the checks from the one with this index on find, these are all
  abbrev pub AreSoFar : ℕ → List PlacedBreach → Type 0
  AreSoFar i told = (rest : List PlacedBreach) → AreOfChecks text ms (drop i checks) rest → AreOfChecks text ms checks (told ++ rest)

  pub one_more : (i : ℕ) (d : BoardFault) (told more after : List PlacedBreach) → i < length checks → after ≡ told ++ more
      → AreOfCheck text ms (get_or checks i d) more → AreSoFar i told → AreSoFar (i + 1) after
  one_more i d told more after here is first before rest others =
      let left : AreOfChecks text ms (drop i checks) (more ++ rest) =
      rw (drop_more checks i d here) (record { front = more; back = rest; are_all = refl; first = first; rest = others }) in
      subst (AreOfChecks text ms checks) (sym (ap (λ (t : List PlacedBreach). t ++ rest) is ∙ append_assoc told more rest)) (before (more ++ rest) left)

  pub none_left : (i : ℕ) (told : List PlacedBreach) → drop i checks ≡ [] → AreSoFar i told → AreOfChecks text ms checks told
  none_left i told end before = subst (AreOfChecks text ms checks) (append-nil told) (before [] (rw end refl))
