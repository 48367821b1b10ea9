-- What is told of regions that are held is what is told of the address.
use Rattle.std.{proofs.{Common.{◌≡◌, ℕ, ◌==◌, Bool, true, false, ◌&&◌, not, cond, inl, List, [], ◌∷◌, ◌++◌, Option, Some, None, refl, ap, subst, ◌∙◌, append-nil, arith}, lemmas.List.{map-append, reverse-append, Folds.fold-map}}, specs.Prelude.{map, filter, count_by, flat_map, reverse}}
use Rattle.lists.{specs.Elements.IsIn, proofs.Members.{from_flat_map, from_option}}
use Rattle.model_registers.specs.{EndpointTable.BaseAddress, Decoding.{Space, command_word, base_address, opens_space}}
use Rattle.model_board.specs.{Board.{Decl, endpoint, bridge}, Paths.Path, Claims.{Claim, first_claim}, State.BoardFunction, Routing.{ranges_of, row_of, routing}}
use Rattle.model_set_up.specs.PlacedRegions.{PlacedRegion, holds}
use Rattle.model_findings.specs.OpenRegions.{region_now, regions_of}
use Rattle.model_lines.{specs.Why.{BlockReason, Cause, closed_by, stopped_at, blockers, is_answering_bar, causes_of, UnansweredRegion, told_of, is_closed, is_as_at_reset, apart, at_reset, Forwarder, forwarders, told, why}, proofs.Why.from_reverse}
use Rattle.findings.specs.{WhyByRows.{is_held, held_in, held_of, silent_holders, told_from, is_held_as_at_reset, held_apart}, declared.holding.RegionWithCommand.RegionWithCommand}

filter_both : {A : Type 0} (s t : A → Bool) (xs : List A) → filter (λ x. s x && t x) xs ≡ filter t (filter s xs)
filter_both s t [] = refl
filter_both s t (x ∷ xs) = grind (arith, filter_both s t xs)

not_stopped : (t : Bool) (p : Path) (w : ℕ) (h : BlockReason) → cond t (Some (stopped_at p h)) None ≡ Some (closed_by w) → ⊥
not_stopped t p w h e = grind arith

unless_true : (b : Bool) → (b ≡ true → ⊥) → b ≡ false
unless_true true never = absurd (never refl)
unless_true false never = refl

closed_in : (cs : List Cause) → is_closed cs ≡ true → (w : ℕ) × IsIn (closed_by w) cs
closed_in [] e = grind arith
closed_in (closed_by w ∷ cs) e = (w, inl refl)
closed_in (stopped_at p h ∷ cs) e = grind arith

module _ (fs : List BoardFunction) (space : Space) (n : ℕ) where
  abbrev tell : BoardFunction → PlacedRegion → UnansweredRegion
  tell f q = record { region = q; causes = causes_of fs space n f }

  -- a region has its function's path
  with_path : (f : BoardFunction) (t : PlacedRegion → Bool) (bs : List BaseAddress)
      → map (told_from fs space n) (map (λ q. record { region = q; command = command_word f.file }) (filter t (map (region_now f.path) bs)))
      ≡ map (tell f) (filter t (map (region_now f.path) bs))
  with_path f t [] = refl
  with_path f t (b ∷ bs) = grind (arith, with_path f t bs)

  function_told : (f : BoardFunction) → map (told_from fs space n) (held_of space n (first_claim fs space n) (row_of f)) ≡ told_of fs space n f
  function_told f = by f.decl
    where
      by : (d : Decl) → map (told_from fs space n) (held_in space n (first_claim fs space n) (command_word f.file) (regions_of (record { path = f.path; command = command_word f.file; ranges = ranges_of f.file d })))
          ≡ map (tell f) (filter (λ q. not (is_answering_bar (first_claim fs space n) q)) (filter (holds space n) (regions_of (record { path = f.path; command = command_word f.file; ranges = ranges_of f.file d }))))
      by (bridge d) = refl
      by (endpoint d) =
          with_path f (is_held space n (first_claim fs space n)) (map (base_address f.file) d.regions)
          ∙ ap (map (tell f)) (filter_both (holds space n) (λ q. not (is_answering_bar (first_claim fs space n) q)) (map (region_now f.path) (map (base_address f.file) d.regions)))

  causes_unless_at_reset : (gs : List BoardFunction) → map (told_from fs space n) (silent_holders space n (first_claim fs space n) (routing gs)) ≡ flat_map (told_of fs space n) gs
  causes_unless_at_reset [] = refl
  causes_unless_at_reset (f ∷ gs) = grind (arith, map-append, function_told, causes_unless_at_reset gs)

  -- ---- regions where reset leaves them

  -- a bridge above is no Command of the region's function
  none_closed : (p : Path) (w : ℕ) → IsIn (closed_by w) (blockers fs space n p) → ⊥
  none_closed p w m = grind (arith, from_flat_map, not_stopped, from_option)

  by_command : (p : Path) (command : ℕ) (u : Bool) → is_closed (reverse (blockers fs space n p ++ cond u [] (closed_by command ∷ []))) ≡ not u
  by_command p command false = ap is_closed (reverse-append (blockers fs space n p) (closed_by command ∷ []))
  by_command p command true =
      unless_true (is_closed (reverse (blockers fs space n p ++ []))) (λ e.
      let c = closed_in (reverse (blockers fs space n p ++ [])) e in
      none_closed p c.0 (subst (IsIn (closed_by c.0)) (append-nil (blockers fs space n p)) (from_reverse (closed_by c.0) (blockers fs space n p ++ []) c.1)))

  as_at_reset : (h : RegionWithCommand) → is_as_at_reset (told_from fs space n h) ≡ is_held_as_at_reset space h
  as_at_reset h = ap (λ t. h.region.first == 0 && t) (by_command h.region.path h.command (opens_space h.command space))

  told_apart : (hs : List RegionWithCommand) → map (told_from fs space n) (held_apart space hs) ≡ apart (map (told_from fs space n) hs)
  told_apart [] = refl
  told_apart (h ∷ hs) = grind (arith, as_at_reset, told_apart hs)

  count_as_at_reset : (hs : List RegionWithCommand) → count_by (is_held_as_at_reset space) hs ≡ at_reset (map (told_from fs space n) hs)
  count_as_at_reset hs = grind (arith, as_at_reset, fold-map)

  -- what is told by rows is what is told of the address
  pub why_by_rows : (answer : Option Claim) (hs : List RegionWithCommand) (gs : List Forwarder) (ts : List UnansweredRegion) (k : ℕ)
      → answer ≡ first_claim fs space n → hs ≡ silent_holders space n answer (routing fs) → gs ≡ forwarders fs space n
      → ts ≡ map (told_from fs space n) (held_apart space hs) → k ≡ count_by (is_held_as_at_reset space) hs
      → record { answer = answer; forwarders = gs; told = ts; at_reset = k } ≡ why fs space n
  why_by_rows answer hs gs ts k claimed held forwarded tells left = grind (arith, causes_unless_at_reset, told_apart, count_as_at_reset)
