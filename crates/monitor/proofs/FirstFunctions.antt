-- An endpoint as it stands in a guest's slot at first: at reset, where the host has it.
use Rattle.std.{proofs.Common.{◌≡◌, ◌≤◌, ◌+◌, ℕ, false, List, [], ◌∷◌, Option, Some, None, refl, sym, ap, ◌∙◌, subst, rules}, specs.{Prelude.{map, find, slice_get, ⊤, IsSome, MatchOption, option_and_then}, Option.option_map_or}}
use Rattle.lists.{specs.Elements.Each, proofs.{EachLemmas.each_map, Indices.map_at}}
use Rattle.model_registers.{specs.{Declarations.{Bar, Region, Endpoint, HasLawfulRegions}, DeclarationRules.IsLawfulEndpoint, EndpointTable.{BaseAddress, opened, closed, endpoint_reset}, OwnCopies.{OwnCopies, HoldsOwn, bare}, Registers.File, Decoding.{Function, base_address}}, proofs.BareRegions.bare_lawful}
use Rattle.model_board.specs.{Paths.Path, Board.endpoint, AtReset.board_at, Ports.file_at, State.{BoardFunction, State}}
use Rattle.model_findings.specs.Orderly.{IsStateOfBoard}
use Rattle.model_guests.{specs.{Slots.reset_function, World.declared}, proofs.{CopiesNeverRise.declared_lawful, DeclaredRows.declared_row}}
use Rattle.model_handoff.proofs.Standing.{at_path, stands}
use Rattle.bars.specs.{Resets.{reset_from, at_reset, with_no_base}, Slots.bases_from, declared.region.BarWithBase.BarWithBase}
use Rattle.bridge_forward.specs.BasesNow.{bases_of, bases_nth}
use Rattle.monitor.specs.{declared.guest.AssignedFunction.AssignedFunction, Keeping.{IsHeld, IsSlot}, Beginnings.{declared_in, IsStanding}}

-- ---- registers at reset

reset_bases : (file : File) (rs : List Region) → map with_no_base (map (base_address file) rs) ≡ map closed rs
reset_bases file [] = refl
reset_bases file (r ∷ rs) = ap (λ (bs : List BaseAddress). closed r ∷ bs) (reset_bases file rs)

opened_closed : (rs : List Region) → map opened (map closed rs) ≡ map bare rs
opened_closed [] = refl
opened_closed (r ∷ rs) = ap (λ (xs : List Region). bare r ∷ xs) (opened_closed rs)

declared_reset : (n : ℕ) (slots : List (Option BarWithBase)) → reset_from n (map declared_in slots) ≡ map with_no_base (bases_from n slots)
declared_reset n [] = refl
declared_reset n (None ∷ slots) = declared_reset (n + 1) slots
declared_reset n (Some r ∷ slots) = ap (λ (bs : List BaseAddress). record { index = n; kind = r.decl.kind; size = r.decl.size; base = 0 } ∷ bs) (declared_reset (n + 1) slots)

-- what is declared of registers that hold these bases
pub decls_reset : (bars : List (Option Bar)) (slots : List (Option BarWithBase)) (bs : List BaseAddress) → bars ≡ map declared_in slots → bases_from 0 slots ≡ bs
    → at_reset bars ≡ map with_no_base bs
decls_reset bars slots bs decls bases = ap at_reset decls ∙ declared_reset 0 slots ∙ ap (map with_no_base) bases

-- ---- an endpoint that stands there

module _ (s : State) (i : ℕ) (p : Path) (f : Function) (is : IsStanding s i p f) where
  bases_there : bases_nth s.functions i ≡ map (base_address (file_at s.functions p)) f.decl.regions
  bases_there = ap (λ (o : Option BoardFunction). option_map_or (λ (g : BoardFunction). bases_of g.decl g.file) o []) is.there

  closed_there : map with_no_base (bases_nth s.functions i) ≡ map closed f.decl.regions
  closed_there = ap (map with_no_base) bases_there ∙ reset_bases (file_at s.functions p) f.decl.regions

  pub lawful_there : HasLawfulRegions (map opened (map with_no_base (bases_nth s.functions i)))
  lawful_there = subst HasLawfulRegions (sym (ap (map opened) closed_there ∙ opened_closed f.decl.regions)) (bare_lawful f.decl.regions is.lawful.regions)

  module _ (bars : List (Option Bar)) (rest : at_reset bars ≡ map with_no_base (bases_nth s.functions i)) where
    pub held_at_first : (own : OwnCopies) → own ≡ record { command = 0; bases = at_reset bars }
        → ((e : Endpoint) → Each (λ b. 0x34 ≤ b.offset) e.blocks → map closed e.regions ≡ at_reset bars → HoldsOwn (endpoint_reset e false) own)
        → (placed : List (Option BarWithBase)) → bases_from 0 placed ≡ bases_nth s.functions i
        → IsHeld s p f (record { own = own; placed = placed; index = i })
    held_at_first own own_is reset placed bases = search (rules, bases_there, closed_there, each_map, map_at, opened_closed)

-- ---- the endpoint at a path

pub record Standing (s : State) (p : Path) : Type 0 where
  pub d : Endpoint
  pub declares : declared (board_at s.functions) p ≡ Some d
  pub lawful : IsLawfulEndpoint d
  pub found : find (at_path p) s.functions ≡ Some (record { path = p; decl = endpoint d; file = file_at s.functions p })

pub standing : (s : State) → IsStateOfBoard s.functions → (p : Path) → IsSome (declared (board_at s.functions) p) → Standing s p
standing s state p some = by_case (declared (board_at s.functions) p) refl some
  where
    by_case : (o : Option Endpoint) → declared (board_at s.functions) p ≡ o → IsSome o → Standing s p
    by_case None e some = cc
    by_case (Some d) e some = record {
      d = d;
      declares = e;
      lawful = subst (λ (o : Option Endpoint). MatchOption o ⊤ IsLawfulEndpoint) e (declared_lawful (board_at s.functions) state.declarations p);
      found = (stands s.functions state p d (declared_row (board_at s.functions) p d e)).found_is;
    }

none_some : (f : BoardFunction) → None ≡ Some f → ⊥
none_some f e = cc

abbrev pub function_of : Endpoint → Function
function_of d = record { decl = d; file = endpoint_reset d false }

module _ (s : State) (state : IsStateOfBoard s.functions) (p : Path) (some : IsSome (declared (board_at s.functions) p)) where
  pub stand : Standing s p
  stand = standing s state p some

  -- it has an index
  pub never_none : (o : Option ℕ) → option_and_then (slice_get s.functions) o ≡ find (at_path p) s.functions → o ≡ None → ⊥
  never_none None told e = let wrong : None ≡ Some (record { path = p; decl = endpoint stand.d; file = file_at s.functions p }) = told ∙ stand.found in none_some _ wrong
  never_none (Some i) told e = cc

  module _ (i : ℕ) (told : slice_get s.functions i ≡ find (at_path p) s.functions) where
    pub stands_there : IsStanding s i p (function_of stand.d)
    stands_there = record { lawful = stand.lawful; there = told ∙ stand.found; at_reset = refl }

    pub slot_at_first : (h : AssignedFunction) → ((f : Function) → IsStanding s i p f → IsHeld s p f h) → IsSlot s (Some p) (reset_function (declared (board_at s.functions) p)) (Some h)
    slot_at_first h holds =
        subst (λ (o : Option Endpoint). IsSlot s (Some p) (reset_function o) (Some h)) (sym stand.declares) (holds (function_of stand.d) stands_there)
