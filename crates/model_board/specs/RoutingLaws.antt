-- Routing registers alone decide where an address goes: PCI Local Bus 3.0, chapter 6.2.5; PCI-to-PCI Bridge
-- Architecture 1.2, chapter 4.
--     SameRouting      two states whose routing registers hold the same bytes
--     ForwardedByRouting, ClaimsByRouting, FirstByRouting      the routing registers alone decide forwarding and claims
--     SameClaims      equal routing registers give equal claims
--     RoutingOfCells, RoutingOfChange      equal bytes give equal routing, so changing other cells keeps it
use Rattle.std.specs.Prelude.{List, [], ◌∷◌, ◌≡◌, ℕ, ◌+◌, Bool, ◌&&◌, ◌||◌, nat_lt, nat_le, ⊤, IsTrue, map}
use Rattle.lists.specs.Elements.{Each}
use Rattle.model_registers.specs.{Registers.{config, cell_at}, Decoding.Space}
use Rattle.model_board.specs.{Paths.Path, Board.{Decl, endpoint, bridge}, State.BoardFunction, Claims.{is_forwarded, claims, first_claim}, Routing.{routing, is_routed, routed_claims, routed_claim}, Lawful.IsLawfulDecl}

abbrev pub is_within : ℕ → ℕ → ℕ → Bool
is_within first count n = nat_le first n && nat_lt n (first + count)

-- the Command and base address registers of an endpoint, or the Command and window registers of a bridge
abbrev pub is_routing_register : Decl → ℕ → Bool
is_routing_register (endpoint d) n = is_within 0x04 2 n || is_within 0x10 24 n
is_routing_register (bridge d) n = is_within 0x04 2 n || is_within 0x1c 2 n || is_within 0x20 20 n

pub record HasSameRouting (f g : BoardFunction) : Type 0 where
  pub path : f.path ≡ g.path
  pub decl : f.decl ≡ g.decl
  pub registers : (n : ℕ) → IsTrue (is_routing_register f.decl n)
      → (cell_at f.file (config n)).value ≡ (cell_at g.file (config n)).value

-- function by function
abbrev pub SameRouting : List BoardFunction → List BoardFunction → Type 0
SameRouting [] [] = ⊤
SameRouting [] (g ∷ gs) = ⊥
SameRouting (f ∷ fs) [] = ⊥
SameRouting (f ∷ fs) (g ∷ gs) = HasSameRouting f g × SameRouting fs gs

abbrev pub ForwardedByRouting : Type 0
ForwardedByRouting = (fs : List BoardFunction) (p : Path) (space : Space) (a : ℕ)
    → is_forwarded fs p space a ≡ is_routed (routing fs) p space a

abbrev pub ClaimsByRouting : Type 0
ClaimsByRouting = (fs : List BoardFunction) (space : Space) (a : ℕ)
    → claims fs space a ≡ routed_claims (routing fs) space a

abbrev pub FirstByRouting : Type 0
FirstByRouting = (fs : List BoardFunction) (space : Space) (a : ℕ)
    → first_claim fs space a ≡ routed_claim (routing fs) space a

abbrev pub SameClaims : Type 0
SameClaims = (fs gs : List BoardFunction) → routing fs ≡ routing gs → (space : Space) (a : ℕ)
    → (first_claim fs space a ≡ first_claim gs space a) × (claims fs space a ≡ claims gs space a)

abbrev pub RoutingOfCells : Type 0
RoutingOfCells = (fs gs : List BoardFunction) → Each (λ f. IsLawfulDecl f.decl) fs → SameRouting fs gs
    → routing fs ≡ routing gs

abbrev pub RoutingOfChange : Type 0
RoutingOfChange = (change : BoardFunction → BoardFunction) (fs : List BoardFunction)
    → Each (λ f. IsLawfulDecl f.decl) fs → Each (λ f. HasSameRouting f (change f)) fs
    → routing (map change fs) ≡ routing fs
