-- Whether the windows route each address to one target, in any register state: PCI-to-PCI Bridge Architecture 1.2,
-- chapter 4.
--     IsForwarded rows q      each bridge above forwards each byte of the region
--     AreAlone a b      if both agents are on one bus, no address is answered by both
--     IsOrderly rows      each enabled region is forwarded, and no two agents conflict
--     IsStateOfBoard fs      lawful declarations at lawful places, whatever the registers hold
--     HasClaimsOfRegions fs      the claims are those of the enabled regions, and each address has at most one
--     OrderlyClaims      an orderly state has such claims
use Rattle.std.specs.{Prelude.{List, ◌≡◌, ℕ, ◌<◌, IsTrue, IsFalse, map}, Option.option_to_list}
use Rattle.lists.specs.Elements.{Each, EachPair}
use Rattle.model_registers.specs.Decoding.{Space}
use Rattle.model_board.specs.{Board.IsBoard, Lawful.HasLawfulDecls, State.{BoardFunction, row_at}, Claims.{claims, first_claim}, Routing.{RoutingRow, routing, is_routed}}
use Rattle.model_set_up.specs.{PlacedRegions.{PlacedRegion, holds}, UniqueClaimant.{IsClaimed, ShareNone}}
use Rattle.model_findings.specs.{OpenRegions.{open_regions, open_claim}, Agents.{Agent, agents, answers, on_one_bus}}

abbrev pub IsForwarded : List RoutingRow → PlacedRegion → Type 0
IsForwarded rows q = (n : ℕ) → IsTrue (holds q.space n q) → IsTrue (is_routed rows q.path q.space n)

abbrev pub AreAlone : Agent → Agent → Type 0
AreAlone a b = IsTrue (on_one_bus a b) → (space : Space) (n : ℕ)
    → IsTrue (answers space n a) → IsFalse (answers space n b)

pub record IsOrderly (rows : List RoutingRow) : Type 0 where
  pub forwarded : Each (IsForwarded rows) (open_regions rows)
  pub alone : EachPair AreAlone (agents rows)

pub record IsStateOfBoard (fs : List BoardFunction) : Type 0 where
  pub places : IsBoard (map row_at fs)
  pub declarations : HasLawfulDecls (map row_at fs)

-- HasUniqueClaims for any state, not only after set-up
pub record HasClaimsOfRegions (fs : List BoardFunction) : Type 0 where
  -- an address is claimed by the enabled region that contains it, and by no other
  pub only : (space : Space) (n : ℕ) → claims fs space n ≡ option_to_list (open_claim (routing fs) space n)
  pub first : (space : Space) (n : ℕ) → first_claim fs space n ≡ open_claim (routing fs) space n
  -- through every bridge above
  pub each_byte : Each (λ r. (k : ℕ) → k < r.size → IsClaimed fs r k) (open_regions (routing fs))
  pub apart : EachPair ShareNone (open_regions (routing fs))

abbrev pub OrderlyClaims : Type 0
OrderlyClaims = (fs : List BoardFunction) → IsStateOfBoard fs → IsOrderly (routing fs) → HasClaimsOfRegions fs
