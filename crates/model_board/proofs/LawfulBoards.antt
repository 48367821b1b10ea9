-- The main board of the worked examples is a board, and its declarations are lawful.
use Rattle.std.{proofs.Common.{arith, ◌≡◌, ℕ, ◌≤◌, ◌<◌, ◌^◌, List, [], ◌∷◌, length, ◌∙◌, refl, lit≤}, specs.{Prelude.bit_and, Int.Bits.or_zero_r}}
use Rattle.lists.specs.Elements.{Each}
use Rattle.model_registers.specs.{Declarations.{Region, HasLawfulRegions}, DeclarationRules.IsLawfulEndpoint}
use Rattle.model_board.specs.{Paths.IsPath, Board.IsBoard, Lawful.HasLawfulDecls, Examples.{part, plain, first_endpoint, second_endpoint, third_endpoint, main_board}}

on_bus_0 : (d : ℕ) → d < 16 → IsPath (part d 0 ∷ [])
on_bus_0 d h = grind arith

behind_2 : (d : ℕ) → d < 16 → IsPath (part 2 0 ∷ part d 0 ∷ [])
behind_2 d h = grind arith

pub main_is_board : IsBoard main_board
main_is_board = grind (arith, on_bus_0, behind_2)

pub plain_is_lawful : (id status pin : ℕ) (rs : List Region) → id < 2 ^ 16 → bit_and status 0xffe0 ≡ status → pin ≤ 4 → HasLawfulRegions rs → Each (λ r. length r.cells ≤ 4096) rs
    → IsLawfulEndpoint (plain id status pin rs)
plain_is_lawful id status pin rs device status_is small regions blocks =
    let no_list = or_zero_r (bit_and status 0xffe0) ∙ status_is in grind (arith, no_list)

first_regions : HasLawfulRegions (first_endpoint).regions
first_regions = record {
  each = (
    record { registers = lit≤ tt; size_is_lawful = record { power = (5, refl); not_less = lit≤ tt; not_more = lit≤ tt }; block_fits = lit≤ tt },
    (record { registers = lit≤ tt; size_is_lawful = record { power = (12, refl); not_less = lit≤ tt; not_more = lit≤ tt }; block_fits = lit≤ tt }, tt),
  );
  in_order = ((lit≤ tt, tt), (tt, tt));
}

second_regions : HasLawfulRegions (second_endpoint).regions
second_regions = record {
  each = (
    record { registers = lit≤ tt; size_is_lawful = record { power = (20, refl); not_less = lit≤ tt; not_more = lit≤ tt }; block_fits = lit≤ tt },
    (record { registers = lit≤ tt; size_is_lawful = record { power = (3, refl); not_less = lit≤ tt; not_more = lit≤ tt }; block_fits = lit≤ tt }, tt),
  );
  in_order = ((lit≤ tt, tt), (tt, tt));
}

third_regions : HasLawfulRegions (third_endpoint).regions
third_regions = record { each = (record { registers = lit≤ tt; size_is_lawful = record { power = (24, refl); not_less = lit≤ tt; not_more = lit≤ tt }; block_fits = lit≤ tt }, tt); in_order = (tt, tt) }

pub main_decls_lawful : HasLawfulDecls main_board
main_decls_lawful = grind (arith, plain_is_lawful, first_regions, second_regions, third_regions)
