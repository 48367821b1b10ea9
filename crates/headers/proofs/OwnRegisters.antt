-- The registers of regions, asked of what declares them.
use Rattle.std.{proofs.{lemmas.{Grind.common_steps, List.{Folds.list_all-map, Sums.sum_by-cons}}, Common.{◌≡◌, ◌+◌, ◌&&◌, List, [], ◌∷◌, map, nat_le, count_by, arith}}, specs.List.list_all}
use Rattle.model_registers.specs.{Declarations.{Region, registers_of}, DeclarationRules.{uses, has_own_registers}}

pub registers_of_all : {A : Type 0} (f : A → Region) (xs : List A)
    → has_own_registers (map f xs)
    ≡ (list_all (λ x. nat_le ((f x).index + registers_of (f x).kind) 6) xs
    && list_all (λ n. nat_le (count_by (λ x. uses n (f x)) xs) 1) (0 ∷ 1 ∷ 2 ∷ 3 ∷ 4 ∷ 5 ∷ []))
registers_of_all f xs = grind (arith, common_steps, list_all-map, sum_by-cons)
