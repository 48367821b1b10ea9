-- Each problem is real, and there is none where and only where a state is in order.
use Rattle.std.proofs.Common.{List, arith}
use Rattle.lists.{specs.Elements.IsIn, proofs.Members.{each_from, front_or_back, from_flat_map, none_front, none_back}}
use Rattle.model_board.specs.{State.BoardFunction, Routing.routing}
use Rattle.model_findings.{specs.{Problems.{Problem, numbering_problems}, Witnesses.{IsReal, ProblemsAreReal, ProblemsDecide}}, proofs.{Problems.{IsRouted, routing_is_real, routing_decides}, Found.{lost_function, numbering_decides}}}

of_routing : (fs : List BoardFunction) (p : Problem) → IsRouted (routing fs) p → IsReal fs p
of_routing fs p h = grind arith

of_numbering : (fs : List BoardFunction) (p : Problem) → IsIn p (numbering_problems fs) → IsReal fs p
of_numbering fs p m = grind (arith, from_flat_map, lost_function)

pub problems_are_real : ProblemsAreReal
problems_are_real fs = grind (arith, each_from, front_or_back, of_routing, routing_is_real, of_numbering)

pub problems_are_real_and_complete : ProblemsDecide
problems_are_real_and_complete fs = grind (arith, routing_decides, none_front, numbering_decides, none_back)
