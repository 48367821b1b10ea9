-- In a script without moves a guest's inputs are its own lines.
use Rattle.std.{proofs.Common.{◌≡◌, false, List, [], ◌∷◌, refl, subst, arith}, specs.Prelude.{map, IsFalse}}
use Rattle.lists.specs.Elements.{Each}
use Rattle.model_guests.{specs.{Text.{Text, lines}, Grammar.own_lines, World.names, Guests.{GuestsNow, guests_at_first}, Lines.{Meaning, meaning}, WorldNow.{world_over, names_of, guests_after}, Inputs.{Input, own_line, inputs_of_meaning, inputs}, Isolation.{is_move, OwnLinesAlone, IsDecidedBy, IsolatedByOwnLines, TwoWorldsByOwnLines}}, proofs.{Along.{names_meaning, names_at_first}, Isolation.isolated_over}}

touches_no_one : (name : Text) (gs : GuestsNow) (m : Meaning) → is_move m ≡ false → inputs_of_meaning name gs m ≡ []
touches_no_one name gs m h = grind arith

own_along : (ns : List Text) (name : Text) (ls : List Text) (gs : GuestsNow) → names_of gs ≡ ns → Each (λ l. IsFalse (is_move (meaning ns l))) ls
    → inputs gs name ls ≡ map own_line (own_lines name ls)
own_along ns name [] gs same none = refl
own_along ns name (l ∷ ls) gs same none = grind (arith, own_along ns name ls (guests_after gs (meaning (names_of gs) l)), names_meaning, touches_no_one)

pub own_lines_alone : OwnLinesAlone
own_lines_alone w name script none = own_along (names w) name (lines script) (guests_at_first w) (names_at_first w) none

pub isolated_by_own_lines : IsolatedByOwnLines
isolated_by_own_lines w lawful s name script there none =
    subst (λ (is : List Input). IsDecidedBy is w (world_over w s) name script) (own_lines_alone w name script none) (isolated_over w lawful s name script there)

pub two_worlds_by_own_lines : TwoWorldsByOwnLines
two_worlds_by_own_lines name v w one other lawful_v lawful_w none_v none_w agree s t = grind (arith, isolated_by_own_lines)
