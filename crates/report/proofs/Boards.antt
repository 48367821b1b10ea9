-- The text of what set-up finds in a world is the report of the world.
--     in_parts      what is appended to an empty text, part by part
use Rattle.std.proofs.Common.{◌≡◌, [], ◌++◌, sym, ap, ◌∙◌}
use Rattle.model_guests.specs.{Text.Text, World.World}
use Rattle.model_handoff.{specs.{Report.report, FoundReport.{SetUpBoard, IsSetUpOf, found_report}}, proofs.BoardReport.report_of_board}

pub of_set_up : (s : SetUpBoard) (w : World) → IsSetUpOf s w → found_report s ≡ report w
of_set_up s w is = ap found_report (sym is.found) ∙ report_of_board w is.lawful

pub in_parts : (zero one two three counts functions guests : Text) → zero ≡ [] → one ≡ zero ++ counts → two ≡ one ++ functions → three ≡ two ++ guests
    → three ≡ counts ++ functions ++ guests
in_parts zero one two three counts functions guests z e f g =
    g ∙ ap (λ (t : Text). t ++ guests) (f ∙ ap (λ (t : Text). t ++ functions) (e ∙ ap (λ (t : Text). t ++ counts) z))
