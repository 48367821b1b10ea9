-- The results of assigning and unassigning a function of the board, as C receives them.
--     gift_reply, after_gift      assigning the function at a path text: the reply, and the machine after it
--     taking_reply, after_taking      unassigning a function from the guest at an index: the reply, and the machine after it
use Rattle.std.specs.{Prelude.ℕ, Option.option_map_or}
use Rattle.model_guests.specs.{Text.Text, Accesses.{Reply, refused}, WorldNow.WorldNow}
use Rattle.model_handoff.specs.{Giving.{give_reply, take_reply}, Actions.{gives, takes}, Changes.{MachineNow, after_on_machine}}
use Rattle.board_file.specs.PathTexts.{parse_path}
use Rattle.monitor.specs.{ByIndex.name_nth, Seatings.gift_nth}

-- there is no endpoint at a text that isn't a path
abbrev pub gift_reply : WorldNow → Text → ℕ → ℕ → Reply
gift_reply w path guest slot =
    option_map_or (λ p. give_reply w (gift_nth w p guest slot)) (parse_path path) (refused 303)

abbrev pub after_gift : MachineNow → Text → ℕ → ℕ → MachineNow
after_gift m path guest slot =
    option_map_or (λ p. after_on_machine m (gives (gift_nth m.world p guest slot))) (parse_path path) m

abbrev pub taking_reply : WorldNow → ℕ → ℕ → Reply
taking_reply w guest slot = take_reply w (name_nth w guest) slot

abbrev pub after_taking : MachineNow → ℕ → ℕ → MachineNow
after_taking m guest slot = after_on_machine m (takes (name_nth m.world guest) slot)
