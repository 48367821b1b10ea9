use Rattle.board_file.proofs.path.text.+parse_slash_parts_into.Given as goal

abbrev pub decreases-parse_slash_parts_into : goal.decreases-parse_slash_parts_into
decreases-parse_slash_parts_into l = l.room
