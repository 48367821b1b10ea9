-- Guests, identified by their index.
--     guest_nth w i, name_nth w i, lone_nth w i      the guest, its name, and what it holds
--     with_lone_nth i g w      the world in which it holds this
use Rattle.std.specs.Prelude.{ℕ, [], unwrap_or, slice_get, slice_set}
use Rattle.model_guests.specs.{Text.Text, Lone.{LoneGuest, reset_guest}, Guests.GuestNow, WorldNow.WorldNow}

-- past the last guest, the name is empty and there are no functions
abbrev pub guest_nth : WorldNow → ℕ → GuestNow
guest_nth w i = unwrap_or (slice_get w.guests i) (record { name = []; paths = []; lone = reset_guest [] })

abbrev pub name_nth : WorldNow → ℕ → Text
name_nth w i = (guest_nth w i).name

abbrev pub lone_nth : WorldNow → ℕ → LoneGuest
lone_nth w i = (guest_nth w i).lone

abbrev pub with_lone_nth : ℕ → LoneGuest → WorldNow → WorldNow
with_lone_nth i g w = record w { guests = slice_set w.guests i (record (guest_nth w i) { lone = g }) }
