-- Guests as they are now, by their places.
use Rattle.std.{proofs.Common.{◌≡◌, ℕ, zero, suc, [], ◌∷◌, refl}, specs.Prelude.{unwrap_or, slice_get}}
use Rattle.model_guests.specs.{Lone.reset_guest, Guests.{GuestNow, GuestsNow}, WorldNow.names_of}
use Rattle.lines.specs.Lines.{name_of}

-- there is no guest past the last one
abbrev pub nobody : GuestNow
nobody = record { name = []; paths = []; lone = reset_guest [] }

-- a name among the names of guests is the name of the guest there
pub name_of-now : (gs : GuestsNow) (i : ℕ)
    → name_of (names_of gs) i ≡ (unwrap_or (slice_get gs i) nobody).name
name_of-now [] i = refl
name_of-now (g ∷ gs) zero = refl
name_of-now (g ∷ gs) (suc i) = name_of-now gs i
