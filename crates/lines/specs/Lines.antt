-- Lines of a script, in the words of guests' definitions.
--     texts      guests' names as texts
--     name_of names g      the name of a guest by its place among the names
--     meaning_of names what      what a line means
--     GuestIs P who, GuestsAre P what      P holds of the guest that is answered, or of each that a line names
--     IsFirst names g      guest g is the first of its name
use Rattle.std.specs.{Prelude.{◌≡◌, ℕ, List, [], Some, ⊤, map, position, slice_index_or}, Str.bytes_eq}
use Rattle.arrayvec.specs.{ArrayVec.ArrayVec, ArrayString.ArrayString}
use Rattle.model_guests.specs.{Accesses.{access, raises}, Text.Text}
use Rattle.accesses.specs.{Accesses.{access_of, part_of, host_access_of}, Refusals.number_of}
use Rattle.lines.specs.declared.line.{Who.Who, What.What}
use Rattle.model_guests.specs.Grammar as grammar
use Rattle.model_guests.specs.Lines as meanings
use Rattle.lines.specs.declared.line.Who.TheVariants as who
use Rattle.lines.specs.declared.line.What.TheVariants as what

abbrev pub texts : ArrayVec ArrayString → List Text
texts names = map (λ n. n.bytes) names.items

-- past the last one there is no name
abbrev pub name_of : List Text → ℕ → Text
name_of names g = slice_index_or names g []

abbrev pub who_of : List Text → Who → grammar.Who
who_of names (who.Guest g) = grammar.guest (name_of names g)
who_of names who.Host = grammar.host
who_of names who.Unknown = grammar.nobody

abbrev pub meaning_of : List Text → What → meanings.Meaning
meaning_of names what.Nothing = meanings.nothing
meaning_of names (what.Guest g a) = meanings.guest_event (name_of names g) (access (access_of a))
meaning_of names (what.Raise g slot p off mask) = meanings.guest_event (name_of names g)
    (raises (record { slot = slot; part = part_of p; offset = off; mask = mask }))
meaning_of names (what.Host r) = meanings.host_read (host_access_of r)
meaning_of names (what.Move from slot to target) =
    meanings.host_move (record { from = name_of names from; slot = slot; to = name_of names to; target = target })
meaning_of names (what.Bad w why) = meanings.bad (who_of names w) (number_of why)

abbrev pub GuestIs : (ℕ → Type 0) → Who → Type 0
GuestIs P (who.Guest g) = P g
GuestIs P who.Host = ⊤
GuestIs P who.Unknown = ⊤

abbrev pub GuestsAre : (ℕ → Type 0) → What → Type 0
GuestsAre P what.Nothing = ⊤
GuestsAre P (what.Guest g a) = P g
GuestsAre P (what.Raise g slot p off mask) = P g
GuestsAre P (what.Host r) = ⊤
GuestsAre P (what.Move from slot to target) = P from × P to
GuestsAre P (what.Bad w why) = GuestIs P w

abbrev pub IsFirst : List Text → ℕ → Type 0
IsFirst names g = position (λ n. bytes_eq n (name_of names g)) names ≡ Some g
