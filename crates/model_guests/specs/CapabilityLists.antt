-- Capability lists that guests and the host walk: PCI Local Bus 3.0, chapter 6.7.
--     IsLawfulInput      what a guest's slots get follows the rules
--     GuestsFindLists      in each slot, whatever the guest's own lines and the moves were, the list is the declared one
--     BoardShowsLists      so it is on a board that agrees with the guest
use Rattle.std.specs.Prelude.{◌≡◌, ◌<◌, ◌≤◌, ℕ, List, ◌∷◌, Option, Some, ⊤, MatchOption}
use Rattle.lists.specs.Elements.{Each}
use Rattle.model_registers.specs.{Registers.File, Declarations.Endpoint, DeclarationRules.IsLawfulEndpoint, Decoding.Function, Capabilities.{Capability, with_capabilities, ShowsList}}
use Rattle.model_guests.specs.{Slots.slot_at, Lone.reset_guest, Inputs.{Input, own_line, loses, gets, after_inputs}, AgreedLaws.HoldsFile}

abbrev pub IsLawfulInput : Input → Type 0
IsLawfulInput (own_line line) = ⊤
IsLawfulInput (loses n) = ⊤
IsLawfulInput (gets n d) = IsLawfulEndpoint d

abbrev pub GuestsFindLists : Type 0
GuestsFindLists = (ds : List (Option Endpoint)) → Each (λ o. MatchOption o ⊤ IsLawfulEndpoint) ds
    → (is : List Input) → Each IsLawfulInput is
    → (n : ℕ) (f : Function) → slot_at (after_inputs (reset_guest ds) is).slots n ≡ Some f
    → (d : Endpoint) (c : Capability) (cs : List Capability) → f.decl ≡ with_capabilities (c ∷ cs) d
    → Each (λ e. e.id < 256) (c ∷ cs) → ShowsList f.file (c ∷ cs)

-- no register of a list is one that the guest has a copy of
abbrev pub BoardShowsLists : Type 0
BoardShowsLists = (left own now : File) → HoldsFile left own now
    → (cs : List Capability) → Each (λ c. 0x40 ≤ c.offset) cs → ShowsList own cs → ShowsList now cs
