-- The current addresses of the regions of a guest's functions, as the guest sees them: PCI Local Bus 3.0, chapter 6.2.5.
--     is_prefetchable      the kind of region is prefetchable memory
--     LiveBar, region_now      a region at its current base, and whether Command enables its space
--     region_at f n      the region of a function that starts at base address register n
--     region_answer g slot n      the region at that register of the function in a slot, or the error number of a refusal
use Rattle.std.specs.{Prelude.{ℕ, Bool, false, ◌==◌, if◌then◌else◌, nat_le, Option, Result, Err, find, option_map}, Option.{option_map_or, ok_or}}
use Rattle.model_registers.specs.{Registers.File, Declarations.{Kind, io_kind, mem32, mem64, Region}, Decoding.{Space, space_of, Function, base, is_open}}
use Rattle.model_guests.specs.{Slots.slot_at, Lone.LoneGuest}

abbrev pub is_prefetchable : Kind → Bool
is_prefetchable io_kind = false
is_prefetchable (mem32 pref) = pref
is_prefetchable (mem64 pref) = pref

-- it occupies `size` addresses of its space from the first one on, and decodes them if Command enables the space
pub record LiveBar : Type 0 where
  pub space : Space
  pub first : ℕ
  pub size : ℕ
  pub prefetchable : Bool
  pub is_open : Bool

abbrev pub region_now : File → Region → LiveBar
region_now file r = record {
  space = space_of r.kind;
  first = base file r.index r.kind;
  size = r.size;
  prefetchable = is_prefetchable r.kind;
  is_open = is_open file (space_of r.kind);
}

abbrev pub region_at : Function → ℕ → Option Region
region_at f n = find (λ (r : Region). r.index == n) f.decl.regions

-- the last check: a region starts at this register
abbrev pub region_of : Function → ℕ → Result LiveBar ℕ
region_of f n = ok_or (option_map (region_now f.file) (region_at f n)) 303

-- the checks in order, as for a raise: the slot's number, the slot's function, its region
abbrev pub region_answer : LoneGuest → ℕ → ℕ → Result LiveBar ℕ
region_answer g slot n =
    if nat_le 32 slot then Err 303
    else option_map_or (λ (f : Function). region_of f n) (slot_at g.slots slot) (Err 601)
