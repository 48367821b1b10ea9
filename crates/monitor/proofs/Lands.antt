-- Which accesses of a guest land on Command or on a base address register: those of configuration space alone.
use Rattle.std.{proofs.{Common.{◌≡◌, ℕ, zero, suc, ◌+◌, Bool, false, ◌&&◌, not, [], ◌∷◌, Some, None, Option, refl, sym, ap, ◌∙◌, arith}, lemmas.Bool.Decides.nat_tests}, specs.{Prelude.is_some, Option.option_map_or}}
use Rattle.lists.proofs.Tests.{and_false}
use Rattle.model_registers.specs.{Registers.block, Decoding.{Space, io, memory}}
use Rattle.model_guests.specs.{Accesses.{Target, access, configuration, port, address, Op, reads, writes}, Slots.{Slots, Landing, landing_from, fault_of}, Lone.{LoneGuest, Destination, own_latch, no_function, at_target, destination}}
use Rattle.model_handoff.specs.{Located.landing_at, StayLaws.any_tells, Changes.{MachineNow, lands_own, moves_own}}
use Rattle.monitor.specs.{ByIndex.lone_nth, Counts.{changes_at, after_access_nth, after_event_nth}, Reaches.target_in}

abbrev tells : ℕ → Option Landing → Bool
tells w o = option_map_or (λ (l : Landing). any_tells w l.place) o false

-- a block tells of no region
in_block : (w n off : ℕ) → any_tells w (block n off) ≡ false
in_block zero n off = refl
in_block (suc w) n off = in_block w n (off + 1)

in_regions : (w n : ℕ) (space : Space) (a : ℕ) (fs : Slots) → tells w (landing_from n space a fs) ≡ false
in_regions w n space a [] = refl
in_regions w n space a (None ∷ fs) = in_regions w (n + 1) space a fs
in_regions w n space a (Some f ∷ fs) = grind (arith, in_block, in_regions w (n + 1) space a fs)

unchanged : (g : LoneGuest) (op : Op) (w : ℕ) (d : Destination) → tells w (landing_at g d) ≡ false → changes_at g op w d ≡ false
unchanged g reads w d none = refl
unchanged g (writes v) w d none = none

pub region_unchanged : (g : LoneGuest) (op : Op) (w : ℕ) (space : Space) (a : ℕ) → changes_at g op w (at_target (target_in space a)) ≡ false
region_unchanged g op w io a = unchanged g op w (at_target (port a)) (in_regions w 0 io a g.slots)
region_unchanged g op w memory a = unchanged g op w (at_target (address a)) (in_regions w 0 memory a g.slots)

pub latch_unchanged : (g : LoneGuest) (op : Op) (w : ℕ) → changes_at g op w own_latch ≡ false
latch_unchanged g op w = unchanged g op w own_latch refl

pub nowhere_unchanged : (g : LoneGuest) (op : Op) (w : ℕ) → changes_at g op w no_function ≡ false
nowhere_unchanged g op w = unchanged g op w no_function refl

-- ---- an access that isn't refused

-- four bytes at CF8h land nowhere, and a byte there on no such register
at_port : (g : LoneGuest) (a w : ℕ) → tells w (landing_at g (destination g.latch w (port a))) ≡ tells w (landing_at g (destination g.latch 1 (port a)))
at_port g a w = grind (arith, and_false, nat_tests, in_regions)

lands : (g : LoneGuest) (t : Target) (w : ℕ) → tells w (landing_at g (destination g.latch w t)) ≡ lands_own g t w
lands g (configuration slot off) w = refl
lands g (port a) w = at_port g a w
lands g (address a) w = refl

moves : (g : LoneGuest) (t : Target) (w : ℕ) (op : Op) → fault_of (record { target = t; width = w; op = op }) ≡ None
    → changes_at g op w (destination g.latch w t) ≡ moves_own g (access (record { target = t; width = w; op = op }))
moves g t w reads passes = refl
moves g t w (writes v) passes = lands g t w ∙ ap (λ (o : Option ℕ). not (is_some o) && lands_own g t w) (sym passes)

pub access_done : (i : ℕ) (m : MachineNow) (t : Target) (w : ℕ) (op : Op) → fault_of (record { target = t; width = w; op = op }) ≡ None
    → after_access_nth i op w (destination (lone_nth m.world i).latch w t) m ≡ after_event_nth i (access (record { target = t; width = w; op = op })) m
access_done i m t w op passes = grind (arith, moves)
