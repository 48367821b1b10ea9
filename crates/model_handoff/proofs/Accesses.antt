-- Reads and writes of the board over a handoff, where a guest has a function.
use Rattle.std.{proofs.Common.{◌≡◌, ℕ, ◌+◌, Bool, List, [], ◌∷◌, Some, Option, refl, sym, ap, ◌∙◌, subst, arith}, specs.{Prelude.{find, option_map}, Option.option_map_or}}
use Rattle.lists.{specs.Elements.{Each, IsIn}, proofs.{Members.each_in, FirstFound.found_in}}
use Rattle.model_registers.specs.{Registers.{config, block, File, read, write, all_bytes, number}, ByteEnables.enabled_bits, Decoding.Function, OwnCopies.forwarded_byte_enables, CopiedFiles.{agreed_file, places_of}}
use Rattle.model_board.specs.{Paths.{Path, path_eq}, Board.{endpoint, Board}, AtReset.board_at, Claims.Claim, Cycles.reached, Ports.{file_at, claim_reply, after_claim_write, target_reply, after_target_write}, State.{BoardFunction, State}}
use Rattle.model_findings.specs.{Found.{current_bdf, IsNumbered}, Orderly.IsStateOfBoard}
use Rattle.model_guests.{specs.{Guests.{GuestsNow, file_of}, AgreedBoard.{agreed_function, state_over}, ChangeLaws.ChangesAlike, Seated.{AreSeated, IsSeatedAt}, Text.Text}, proofs.{AgreedChanges.agreed_by, AgreedFiles.{writes_alike, shows_file}, KeptCopies.file_of_seat, Changes.changes_slot, DeclaredRows.declared_row}}
use Rattle.model_handoff.{specs.{Handoffs.HasDeclaredShape, Regions.base_in, RegionLaws.{HitActs, ActsOver, ReachesOver, RegionReads, RegionWrites, MemoryBySpace, PortsBySpace, CycleReads, CycleWrites, HasSlot}}, proofs.{Functions.{Facts, facts, path_stays, decl_stays}, Agreement.places_in, Keeping.{find_path, keeps_reach}, Standing.{at_path, endpoint_at, StandsAt, found, stands}, Regions.{hit_reaches_over, region_is_claimed, seat_of}}}

-- in a region there are no copies
all_handed : (n a : ℕ) (ons : List Bool) → forwarded_byte_enables (block n a) ons ≡ ons
all_handed n a [] = refl
all_handed n a (on ∷ ons) = grind (arith, all_handed n (a + 1) ons)

region_alike : (w v n a : ℕ) → ChangesAlike (write (all_bytes w) v (block n a)) (write (all_bytes w) v (block n a))
region_alike w v n a = subst (λ ons. ChangesAlike (write (all_bytes w) v (block n a)) (write ons v (block n a))) (all_handed n a (all_bytes w)) (writes_alike (all_bytes w) v (block n a))

-- ---- a slot's function on the board

module _ (s : State) (state : IsStateOfBoard s.functions) (gs : GuestsNow) (seated : AreSeated (board_at s.functions) gs) (name : Text) (n : ℕ) (p : Path) (f : Function) (has : HasSlot gs name n p f) where
  abbrev b : Board
  b = board_at s.functions

  seat : IsSeatedAt b p f
  seat = seat_of b gs seated name n p f has

  row : IsIn (record { path = p; decl = endpoint f.decl }) b
  row = declared_row b p f.decl seat.decl

  abbrev left : File
  left = file_at s.functions p

  there : StandsAt s.functions p f.decl
  there = stands s.functions state p f.decl row

  own_file_is : file_of gs p ≡ Some f.file
  own_file_is = file_of_seat b gs seated name n p f has.path has.function

  now_is : agreed_function (file_of gs) (endpoint_at p f.decl left) ≡ endpoint_at p f.decl (agreed_file left f.file)
  now_is = ap (λ (o : Option File). agreed_by o (endpoint_at p f.decl left)) own_file_is

  found_now : find (at_path p) (state_over s gs).functions ≡ Some (endpoint_at p f.decl (agreed_file left f.file))
  found_now =
      find_path (agreed_function (file_of gs)) (λ g. path_stays (file_of gs g.path) g) (λ g. decl_stays (file_of gs g.path) g)
      (at_path p) (at_path p) (λ g. ap (λ (q : Path). path_eq q p) (path_stays (file_of gs g.path) g)) s.functions
      ∙ ap (option_map (agreed_function (file_of gs))) there.found_is ∙ ap Some now_is

  places_are : Each HasDeclaredShape s.functions → places_of f.file ≡ places_of left
  places_are shapes =
      (places_in b gs seated.guests (endpoint_at p f.decl left) (each_in (Facts b) (endpoint_at p f.decl left) s.functions (facts s.functions state) there.among)
      (each_in HasDeclaredShape (endpoint_at p f.decl left) s.functions shapes there.among) f.file own_file_is).same

  pub block_shown : Each HasDeclaredShape s.functions → (k a w : ℕ) → claim_reply (state_over s gs).functions w (Some (record { path = p; index = k; offset = a })) ≡ number f.file (block k a) w
  block_shown shapes k a w =
      let ons : List Bool = all_bytes w in
      grind (arith, found_now, all_handed k a ons, shows_file left f.file (places_are shapes) (block k a) ons, places_are shapes)

  -- the cycle for its address
  pub reached_is : IsNumbered s.functions → reached (state_over s gs).functions (current_bdf s.functions p) ≡ Some (endpoint_at p f.decl (agreed_file left f.file))
  reached_is numbered =
      keeps_reach s state gs seated (current_bdf s.functions p) ∙ ap (option_map (agreed_function (file_of gs))) handed ∙ ap Some now_is
    where
      among : (o : Option BoardFunction) → reached s.functions (current_bdf s.functions p) ≡ o → option_map (λ (g : BoardFunction). g.path) o ≡ Some p → reached s.functions (current_bdf s.functions p) ≡ Some (endpoint_at p f.decl left)
      among o e h = grind (arith, found s.functions state, there, found_in)

      handed : reached s.functions (current_bdf s.functions p) ≡ Some (endpoint_at p f.decl left)
      handed = grind (arith, among (reached s.functions (current_bdf s.functions p)) refl, each_in, there)

pub region_reads : RegionReads
region_reads s handoff orderly gs seated name n p f has r declared opened k small w =
    let claimed = region_is_claimed s handoff.board orderly gs seated p f.decl (row s handoff.board gs seated name n p f has) r declared opened k small in
    ap (claim_reply (state_over s gs).functions w) claimed.first ∙ block_shown s handoff.board gs seated name n p f has handoff.shapes r.index k w

pub region_writes : RegionWrites
region_writes s state orderly gs seated name n p f has r declared opened k small w v =
    let claimed = region_is_claimed s state orderly gs seated p f.decl (row s state gs seated name n p f has) r declared opened k small in
    ap (λ (o : Option Claim). record (state_over s gs) { functions = after_claim_write (state_over s gs).functions w v o }) claimed.first
    ∙ sym (changes_slot (board_at s.functions) s gs seated name n p f has.path has.function (write (all_bytes w) v (block r.index k)) (write (all_bytes w) v (block r.index k)) (region_alike w v r.index k))

pub hit_acts : HitActs
hit_acts s handoff orderly gs seated served name k p f has space n h e = (reach, acts)
  where
    reach : ReachesOver s gs p f space n h
    reach = hit_reaches_over s handoff.board orderly gs seated served name k p f has space n h e

    acts : (w v : ℕ) → ActsOver s gs name k f space h (base_in s p (hit_reaches_over s handoff.board orderly gs seated served name k p f has space n h e).region + h.offset) w v
    acts w v = grind (arith, hit_reaches_over s handoff.board orderly gs seated served name k p f has space n h e, block_shown, changes_slot, region_alike)

pub memory_by_space : MemoryBySpace
memory_by_space s a w v = (refl, refl)

pub ports_by_space : PortsBySpace
ports_by_space s a w v h = (ap (target_reply s a w) h, ap (after_target_write s a w v) h)

pub cycle_reads : CycleReads
cycle_reads s handoff numbered gs seated name n p f has off ons =
    ap (λ (o : Option BoardFunction). option_map_or (λ (g : BoardFunction). read g.file (config off) (forwarded_byte_enables (config off) ons)) o (enabled_bits (forwarded_byte_enables (config off) ons)))
    (reached_is s handoff.board gs seated name n p f has numbered)
    ∙ shows_file (left s handoff.board gs seated name n p f has) f.file (places_are s handoff.board gs seated name n p f has handoff.shapes) (config off) ons

pub cycle_writes : CycleWrites
cycle_writes s state numbered gs seated name n p f has off ons v =
    grind (arith, reached_is s state gs seated name n p f has numbered, changes_slot (board_at s.functions) s gs seated name n p f has.path has.function (write ons v (config off)) (write (forwarded_byte_enables (config off) ons) v (config off)) (writes_alike ons v (config off)), writes_alike ons v (config off))
