use Rattle.std.{proofs.Common.{◌∙◌, List, length, map, ap, sym, subst, arith}, proofs.lemmas.List.length-map, specs.{Prelude.IsFalse, Str.bytes_eq}}
use Rattle.lists.{specs.Elements.EachPair, proofs.Members.pairs_of_map}
use Rattle.model_board.specs.{AtReset.board_at, State.State}
use Rattle.model_guests.specs.{Text.Text, World.{Guest as Declared, HasLawfulGuests}, Guests.GuestNow}
use Rattle.model_handoff.{specs.Handoffs.IsHandoff, proofs.Alike.alike_over}
use Rattle.monitor.{specs.{Beginnings.{with_no_slots, world_on}, Views.texts}, proofs.{Anew.lawful_anew, Calls.kept_in, Shown.names_kept}}
use Rattle.monitor.proofs.engine.Engine.anew.Goals as goal

pub copy_at_reset-requires : goal.copy_at_reset-requires
copy_at_reset-requires g c =
    let kept = kept_in c.self.invariant.1 c.self.view_is in
    (subst IsHandoff (sym kept.agrees) (alike_over c.args.self.now.world.handoff kept.lawful.handoff c.args.self.now.world.guests kept.lawful.seated).handoff).board.places

pub returns-clause-board : goal.returns-clause-board
returns-clause-board g c = c.in_ok-host.ensures.board ∙ ap (λ (s : State). board_at s.functions) (kept_in c.self.invariant.1 c.self.view_is).agrees

pub returns-clause-guests : goal.returns-clause-guests
returns-clause-guests g c =
    let w = c.args.self.now.world in
    let names = names_kept w.handoff (texts c.self.inside.names) w.guests c.self.inside.guests.items (kept_in c.self.invariant.1 c.self.view_is).guests in
    c.in_ok-guests.ensures.guests ∙ ap (λ (ns : List Text). map with_no_slots ns) (sym names)

pub returns-clause-lawful : goal.returns-clause-lawful
returns-clause-lawful g c =
    let w = c.args.self.now.world in
    let kept = kept_in c.self.invariant.1 c.self.view_is in
    let ns : List Text = texts c.self.inside.names in
    let same = names_kept w.handoff ns w.guests c.self.inside.guests.items kept.guests in
    let apart = subst (EachPair (λ m n. IsFalse (bytes_eq m n))) same (pairs_of_map (λ m n. IsFalse (bytes_eq m n)) (λ (t : GuestNow). t.name) w.guests kept.lawful.seated.names_apart) in
    let items = c.in_ok-guests.ensures.guests in
    let many = ap (λ (gs : List Declared). length gs) items ∙ length-map ns with_no_slots in
    let few = c.in_ok-guests.ensures.few in
    record {
      board = c.in_ok-host.ensures.at_reset.board;
      functions = c.in_ok-host.ensures.at_reset.declarations;
      guests = subst (λ (gs : List Declared). HasLawfulGuests (world_on c.in_ok-host.host gs)) (sym items) (lawful_anew c.in_ok-host.host ns (omega (arith, many, few)) c.self.invariant.1.lawful_names apart);
    }
