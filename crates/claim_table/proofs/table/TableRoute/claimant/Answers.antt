use Rattle.std.{proofs.Common.{◌≡◌, Some, length, ◌-◌, ◌<◌, ap, ap₂, sym, ◌∙◌, arith}, specs.Prelude.find}
use Rattle.bars.specs.Kinds.{named_space}
use Rattle.model_board.specs.{Paths.Path, Claims.Claim}
use Rattle.lists.proofs.FirstFound.{each_found}
use Rattle.claim_table.{specs.{declared.region_entry.RegionEntry.RegionEntry, Entries.{lies_in, by_space}}, proofs.Answering.{known_in, none_claimed, from, claimed, path_at}}
use Rattle.claim_table.proofs.table.TableRoute.claimant.Goals as goal
use Rattle.claim_table.proofs.table.TableRoute.claimant.Goals.{In_ok-entry}

pub returns-in_err-entry : goal.returns-in_err-entry
returns-in_err-entry c =
    let found = sym (c.in_err-entry.ensures ∙ ap (find (lies_in c.args.addr)) (c.entries_of_space.ensures ∙ ap₂ (by_space (named_space c.args.space)) c.deref.ensures.value c.deref-2.ensures.value)) in
    let none = none_claimed _ _ _ c.args.self.now c.args._host.now c.self.view_is c.requires (named_space c.args.space) c.args.addr found in
    cc none

-- the entry that was found, and its path
module _ (c : In_ok-entry) where
  found : find (lies_in c.args.addr) (by_space (named_space c.args.space) c.self.inside.ports.items c.self.inside.memory.items) ≡ Some c.in_ok-entry.entry
  found = sym (c.in_ok-entry.ensures ∙ ap (find (lies_in c.args.addr)) (c.entries_of_space.ensures ∙ ap₂ (by_space (named_space c.args.space)) c.deref.ensures.value c.deref-2.ensures.value))

  within : c.in_ok-entry.entry.function < length c.self.inside.paths.items
  within = each_found (λ (e : RegionEntry). e.function < length c.self.inside.paths.items) (lies_in c.args.addr) _ _ (known_in _ _ _ c.self.invariant (named_space c.args.space)) found

pub index-requires : goal.index-requires
index-requires c = omega (arith, within c, c.self.inside.paths.ok)

pub overflow_sub-result : goal.overflow_sub-result
overflow_sub-result c =
    from _ _ _ c.args.self.now c.args._host.now c.self.view_is c.requires (named_space c.args.space) c.args.addr _ (found (goal.at.overflow_sub-result c).In_ok-entry)

pub returns : goal.returns
returns c =
    let e = c.in_ok-entry.entry in
    let k = (goal.at.returns c).In_ok-entry in
    let path = c.copied.ensures ∙ path_at _ e.function _ _ (within k) c.index.ensures in
    ap (λ (p : Path). let claim : Claim = record { path = p; index = e.region; offset = c.args.addr - e.first } in Some claim) path
    ∙ claimed _ _ _ c.args.self.now c.args._host.now c.self.view_is c.requires (named_space c.args.space) c.args.addr e (found k)
