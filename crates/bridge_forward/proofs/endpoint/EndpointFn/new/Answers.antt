use Rattle.std.{proofs.Common.{◌≡◌, ℕ, ◌<◌, Some, map, ap, sym, ◌∙◌, arith}, specs.List.slice_get}
use Rattle.model_registers.specs.{Registers.File, Declarations.Endpoint, EndpointTable.closed}
use Rattle.config_bytes.specs.CellFile.{CellFile}
use Rattle.bridge_forward.{specs.EndpointParts.{as_made, declared_block}, proofs.{EndpointReset.{bars_declared, opens_lawful, blocks_declared, blocks_filled, parts_new, file_new}, ResetKept.know_new}}
use Rattle.bridge_forward.proofs.endpoint.EndpointFn.new.Goals as goal

pub new-bars-requires : goal.new-bars-requires
new-bars-requires c = grind (arith, opens_lawful, bars_declared)

-- the parts as they are declared
module _ (c : goal.After-command-command) where
  declared : c.deref.result.now ≡ c.args.decl.regions
  declared = c.deref.ensures.value ∙ ap (λ (d : Endpoint). d.regions) (c.behind-decl.view_is ∙ c.values.ensures.values)

  bars : c.new-bars.result ≡ map closed c.args.decl.regions
  bars = c.new-bars.ensures ∙ bars_declared c.args.decl c.values.ensures.lawful c.deref.result.now declared c.bar_decls.result c.bar_decls.ensures

  filled : (n : ℕ) → n < 6 → slice_get c.in_ok-blocks.blocks.items n ≡ Some (as_made (declared_block c.args.decl.regions n))
  filled = blocks_declared c.args.decl _ (c.deref-2.ensures.value ∙ sym c.deref.ensures.value ∙ declared) _ c.in_ok-blocks.ensures.blocks

pub invariant_of-result : goal.invariant_of-result
invariant_of-result c = record {
  parts = parts_new _ c.values.ensures.lawful _ c.in_ok-blocks.ensures.six (blocks_filled c.args.decl _ (filled c)) c.args.multifunction _ _
      (ap (λ (f : CellFile). f.now) c.in_ok-config.ensures) (bars c);
  command_is = c.command-command.ensures;
  reset = know_new _ c.values.ensures.lawful c.args.multifunction _ c.in_ok-config.ensures _ c.in_ok-blocks.ensures.six (filled c);
}

pub returns-clause-made : goal.returns-clause-made
returns-clause-made c =
    ap (λ (xs : File). record { decl = c.args.decl; file = xs })
    (file_new _ c.values.ensures.lawful _ c.in_ok-blocks.ensures.six (blocks_filled c.args.decl _ (filled c)) c.args.multifunction _ _
    (ap (λ (f : CellFile). f.now) c.in_ok-config.ensures) (bars c))
