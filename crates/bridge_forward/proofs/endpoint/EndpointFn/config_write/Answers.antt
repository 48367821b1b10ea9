use Rattle.std.proofs.Common.{◌++◌, ap, refl, sym, ◌∙◌, arith, subst}
use Rattle.lists.specs.Elements.{Each}
use Rattle.model_registers.{specs.{Registers.{File, config, write}, ByteEnables.lanes, FileLaws.has_place, EndpointTable.base_file, Decoding.Function}, proofs.Files.places_stay}
use Rattle.config_bytes.specs.CellFile.{CellFile}
use Rattle.bridge_forward.{specs.EndpointParts.{region_parts, block_at, IsHeaderKept}, proofs.{EndpointAccess.{write_base, write_config, config_kept, word_away}, ResetKept.{header_written, config_invariant}}}
use Rattle.bridge_forward.proofs.endpoint.EndpointFn.config_write.Goals as goal

pub invariant_of-self : goal.invariant_of-self
invariant_of-self c = record {
  parts = config_kept _ _ _ _ c.self.invariant.parts c.self.inside.config.now c.write.new.self c.write.ensures.regions c.self.invariant.parts.config_places (λ q. refl);
  command_is = c.self.invariant.command_is;
  reset = c.self.invariant.reset;
}

pub invariant_of-self-in-None : goal.invariant_of-self-in-None
invariant_of-self-in-None c =
    let cells = c.self.inside.config in
    let ons = lanes c.args.enables in
    let now = ap (λ (f : CellFile). f.now) c.write-in-None.ensures.cells in
    config_invariant c.self.invariant c.write-in-None.new.self _ (ap (λ (f : CellFile). f.initial) c.write-in-None.ensures.cells) c.command.ensures c.write-in-None.ensures.places
    (λ q. ap (λ (xs : File). has_place xs (config q)) now ∙ places_stay ons c.args.data (config c.from.result) (config q) cells.now)
    (subst (λ (xs : File). Each (IsHeaderKept cells.initial) xs) (sym now) (header_written cells.initial ons c.args.data (config c.from.result) cells.now c.self.invariant.reset.header))

pub returns-in-Some : goal.returns-in-Some
returns-in-Some c =
    let ons = lanes c.args.enables in
    let at = c.in-Some.ensures.there in
    sym (ap (λ (xs : File). record { decl = c.self.inside.decl; file = xs })
    (write_base _ _ _ _ c.self.invariant.parts c.args.off c.args.data ons c.write.new.self (omega (arith, at.0, at.1)) (omega (arith, at.0, at.1))
    c.write.ensures.regions (c.write.ensures.cells ∙ ap (λ n. write ons c.args.data (config n) (base_file c.self.inside.bars)) (sym at.1))))
    ∙ ap (λ (f : Function). record f { file = write ons c.args.data (config c.args.off) f.file }) c.self.view_is

pub returns-in-None : goal.returns-in-None
returns-in-None c =
    let e = c.self.inside in
    let ons = lanes c.args.enables in
    ap (λ (xs : File). record { decl = e.decl; file = xs ++ region_parts e.bars (block_at e.blocks.items) })
    (ap (λ (f : CellFile). f.now) c.write-in-None.ensures.cells ∙ ap (λ n. write ons c.args.data (config n) e.config.now) c.from.ensures)
    ∙ sym (ap (λ (xs : File). record { decl = e.decl; file = xs })
    (write_config _ _ _ _ c.self.invariant.parts c.args.off c.args.data ons (word_away c.args.off c.requires c.in-None.ensures.elsewhere)))
    ∙ ap (λ (f : Function). record f { file = write ons c.args.data (config c.args.off) f.file }) c.self.view_is
