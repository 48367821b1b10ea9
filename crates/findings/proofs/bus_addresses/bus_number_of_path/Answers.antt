use Rattle.std.{proofs.Common.{ap, sym, ◌∙◌}, specs.Prelude.{find, unwrap_or}}
use Rattle.model_board.specs.{Paths.{Path, path_eq}, State.BoardFunction}
use Rattle.findings.proofs.AddressBuses.{number_by_index, number_of_none}
use Rattle.findings.proofs.bus_addresses.bus_number_of_path.Goals as goal

pub returns-in-Some : goal.returns-in-Some
returns-in-Some c =
    let fs = c.args.host.now.state.functions in
    c.unwrap_or.ensures ∙ ap (λ o. unwrap_or o 0) c.secondary_bus_nth.ensures
    ∙ number_by_index fs c.requires.board c.args.bus.now (sym c.is_empty.ensures ∙ c.if-is_empty.false) c.in-Some.index
    (c.in-Some.ensures.function ∙ ap (λ (p : Path). find (λ (f : BoardFunction). path_eq f.path p) fs) c.path_of.ensures)

pub returns-in-None : goal.returns-in-None
returns-in-None c =
    let fs = c.args.host.now.state.functions in
    number_of_none fs c.requires.board c.args.bus.now (sym c.is_empty.ensures ∙ c.if-is_empty.false)
    (c.in-None.ensures.function ∙ ap (λ (p : Path). find (λ (f : BoardFunction). path_eq f.path p) fs) c.path_of.ensures)
