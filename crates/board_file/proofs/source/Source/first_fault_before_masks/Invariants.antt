use Rattle.std.proofs.Common.{◌≡◌, map, drop}
use Rattle.toml.specs.View.{table_view}
use Rattle.model_registers.specs.DeclarationRules.{first_broken}
use Rattle.board_file.specs.Meaning.{check}
use Rattle.board_file.proofs.source.Source.first_fault_before_masks.Given as goal

abbrev pub invariant-checks : goal.invariant-checks
invariant-checks l =
    let of = check (table_view l.self.document.now) in
    first_broken (map of (drop l.fault-index l.fault-items)) ≡ first_broken (map of l.fault-items)
