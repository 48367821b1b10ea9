use Rattle.std.proofs.Common.{ℕ, ◌+◌, ◌*◌, ◌/◌, ◌∙◌, ap, ap₂}
use Rattle.bars.specs.Kinds.{kind_of}
use Rattle.monitor.proofs.QuerySteps.{IsWordRead, wide_base}
use Rattle.monitor.proofs.queries.regions.guest_bar_base.Goals as goal

pub returns-in-Mem64 : goal.returns-in-Mem64
returns-in-Mem64 c = λ file holds room.
    let own = c.args.held.now.own in
    let n = c.args.bar in
    let first : IsWordRead own (0x10 + 4 * n) c.config_read-low.result.0 c.config_read-low.result.1 =
    record { others_are = c.config_read-low.ensures.others; together = c.config_read-low.ensures.together } in
    let second : IsWordRead own (0x10 + 4 * n + 4) c.config_read-high.result.0 c.config_read-high.result.1 =
    record { others_are = c.config_read-high.ensures.others; together = c.config_read-high.ensures.together } in
    let is = ap kind_of c.in-Mem64.is in
    ap₂ (λ (x y : ℕ). (x + 0x100000000 * y) / 16 * 16) c.from-in-Mem64.ensures c.from-in-Mem64-2.ensures
    ∙ wide_base own file holds n _ _ _ _ first second (kind_of c.args.kind) _ is room
