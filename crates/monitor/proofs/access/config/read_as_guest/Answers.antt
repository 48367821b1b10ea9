use Rattle.std.proofs.Common.{refl, ℕ, ◌≡◌, ◌*◌, ◌/◌, ◌%◌, subst, arith}
use Rattle.monitor.proofs.ConfigReads.{IsOwnPart, sum_in_word, number_is}
use Rattle.monitor.proofs.access.config.read_as_guest.Goals as goal

pub overflow_add-own : goal.overflow_add-own
overflow_add-own c =
    let word = c.args.off / 4 * 4 in
    let whole : word % 4 ≡ 0 = omega arith in
    let at : c.from.result ≡ word = c.from.ensures in
    let P = λ (w : ℕ). IsOwnPart c.args.held.now w c.enables_of.result c.config_read-own.result.0 c.config_read-own.result.1 in
    let part : IsOwnPart c.args.held.now word c.enables_of.result c.config_read-own.result.0 c.config_read-own.result.1 =
    subst P at (record { own = c.config_read-own.ensures.own; others_are = c.config_read-own.ensures.others; together = c.config_read-own.ensures.together }) in
    record {
      fits = sum_in_word c.args.host.now c.args.held.now c.requires.seen word c.enables_of.result c.config_read-own.result.0 c.config_read-own.result.1 c.config_read_nth-rest.result part
          c.config_read_nth-rest.ensures.value whole c.config_read_nth-rest.type_inv;
    }

pub returns-clause-value : goal.returns-clause-value
returns-clause-value c = λ seen.
    let word = c.args.off / 4 * 4 in
    let at : c.from.result ≡ word = c.from.ensures in
    let P = λ (w : ℕ). IsOwnPart c.args.held.now w c.enables_of.result c.config_read-own.result.0 c.config_read-own.result.1 in
    let part : IsOwnPart c.args.held.now word c.enables_of.result c.config_read-own.result.0 c.config_read-own.result.1 =
    subst P at (record { own = c.config_read-own.ensures.own; others_are = c.config_read-own.ensures.others; together = c.config_read-own.ensures.together }) in
    number_is c.args.host.now c.args.held.now seen word c.enables_of.result c.config_read-own.result.0 c.config_read-own.result.1 c.config_read_nth-rest.result part
    c.config_read_nth-rest.ensures.value c.args.off c.args.width c.from-from.result c.shift_lanes_down.result refl c.from-from.ensures c.enables_of.ensures c.requires.width c.requires.aligned c.shift_lanes_down.ensures
