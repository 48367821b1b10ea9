use Rattle.std.{proofs.Common.take, specs.{Fmt.{HasWritten, IsPlainFormatter}, List.flat_map}}
use Rattle.report.proofs.PathTexts.{after_slash}
use Rattle.report.proofs.fields.ShownPathDisplay.fmt.Given as goal

abbrev pub invariant-rest : goal.invariant-rest
invariant-rest g l =
    IsPlainFormatter l.initial.f
    → HasWritten g.W.Write.write_str_gives l.initial.f (flat_map after_slash (take l.part-index l.rest)) l.f
