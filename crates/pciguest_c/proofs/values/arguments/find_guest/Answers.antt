use Rattle.std.{proofs.Common.{List, ap, ◌∙◌}, specs.{Prelude.position, Str.bytes_eq}}
use Rattle.model_guests.specs.Text.{Text}
use Rattle.lines.proofs.NameLemmas.{place_of-names}
use Rattle.pciguest_c.proofs.values.arguments.find_guest.Goals as goal

pub returns : goal.returns
returns c =
    c.index_of_name.ensures ∙ place_of-names c.names.result.now c.args.name.now
    ∙ ap (λ (ns : List Text). position (λ n. bytes_eq n c.args.name.now) ns) c.names.ensures
