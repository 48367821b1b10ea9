-- The value of what is found has no float, so what is written of it is its compact text.
use Rattle.std.proofs.Common.{◌≡◌, false, refl}
use Rattle.serde_json.specs.Written.{has_float}
use Rattle.model_registers.specs.Registers.{Place, config, block}
use Rattle.model_lines.specs.WhyGuests.{Finding, answers, nobody, empty, no_slot}
use Rattle.json_texts.proofs.NoFloatsInReports.{none_mapped}
use Rattle.board_told.specs.WhyJson.{bar_value, closed_value, finding_value}

none_in_bar : (p : Place) → has_float (bar_value p) ≡ false
none_in_bar (config off) = refl
none_in_bar (block n off) = refl

pub none_in_finding : (f : Finding) → has_float (finding_value f) ≡ false
none_in_finding (answers l) = rw (none_in_bar l.place) refl
none_in_finding (nobody cs) = rw (none_mapped closed_value (λ c. refl) cs) refl
none_in_finding (empty slot) = refl
none_in_finding (no_slot at) = refl
