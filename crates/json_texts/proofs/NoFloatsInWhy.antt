-- The values have no float, so what is written of one is its compact text.
use Rattle.std.proofs.Common.{◌≡◌, [], ◌∷◌, false, refl}
use Rattle.serde_json.specs.{Data.Data, Written.has_float}
use Rattle.model_board.specs.Windows.{Window}
use Rattle.model_lines.specs.{Why.{NamedWindow, closes, misses, Cause, closed_by, stopped_at, UnansweredRegion, Why}, Ways.{Missing, no_bridge, no_function, WhyNumber}, WhyPorts.{PortUse, holds_latch, shows_data, hides_data, like_others}}
use Rattle.json_texts.{specs.{ReportValue.range_value, AuditValue.path_value, WhyValue.{window_value, cause_value, told_value, forwarder_value, claim_value, address_explanation_value, missing_value, bdf_explanation_value, explanation_value}}, proofs.NoFloatsInReports.{none_mapped, none_in_option}}

none_in_window : (w : NamedWindow) → has_float (window_value w) ≡ false
none_in_window w = rw (none_in_option (λ (r : Window). range_value r.first r.last) (λ r. refl) w.window) refl

none_in_cause : (c : Cause) → has_float (cause_value c) ≡ false
none_in_cause (closed_by command) = refl
none_in_cause (stopped_at p (closes command)) = refl
none_in_cause (stopped_at p (misses ws)) = rw (none_mapped window_value none_in_window ws) refl

none_in_told : (t : UnansweredRegion) → has_float (told_value t) ≡ false
none_in_told t = rw (none_mapped cause_value none_in_cause t.causes) refl

pub none_in_address : (w : Why) → has_float (address_explanation_value w) ≡ false
none_in_address w =
    rw (none_in_option claim_value (λ c. refl) w.answer, none_mapped forwarder_value (λ g. refl) w.forwarders, none_mapped told_value none_in_told w.told) refl

none_in_missing : (m : Missing) → has_float (missing_value m) ≡ false
none_in_missing (no_bridge [] n) = refl
none_in_missing (no_bridge (p ∷ ps) n) = refl
none_in_missing (no_function [] t) = refl
none_in_missing (no_function (p ∷ ps) t) = refl

pub none_in_way : (w : WhyNumber) → has_float (bdf_explanation_value w) ≡ false
none_in_way w =
    rw (none_in_option missing_value none_in_missing w.missing, none_mapped path_value (λ p. refl) w.not_found, none_in_option path_value (λ p. refl) w.reached, none_mapped path_value (λ p. refl) w.bridges) refl

pub none_in_why : (u : PortUse) (d : Data) → has_float d ≡ false → has_float (explanation_value u d) ≡ false
none_in_why holds_latch d h = rw h refl
none_in_why (shows_data at off) d h = rw h refl
none_in_why hides_data d h = rw h refl
none_in_why like_others d h = rw h refl
