-- The lines of an explanation, from the code's types.
--     answer_text, address_head, number_head      who answers an address; what a configuration number reaches
--     taking_text      a bridge that takes the cycle for a bus
--     at_reset_text      how many regions are as at reset
--     use_text      what the latch makes of a port, if it makes something of it
--     line_text      what a line says beside its first word
use Rattle.std.specs.{Prelude.{[], ◌++◌, ℕ, Option, ◌==◌, if◌then◌else◌, codes, decimal}, Option.option_map_or}
use Rattle.model_registers.specs.Decoding.{Space}
use Rattle.model_board.specs.{Paths.Path, Cycles.BusAddress}
use Rattle.model_guests.specs.{Text.Text, Replies.hex_digits, PathTexts.{hexadecimal, path_text}}
use Rattle.model_findings.specs.AuditText.{space_text, number_text}
use Rattle.model_lines.specs.WhyText.{claim_text, no_claim_text, forwarder_text, told_text, missing_text, not_found_text, total_text}
use Rattle.bars.specs.Kinds.{named_space}
use Rattle.paths.specs.BusAddresses.{bus_address_of}
use Rattle.findings.specs.WhyTold.{forwarder_told, region_told, why_told, missing_told, use_told}
use Rattle.findings_render.specs.declared.why_line.Line.{Line, TheVariants.{Port, Address, Forwarder, Region, AtReset, Number, Taker, Missing, NotFound, Total}}
use Rattle.model_lines.specs.Why as model
use Rattle.model_lines.specs.WhyPorts as ports

abbrev pub answer_text : model.Why → Text
answer_text w = option_map_or claim_text w.answer (no_claim_text w.forwarders)

abbrev pub address_head : Space → ℕ → model.Why → Text
address_head space n w = space_text space ++ codes " " ++ hexadecimal n ++ codes ": " ++ answer_text w

abbrev pub at_reset_text : ℕ → Text
at_reset_text n =
    decimal n ++ (if n == 1 then codes " BAR" else codes " BARs") ++ codes " at 0x0 with decode disabled, as at reset"

abbrev pub number_head : BusAddress → Option Path → Text
number_head at reached = number_text at ++ codes " reaches " ++ option_map_or path_text reached (codes "nothing")

abbrev pub taking_text : ℕ → Path → Text
taking_text bus p = codes "bridge " ++ path_text p ++ codes " claims bus " ++ hex_digits 2 bus

abbrev pub use_text : ℕ → ℕ → ports.PortUse → Text
use_text latch n ports.holds_latch = ports.port_text n ++ codes "4-byte accesses go to " ++ ports.latch_text latch
use_text latch n (ports.shows_data at off) =
    ports.port_text n ++ ports.latch_text latch ++ codes " selects offset " ++ hexadecimal off ++ codes " of "
    ++ number_text at
use_text latch n ports.hides_data = ports.port_text n ++ ports.latch_text latch ++ codes " is disabled"
use_text latch n ports.like_others = []

abbrev pub line_text : Line → Text
line_text (Port latch n u) = use_text latch n (use_told u.now)
line_text (Address space n w) = address_head (named_space space) n (why_told w.now)
line_text (Forwarder g) = forwarder_text (forwarder_told g.now)
line_text (Region space t) = told_text (named_space space) (region_told t.now)
line_text (AtReset n) = at_reset_text n
line_text (Number at w) = number_head (bus_address_of at.now) w.now.reached
line_text (Taker bus p) = taking_text bus p.now
line_text (Missing m) = missing_text (missing_told m.now)
line_text (NotFound p) = not_found_text p.now
line_text (Total n) = total_text n
