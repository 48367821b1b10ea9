-- Why an access of a guest finds what it finds, or nobody, as lines or as JSON.
--     bar_value, closed_value      the register of a region, null of configuration space; a closed region
--     finding_value      what is found
--     guest_json latch t f      it at a place, beside what the guest's latch makes of a port; its text, and a line feed
--     explain_guest_access form g t      the whole text of a guest's access, in a form
use Rattle.std.specs.Prelude.{ℕ, map, codes}
use Rattle.serde_json.specs.Data.{Data, null, string, object, member, no_members}
use Rattle.model_registers.specs.Registers.{Place, config, block, offset_of}
use Rattle.model_guests.specs.{Accesses.{Target, configuration, port, address}, Lone.LoneGuest, Text.Text}
use Rattle.model_lines.specs.{WhyPorts.{like_others, port_use}, WhyGuests.{ClosedRegion, Finding, answers, nobody, empty, no_slot, guest_finding, guest_why_text}}
use Rattle.json_texts.specs.{ReportValue.array_of, AuditValue.{natural, bdf_value}, WhyValue.explanation_json}
use Rattle.session.specs.declared.questions.ReportForm.{ReportForm, TheVariants.{Lines, Json}}

abbrev pub bar_value : Place → Data
bar_value (config off) = null
bar_value (block n off) = natural n

abbrev pub closed_value : ClosedRegion → Data
closed_value c = object (
    member (codes "bar") (natural c.index) (
    member (codes "base") (natural c.first) (
    member (codes "command") (natural c.command) (
    member (codes "size") (natural c.size) (
    member (codes "slot") (natural c.slot) no_members)))))

abbrev pub finding_value : Finding → Data
finding_value (answers l) = object (
    member (codes "bar") (bar_value l.place) (
    member (codes "offset") (natural (offset_of l.place)) (
    member (codes "slot") (natural l.slot) (
    member (codes "type") (string (codes "answers")) no_members))))
finding_value (nobody cs) = object (
    member (codes "regions") (array_of (map closed_value cs)) (
    member (codes "type") (string (codes "nobody")) no_members))
finding_value (empty slot) = object (
    member (codes "slot") (natural slot) (
    member (codes "type") (string (codes "empty")) no_members))
finding_value (no_slot at) = object (
    member (codes "number") (bdf_value at) (
    member (codes "type") (string (codes "no slot")) no_members))

abbrev pub guest_json : ℕ → Target → Finding → Text
guest_json latch (configuration slot off) f = explanation_json like_others (finding_value f)
guest_json latch (port a) f = explanation_json (port_use latch a) (finding_value f)
guest_json latch (address a) f = explanation_json like_others (finding_value f)

abbrev pub explain_guest_access : ReportForm → LoneGuest → Target → Text
explain_guest_access Lines g t = guest_why_text g t
explain_guest_access Json g t = guest_json g.latch t (guest_finding g t)
