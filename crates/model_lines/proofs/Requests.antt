-- Lines that ask something have no other form.
use Rattle.std.{proofs.{Common.{◌≡◌, Bool, true, false, List, [], ◌∷◌, Option, None, Some, codes, refl, arith, rules}, lemmas.Slice.Eq.bytes_eq-Decides}, specs.{Prelude.if◌then◌else◌, Str.bytes_eq}}
use Rattle.model_guests.specs.{Text.{Text, words}, Grammar.{host, is_long}}
use Rattle.model_lines.specs.{Requests.{HostRequest, request_in, request_of, RequestExamples}, SessionLaws.{HostWordsAreNoForm, IsNoForm, RequestsAreNoForm}}
use Rattle.model_guests.specs.Lines as script
use Rattle.model_lines.specs.FirmwareLines as firmware

pub request_examples : RequestExamples
request_examples = assumption

abbrev IsNoFormOf : List Text → Type 0
IsNoFormOf ws = (firmware.meaning_of_words ws ≡ firmware.bad host 401) × ((guests : List Text) → script.meaning_of_words guests ws ≡ script.bad host 401)

on_true : (t : Bool) (o : Option HostRequest) (r : HostRequest) → (if t then o else None) ≡ Some r → (t ≡ true) × (o ≡ Some r)
on_true t o r is = grind arith

no_form_at : (ws : List Text) (r : HostRequest) → request_of ws ≡ Some r → IsNoFormOf (codes "host" ∷ ws)
no_form_at ws r is = search (rules, bytes_eq-Decides, on_true)

no_form_of : (ws : List Text) (r : HostRequest) → request_in ws ≡ Some r → IsNoFormOf ws
no_form_of [] r is = absurd (let wrong : None ≡ Some r = is in cc)
no_form_of (a ∷ ws) r is = grind (arith, on_true (bytes_eq a (codes "host")) (request_of ws) r is, bytes_eq-Decides a (codes "host"), no_form_at ws r)

pub host_words_are_no_form : HostWordsAreNoForm
host_words_are_no_form line word short is = grind arith

no_form_by : (line : Text) (r : HostRequest) (b : Bool) → is_long line ≡ b → (if b then None else request_in (words line)) ≡ Some r → IsNoForm line
no_form_by line r true long is = absurd (let wrong : None ≡ Some r = is in cc)
no_form_by line r false short is = grind (arith, no_form_of (words line) r is)

pub requests_are_no_form : RequestsAreNoForm
requests_are_no_form line r is = no_form_by line r (is_long line) refl is
