-- The session lines that request something of the host: reports by `host audit` and `host ready`, the handover by
-- `host guests`, and explanations by `host why mem ADDR`, `host why io PORT` and `host why cfg BB:DD.F`.
--     HostRequest, request line      the request that a line makes, if it has such a form
--     why_written s t      the text of an explanation
--     RequestExamples      the requests that some lines make
use Rattle.std.specs.{Prelude.{◌≡◌, List, [], ◌∷◌, ◌^◌, if◌then◌else◌, Option, Some, None, option_map, codes}, Str.bytes_eq}
use Rattle.model_registers.specs.Decoding.{memory}
use Rattle.model_board.specs.State.{State}
use Rattle.model_guests.specs.{Text.{Text, words}, Numbers.{below, number_of}, Grammar.{HostTarget, host_configuration, host_port, host_address, on_word, bus_address, is_long}}
use Rattle.model_lines.specs.{Reports.{Report, of_problems, report_named}, WhyText.{why_text, why_number_text}, WhyPorts.why_port_text}

-- mem ADDR, io PORT with a port of 32 bits, cfg BB:DD.F
abbrev pub why_place : Text → Text → Option HostTarget
why_place space at =
    if bytes_eq space (codes "mem") then option_map host_address (number_of at)
    else (if bytes_eq space (codes "io") then option_map host_port (below (2 ^ 32) (number_of at))
    else on_word space (codes "cfg") (option_map (λ n. host_configuration n 0) (bus_address at)))

pub data HostRequest : Type 0 where
  for_report : Report → HostRequest
  for_guests : HostRequest
  for_why : HostTarget → HostRequest

abbrev pub request_of_word : Text → Option HostRequest
request_of_word w = if bytes_eq w (codes "guests") then Some for_guests else option_map for_report (report_named w)

-- the words after `host`
abbrev pub request_of : List Text → Option HostRequest
request_of (w ∷ []) = request_of_word w
request_of (w ∷ space ∷ at ∷ []) = on_word w (codes "why") (option_map for_why (why_place space at))
request_of _ = None

abbrev pub request_in : List Text → Option HostRequest
request_in [] = None
request_in (w ∷ ws) = on_word w (codes "host") (request_of ws)

-- a long line requests nothing
abbrev pub request : Text → Option HostRequest
request line = if is_long line then None else request_in (words line)

-- for a BDF the offset doesn't matter
abbrev pub why_written : State → HostTarget → Text
why_written s (host_configuration at off) = why_number_text s.functions at
why_written s (host_port n) = why_port_text s n
why_written s (host_address n) = why_text s.functions memory n

-- ---- worked examples

pub record RequestExamples : Type 0 where
  pub audit : request (codes "host audit") ≡ Some (for_report of_problems)
  pub address : request (codes "host why mem 0x80000010") ≡ Some (for_why (host_address 0x80000010))
  pub port : request (codes "host why io 0xcf8") ≡ Some (for_why (host_port 0xcf8))
  pub number :
      request (codes "host why cfg 01:02.3")
      ≡ Some (for_why (host_configuration (record { bus = 1; part = record { device = 2; function = 3 } }) 0))
  pub far_port : request (codes "host why io 0x100000000") ≡ None
  pub no_number : request (codes "host why cfg 01:20.3") ≡ None
  pub no_place : request (codes "host why mem") ≡ None
