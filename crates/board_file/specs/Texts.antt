-- Texts, and the keywords that a board file uses for kinds.
--     same_text      two texts have the same bytes
--     parse_region_kind, parse_io_decode, parse_pref_decode      what a word says of a base address register, and of a bridge's windows
use Rattle.std.specs.{Prelude.{ℕ, codes, Bool, true, false, List, Option, Some, None, if◌then◌else◌}, Str.bytes_eq}
use Rattle.model_registers.specs.Declarations.{Kind, io_kind, mem32, mem64, IoDecode, no_io, io16, io32, PrefDecode, no_pref, pref32, pref64}

abbrev pub same_text : List ℕ → List ℕ → Bool
same_text a b = bytes_eq a b

abbrev pub parse_region_kind : List ℕ → Option Kind
parse_region_kind t =
    if same_text t (codes "io") then Some io_kind
    else if same_text t (codes "mem32") then Some (mem32 false)
    else if same_text t (codes "mem32p") then Some (mem32 true)
    else if same_text t (codes "mem64") then Some (mem64 false)
    else if same_text t (codes "mem64p") then Some (mem64 true)
    else None

abbrev pub parse_io_decode : List ℕ → Option IoDecode
parse_io_decode t =
    if same_text t (codes "none") then Some no_io
    else if same_text t (codes "16") then Some io16
    else if same_text t (codes "32") then Some io32
    else None

abbrev pub parse_pref_decode : List ℕ → Option PrefDecode
parse_pref_decode t =
    if same_text t (codes "none") then Some no_pref
    else if same_text t (codes "32") then Some pref32
    else if same_text t (codes "64") then Some pref64
    else None
