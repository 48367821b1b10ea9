-- The entries that remarks are about.
--     entry_of, key_of      the entry that a remark is about, and the key at which it is shown
--     other_of, other_key      the other entry that is named, and the key at which its line is told
use Rattle.std.specs.Prelude.{ℕ, List, codes, Option, Some, None}
use Rattle.board_file.specs.declared.entry.Entry.{Entry}
use Rattle.window_packing.specs.declared.pool.Pool.{Pool, TheVariants.{Io, Mem, Pref}}
use Rattle.board_fit.specs.declared.remark.Remark.{Remark}
use Rattle.board_file.specs.declared.entry.Entry.TheVariants as entry
use Rattle.board_file.specs.declared.entry.EndpointPart.TheVariants as part
use Rattle.board_fit.specs.declared.remark.Remark.TheVariants as remark

abbrev pub aperture_key : Pool → List ℕ
aperture_key Io = codes "io"
aperture_key Mem = codes "mem"
aperture_key Pref = codes "pref"

abbrev pub entry_of : Remark → Entry
entry_of (remark.EmptyBridge i) = entry.Bridge i
entry_of (remark.EndpointOfNone i) = entry.Endpoint i
entry_of (remark.GuestWithoutSlots i) = entry.Guest i
entry_of (remark.WideAperture pool) = entry.Host
entry_of (remark.BridgeTooMany i) = entry.Bridge i
entry_of (remark.NoIoWindow i j k) = entry.Part part.Bar i j

abbrev pub key_of : Remark → List ℕ
key_of (remark.EmptyBridge i) = codes "at"
key_of (remark.EndpointOfNone i) = codes "at"
key_of (remark.GuestWithoutSlots i) = codes "name"
key_of (remark.WideAperture pool) = aperture_key pool
key_of (remark.BridgeTooMany i) = codes "at"
key_of (remark.NoIoWindow i j k) = codes "kind"

-- the bridge above the region
abbrev pub other_of : Remark → Option Entry
other_of (remark.NoIoWindow i j k) = Some (entry.Bridge k)
other_of _ = None

-- the key of the other entry at which its line is told
abbrev pub other_key : List ℕ
other_key = codes "io"
