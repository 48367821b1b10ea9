-- The members of a function's value, put together in parts.
--     vendor_of, device_id_of      Vendor ID and Device ID
--     bdf_and_path_members, with_identity      a function's numbers and its path; with its type and identity beside others
use Rattle.std.specs.Prelude.{ℕ, codes}
use Rattle.serde_json.specs.Data.{string, Members, member, no_members, put}
use Rattle.model_board.specs.{Paths.{Path, last_part}, Board.{Decl, endpoint, bridge}}
use Rattle.model_guests.specs.{Text.Text, PathTexts.path_text}
use Rattle.json_texts.specs.ReportValue.{natural}

abbrev pub vendor_of : Decl → ℕ
vendor_of (endpoint d) = d.vendor
vendor_of (bridge d) = d.vendor

abbrev pub device_id_of : Decl → ℕ
device_id_of (endpoint d) = d.device
device_id_of (bridge d) = d.device

abbrev pub bdf_and_path_members : ℕ → Path → Members
bdf_and_path_members bus p =
    member (codes "bus") (natural bus) (
    member (codes "device") (natural (last_part p).device) (
    member (codes "function") (natural (last_part p).function) (
    member (codes "path") (string (path_text p)) no_members)))

abbrev pub with_identity : Text → ℕ → ℕ → Members → Members
with_identity type vendor device others =
    put (codes "device_id") (natural device) (put (codes "vendor") (natural vendor) (put (codes "type") (string type) others))
