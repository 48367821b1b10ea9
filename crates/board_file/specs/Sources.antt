-- A document together with the bytes of its file.
--     IsRead      the document is what these bytes are
use Rattle.std.specs.Prelude.{◌≡◌, Some, IsUtf8}
use Rattle.toml.specs.{Parse.parse_document, View.table_view}
use Rattle.board_file.specs.declared.source.Source.{Source}

pub record IsRead (s : Source) : Type 0 where
  pub is_text : IsUtf8 s.bytes.now
  pub parsed : parse_document s.bytes.now ≡ Some (table_view s.document.now)
