-- The entries of a board file, read from its table: texts and numbers that haven't been checked. Endpoints stand in Endpoints.
--     Bridge, Guest      what the tables of these names say
--     File, file      the whole file, and how it is read from the table of a document
use Rattle.std.specs.{Prelude.{ℕ, ℤ, pos, codes, Bool, List, [], ◌∷◌, map, Option, unwrap_or, option_map}, List.filter_map}
use Rattle.toml.specs.Data.{Data, Members, get_member, as_integer, as_str}
use Rattle.model_registers.specs.Declarations.{IoDecode, no_io, PrefDecode, no_pref}
use Rattle.board_file.specs.{Texts.{parse_io_decode, parse_pref_decode}, Values.{number_or, number, boolean_or_true, text, values, tables, table_at}, Endpoints.{Endpoint, endpoint}, declared.entries.Bounds.Bounds}

-- ---- tables

pub record Bridge : Type 0 where
  pub at : List ℕ
  pub vendor : ℤ
  pub device : ℤ
  pub revision : ℤ
  pub fixed_status : ℤ
  pub fixed_secondary_status : ℤ
  pub multifunction : Bool
  pub io : IoDecode
  pub pref : PrefDecode

abbrev pub bridge : Members → Bridge
bridge ms = record {
  at = text (codes "at") ms;
  vendor = number (codes "vendor") ms;
  device = number (codes "device") ms;
  revision = number (codes "revision") ms;
  fixed_status = number (codes "fixed_status") ms;
  fixed_secondary_status = number (codes "fixed_secondary_status") ms;
  multifunction = boolean_or_true (codes "multifunction") ms;
  io = unwrap_or (parse_io_decode (text (codes "io") ms)) no_io;
  pref = unwrap_or (parse_pref_decode (text (codes "pref") ms)) no_pref;
}

pub record Guest : Type 0 where
  pub name : List ℕ
  pub slots : List (List ℕ)

abbrev pub guest : Members → Guest
guest ms = record { name = text (codes "name") ms; slots = filter_map as_str (values (codes "slots") ms) }

-- ---- the file

abbrev pub as_integer_or_zero : Data → ℤ
as_integer_or_zero d = unwrap_or (as_integer d) (pos 0)

-- an array of two integers
abbrev pub bounds_or_zeros : List Data → Bounds
bounds_or_zeros (a ∷ b ∷ []) = record { first = as_integer_or_zero a; last = as_integer_or_zero b }
bounds_or_zeros _ = record { first = pos 0; last = pos 0 }

abbrev pub range : List ℕ → Members → Bounds
range k ms = bounds_or_zeros (values k ms)

pub record File : Type 0 where
  pub io : Bounds
  pub mem : Bounds
  pub pref : Option Bounds
  pub devices : ℤ
  pub endpoints : List Endpoint
  pub bridges : List Bridge
  pub guests : List Guest

abbrev pub file : Members → File
file ms = let host = table_at (codes "host") ms in record {
  io = range (codes "io") host;
  mem = range (codes "mem") host;
  pref = option_map (λ _. range (codes "pref") host) (get_member (codes "pref") host);
  devices = number_or (pos 16) (codes "devices") host;
  endpoints = map endpoint (tables (codes "endpoint") ms);
  bridges = map bridge (tables (codes "bridge") ms);
  guests = map guest (tables (codes "guest") ms);
}
