-- Converts a bridge's declared values to a declaration of the formal model.
use Rattle.model_registers.specs.Declarations.{Bridge}
use Rattle.headers.specs.{Decodes.{io_decode_of, pref_decode_of}, declared.bridge_decl.BridgeDecl.TheInside.{Inside}}

abbrev pub bridge_of : Inside → Bridge
bridge_of d = record {
  vendor = d.vendor;
  device = d.device;
  revision = d.revision;
  status = d.status;
  secondary_status = d.secondary_status;
  multifunction = d.multifunction;
  io = io_decode_of d.io;
  pref = pref_decode_of d.pref;
}
