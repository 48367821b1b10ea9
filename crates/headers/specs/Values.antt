-- Converts an endpoint's declared values to a declaration of the formal model.
use Rattle.model_registers.specs.Declarations.{Endpoint}
use Rattle.headers.specs.declared.endpoint_decl.EndpointValues.TheInside.{Inside}

abbrev pub endpoint_of : Inside → Endpoint
endpoint_of v = record {
  vendor = v.vendor;
  device = v.device;
  revision = v.revision;
  class = v.class;
  subvendor = v.subvendor;
  subsystem = v.subsystem;
  pin = v.pin;
  min_gnt = v.min_gnt;
  max_lat = v.max_lat;
  status = v.status;
  multifunction = v.multifunction;
  regions = v.bar.items;
  blocks = v.config.items;
}
