-- Explanations, converted to the types of the definitions.
--     window_told, windows_told, hindrance_told, cause_told      what keeps a region from answering
--     forwarder_told, region_told, why_told      a bridge, a region, and an address
--     missing_told, number_told      the explanation of a BDF
--     use_told      the role of a port in the configuration mechanism
use Rattle.std.specs.{Prelude.{List, [], ◌++◌, map, unwrap_or, Option, option_map}, Option.option_to_list}
use Rattle.bridge_forward.specs.RoutingRows.{window_of}
use Rattle.paths.specs.BusAddresses.{bus_address_of}
use Rattle.findings.specs.declared.{causes.{WindowName.{WindowName, TheVariants.{Io, Memory, Prefetchable}}, NamedWindow.NamedWindow, BlockReason.{BlockReason, TheVariants.{Closes, Misses}}, Cause.{Cause, TheVariants.{ClosedBy, StoppedAt}}, UnansweredRegion.UnansweredRegion, Forwarder.Forwarder, Why.Why}, number_why.{Missing.{Missing, TheVariants.{NoBridge, NoFunction}}, WhyNumber.WhyNumber}, port_why.PortUse.{PortUse, TheVariants.{HoldsLatch, ShowsData, HidesData, LikeOthers}}}
use Rattle.model_lines.specs.Why as model
use Rattle.model_lines.specs.Ways as ways
use Rattle.model_lines.specs.WhyPorts as ports

abbrev pub name_told : WindowName → model.WindowName
name_told Io = model.for_io
name_told Memory = model.for_memory
name_told Prefetchable = model.for_prefetchable

abbrev pub window_told : NamedWindow → model.NamedWindow
window_told w = record { name = name_told w.name; window = option_map window_of w.window }

abbrev pub windows_told : Option NamedWindow → Option NamedWindow → List model.NamedWindow
windows_told one other = map window_told (option_to_list one) ++ map window_told (option_to_list other)

abbrev pub hindrance_told : BlockReason → model.BlockReason
hindrance_told (Closes command) = model.closes command
hindrance_told (Misses one other) = model.misses (windows_told one other)

abbrev pub cause_told : Cause → model.Cause
cause_told (ClosedBy command) = model.closed_by command
cause_told (StoppedAt bridge hindrance) = model.stopped_at bridge (hindrance_told hindrance)

abbrev pub region_told : UnansweredRegion → model.UnansweredRegion
region_told t = record { region = t.region; causes = map cause_told t.causes.items }

abbrev pub forwarder_told : Forwarder → model.Forwarder
forwarder_told g = record { path = g.path; bus = g.bus }

abbrev pub why_told : Why → model.Why
why_told w = record {
  answer = w.answer;
  forwarders = map forwarder_told w.forwarders.items;
  told = map region_told w.told.items;
  at_reset = w.at_reset;
}

-- no path names bus 0
abbrev pub missing_told : Missing → ways.Missing
missing_told (NoBridge behind bus) = ways.no_bridge (unwrap_or behind []) bus
missing_told (NoFunction behind device function) =
    ways.no_function (unwrap_or behind []) (record { device = device; function = function })

abbrev pub number_told : WhyNumber → ways.WhyNumber
number_told w = record {
  reached = w.reached;
  bridges = w.bridges.items;
  missing = option_map missing_told w.missing;
  not_found = w.not_found.items;
}

abbrev pub use_told : PortUse → ports.PortUse
use_told HoldsLatch = ports.holds_latch
use_told (ShowsData at offset) = ports.shows_data (bus_address_of at) offset
use_told HidesData = ports.hides_data
use_told LikeOthers = ports.like_others
