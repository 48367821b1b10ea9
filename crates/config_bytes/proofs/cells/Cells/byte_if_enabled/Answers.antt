use Rattle.config_bytes.proofs.Tables.{IsConfigFile-view, KeepsPlaces-view}
use Rattle.config_bytes.proofs.cells.Cells.byte_if_enabled.Goals as goal

pub returns-then-enabled-clause-places : goal.returns-then-enabled-clause-places
returns-then-enabled-clause-places c = IsConfigFile-view c.self.inside.table.items c.self.inside.initial.items c.args.self.now c.self.view_is

pub returns-else-enabled-clause-places : goal.returns-else-enabled-clause-places
returns-else-enabled-clause-places c = IsConfigFile-view c.self.inside.table.items c.self.inside.initial.items c.args.self.now c.self.view_is

pub returns-then-enabled-clause-kept : goal.returns-then-enabled-clause-kept
returns-then-enabled-clause-kept c = KeepsPlaces-view c.self.inside.table.items c.self.inside.initial.items c.args.self.now c.self.view_is

pub returns-else-enabled-clause-kept : goal.returns-else-enabled-clause-kept
returns-else-enabled-clause-kept c = KeepsPlaces-view c.self.inside.table.items c.self.inside.initial.items c.args.self.now c.self.view_is
