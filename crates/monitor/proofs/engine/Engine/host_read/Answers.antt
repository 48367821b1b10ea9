use Rattle.std.{proofs.Common.{◌∙◌, sym, ap}, specs.Prelude.option_map}
use Rattle.model_guests.specs.HostReads.{shown}
use Rattle.accesses.specs.{Accesses.{host_target_of, host_access_of}, Refusals.number_of, declared.access.HostAt.HostAt}
use Rattle.monitor.proofs.{Shown.host_replied, Calls.kept_in}
use Rattle.monitor.proofs.engine.Engine.host_read.Goals as goal

pub returns-in-Config-clause-reply : goal.returns-in-Config-clause-reply
returns-in-Config-clause-reply g c =
    let s = c.self.inside.host.state in
    host_replied s c.args.self.now.world (host_access_of c.args.read) (option_map number_of c.fault.result) c.read_config_at-value.result
    (kept_in c.self.invariant.1 c.self.view_is).agrees c.fault.ensures (ap (option_map number_of) c.in_default.is)
    (c.read_config_at-value.ensures.value ∙ ap (λ (at : HostAt). shown s c.args.read.width (host_target_of at)) (sym c.in-Config.is))

pub returns-in-Mem-clause-reply : goal.returns-in-Mem-clause-reply
returns-in-Mem-clause-reply g c =
    let s = c.self.inside.host.state in
    host_replied s c.args.self.now.world (host_access_of c.args.read) (option_map number_of c.fault.result) c.load-value.result
    (kept_in c.self.invariant.1 c.self.view_is).agrees c.fault.ensures (ap (option_map number_of) c.in_default.is)
    (c.load-value.ensures.value ∙ ap (λ (at : HostAt). shown s c.args.read.width (host_target_of at)) (sym c.in-Mem.is))
