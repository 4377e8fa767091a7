use Rattle.std.proofs.Common.{◌≡◌, ◌++◌, ◌-◌, List, ap, ◌∙◌}
use Rattle.pg_msg.specs.declared.message.Sent.{Sent}
use Rattle.pg_run.specs.Journal.{to_live}
use Rattle.pg_run.specs.Run.{effect_entry}
use Rattle.pg_server.specs.declared.input.Out.{Out}
use Rattle.pg_server.specs.Local.{Effect}
use Rattle.pg_world.proofs.Acting.{at_least, at_most, each_behind, effect_by}
use Rattle.pg_world.proofs.machine.Machine.act.Goals as goal

pub returns-clause-servers : goal.returns-clause-servers
returns-clause-servers c = λ stores each.
    let xs = c.args.self.now.servers.items in
    each_behind xs c.args.server c.index_mut.result.now c.args.input stores
    (at_least _ c.args.server c.requires) (at_most _ c.args.server c.requires) c.index_mut.ensures.value each
    c.step.new.self c.in-Ok.ensures.store c.send.new.self.servers.items (ap (λ (v : _). v.items) c.in_ok-send.ensures.servers)

pub returns-clause-bag : goal.returns-clause-bag
returns-clause-bag c = λ stores each.
    let by = effect_by c.args.self.now.servers.items c.args.server c.index_mut.result.now c.args.input stores
    (at_least _ c.args.server c.requires) (at_most _ c.args.server c.requires) c.index_mut.ensures.value each in
    c.in_ok-send.ensures.bag ∙ ap (λ (ms : List Sent). c.args.self.now.bag ++ to_live c.args.self.now.removed ms)
    (c.as_slice.ensures ∙ ap (λ (o : Out). o.sent) c.in-Ok.ensures.out ∙ ap (λ (e : Effect). e.out.sent) by)

pub returns-clause-entry : goal.returns-clause-entry
returns-clause-entry c = λ stores each.
    let by = effect_by c.args.self.now.servers.items c.args.server c.index_mut.result.now c.args.input stores
    (at_least _ c.args.server c.requires) (at_most _ c.args.server c.requires) c.index_mut.ensures.value each in
    ap (λ (o : Out). effect_entry c.args.event (record { store = c.step.new.self.store; out = o })) (c.in-Ok.ensures.out ∙ ap (λ (e : Effect). e.out) by)
